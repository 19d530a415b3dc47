-- What is known of the step lines of a text, as they are read one after the other.
use Rattle.std.specs.Prelude.{ℕ, ◌+◌, ◌≤◌, ◌<◌, ◌≡◌, true, List, length, drop, Option, Some, None, Result, Ok, Err, IfOk}
use Rattle.lines.specs.declared.FaultyLine.{FaultyLine}
use Rattle.lines.specs.Reading.{Reading, read, refused}
use Rattle.lines.specs.ReadAt.{At, faulty_in}
use Rattle.runs.specs.declared.Step.{Step}
use Rattle.session.specs.declared.StepLines.{StepLines}
use Rattle.runs.specs.Steps.{is_step}
use Rattle.session.specs.StepRead.{step_line}
use Rattle.session.specs.SessionRead.{step_lines}

-- of a step that was read at a place of a text, and the place of the line after it: its line has seven bytes at least and its LF, and lies in the text; and
-- its time is inside the limits
pub record StepTaken (at len : ℕ) (st : Step) (next : ℕ) : Type 0 where
  pub least : at + 8 ≤ next
  pub most : next ≤ len
  pub timed : is_step st ≡ true

abbrev pub StepWithin : ℕ → ℕ → At Step → Type 0
StepWithin at len r = IfOk r (λ x. StepTaken at len x.0 x.1)

-- the next line of those that are left, as a reading
abbrev pub next_read : StepLines → Reading Step
next_read l = step_line (drop l.at l.text.now) l.line

-- all of them
abbrev pub lines_read : StepLines → Reading Unit
lines_read l = step_lines (drop l.at l.text.now) l.line

-- a line was a step: the lines m that are left after it
pub record StepRead (l : StepLines) (st : Step) (m : StepLines) : Type 0 where
  pub some_left : l.at < length l.text.now
  pub same_text : m.text.now ≡ l.text.now
  pub reads : next_read l ≡ read st (drop m.at l.text.now) m.line
  pub taken : StepTaken l.at (length l.text.now) st m.at

-- a line was none
pub record StepRefused (l : StepLines) (f : FaultyLine) : Type 0 where
  pub some_left : l.at < length l.text.now
  pub reads : next_read l ≡ faulty_in l.text.now f

-- a call of `next` gave r of the lines l, and left m
abbrev pub StepGiven : StepLines → Option (Result Step FaultyLine) → StepLines → Type 0
StepGiven l None m = length l.text.now ≤ l.at
StepGiven l (Some (Ok st)) m = StepRead l st m
StepGiven l (Some (Err f)) m = StepRefused l f

-- what a reading m of the text s came to: it was read, or refused at a line
abbrev pub IsRead : {A : Type 0} → Reading A → Type 0
IsRead (read a s n) = Unit {0}
IsRead (refused x s) = ⊥

abbrev pub Ends : {A : Type 0} → List ℕ → Reading A → Result Unit FaultyLine → Type 0
Ends s m (Ok u) = IsRead m
Ends s m (Err f) = m ≡ faulty_in s f
