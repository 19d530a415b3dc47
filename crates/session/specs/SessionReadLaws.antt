-- The laws of a session's step lines, read to their end. They are read one at a time: where nothing is left they are read (`step_lines-end`), a line that is
-- no step is the last (`step_lines-refused`), and else the lines after it follow (`step_lines-more`). `LinesSoFar` is the loop over the step lines, with a law
-- for each way on (`lines_so_far-..`).
use Rattle.std.specs.Prelude.{ℕ, zero, suc, ◌≤◌, ◌<◌, ◌≡◌, refl, List, [], ◌∷◌, length, drop, Ok, Err}
use Rattle.std.proofs.Common.{sym, subst, ◌∙◌, arith, length-drop, drop_of_length-le}
use Rattle.std.proofs.Math.Path.{ap}
use Rattle.lines.specs.declared.Refusal.{Refusal}
use Rattle.lines.specs.Reading.{Reading, read, refused, Reader, next}
use Rattle.runs.specs.declared.Step.{Step}
use Rattle.session.specs.StepRead.{step_line}
use Rattle.lines.specs.declared.FaultyLine.{FaultyLine}
use Rattle.lines.specs.ReadAt.{faulty_in}
use Rattle.session.specs.declared.StepLines.{StepLines}
use Rattle.session.specs.StepAt.{lines_read, StepRead, StepRefused, IsRead, Ends}
use Rattle.session.specs.SessionRead.{steps_within, step_lines}
use Rattle.session.specs.SessionLaws.{step_line-shorter}

-- ---- the text's length is enough of steps

next-same : {A B : Type 0} (m : Reading A) (f g : A → Reader B) → ((a : A) (t : List ℕ) (k : ℕ) → m ≡ read a t k → f a t k ≡ g a t k) → next m f ≡ next m g
unfolding next
next-same (read a t k) f g h = h a t k refl
next-same (refused x t) f g h = refl

steps_within-enough : (j k : ℕ) (s : List ℕ) (n : ℕ) → length s ≤ j → length s ≤ k → steps_within j s n ≡ steps_within k s n
unfolding steps_within
steps_within-enough zero zero s n g h = refl
steps_within-enough zero (suc k) [] n g h = refl
steps_within-enough zero (suc k) (b ∷ s) n g h = absurd (omega arith)
steps_within-enough (suc j) zero [] n g h = refl
steps_within-enough (suc j) zero (b ∷ s) n g h = absurd (omega arith)
steps_within-enough (suc j) (suc k) [] n g h = refl
steps_within-enough (suc j) (suc k) (b ∷ s) n g h =
    next-same (step_line (b ∷ s) n) (λ st. steps_within j) (λ st. steps_within k)
    (λ st t m e.
    let l = step_line-shorter (b ∷ s) n (omega arith) e in
    steps_within-enough j k t m (omega arith) (omega arith))

-- ---- one step line

step_lines-read : (s : List ℕ) (n : ℕ) → 0 < length s → step_lines s n ≡ next (step_line s n) (λ st. step_lines)
unfolding steps_within
step_lines-read [] n h = absurd (omega arith)
step_lines-read (b ∷ s) n h =
    next-same (step_line (b ∷ s) n) (λ st. steps_within (length s)) (λ st. step_lines)
    (λ st t m e.
    let l = step_line-shorter (b ∷ s) n h e in
    steps_within-enough (length s) (length t) t m (omega arith) (omega arith))

step_lines-end : (s : List ℕ) (i n : ℕ) → length s ≤ i → step_lines (drop i s) n ≡ read tt [] n
unfolding steps_within
step_lines-end s i n h = rw (drop_of_length-le s {i = i} h)

module _ (s : List ℕ) (n : ℕ) (h : 0 < length s) where
  pub step_lines-refused : (x : Refusal) (t : List ℕ) → step_line s n ≡ refused x t → step_lines s n ≡ refused x t
  unfolding next
  step_lines-refused x t e = step_lines-read s n h ∙ ap (λ (m : Reading Step). next m (λ st. step_lines)) e

  pub step_lines-more : (st : Step) (t : List ℕ) (k : ℕ) → step_line s n ≡ read st t k → step_lines s n ≡ step_lines t k
  unfolding next
  step_lines-more st t k e = step_lines-read s n h ∙ ap (λ (m : Reading Step). next m (λ st. step_lines)) e

-- ---- the loop over the step lines l: where it stands, what is left to read, m, is all there was to read

pub record LinesSoFar (l m : StepLines) : Type 0 where
  pub left : lines_read l ≡ lines_read m
  pub same_text : m.text.now ≡ l.text.now

pub lines_so_far-start : (l : StepLines) → LinesSoFar l l
lines_so_far-start l = record { left = refl; same_text = refl }

module _ (l m : StepLines) (w : LinesSoFar l m) where
  pub lines_so_far-end : length m.text.now ≤ m.at → Ends l.text.now (lines_read l) (Ok tt)
  lines_so_far-end h = subst IsRead (sym (w.left ∙ step_lines-end m.text.now m.at m.line h)) tt

  some : m.at < length m.text.now → 0 < length (drop m.at m.text.now)
  some h = omega (arith, length-drop m.at m.text.now)

  pub lines_so_far-refused : (f : FaultyLine) → StepRefused m f → Ends l.text.now (lines_read l) (Err f)
  lines_so_far-refused f r =
      w.left ∙ step_lines-refused (drop m.at m.text.now) m.line (some r.some_left) f.refusal (drop f.at m.text.now) r.reads
      ∙ ap (λ (s : List ℕ). faulty_in s f) w.same_text

  pub lines_so_far-more : (st : Step) (k : StepLines) → StepRead m st k → LinesSoFar l k
  lines_so_far-more st k r =
      record {
        left =
            w.left ∙ step_lines-more (drop m.at m.text.now) m.line (some r.some_left) st (drop k.at m.text.now) k.line r.reads
            ∙ ap (λ (s : List ℕ). step_lines (drop k.at s) k.line) (sym r.same_text);
        same_text = r.same_text ∙ w.same_text;
      }
