-- The numbers of refusal (document 01, 'Numbers of refusal'). The order in which they are given stands with the definition of each
-- answer: of a plan's text in the crate `plan`, of a step in the crate `runs`.
use Rattle.std.specs.Prelude.{ℕ, Bool, List, ◌∷◌, [], ◌++◌, leb}
use Rattle.text.specs.Bytes.{bytes}
use Rattle.text.specs.Lines.{LF, comma}
use Rattle.text.specs.Numbers.{digits}
use Rattle.text.specs.declared.NumberFault.{NumberFault}
use Rattle.text.specs.declared.NumberFault.TheVariants as number_fault
use Rattle.lines.specs.declared.Fault.{Fault}
use Rattle.lines.specs.declared.Fault.TheVariants as fault
use Rattle.lines.specs.declared.Refusal.{Refusal}
use Rattle.lines.specs.declared.Refusal.TheVariants.{
  Form,
  Range,
  Pair,
  NoStrategy,
  Unsettled,
  Running,
  Idle,
  OutsideOffer,
  OutsideTimes,
  Over,
  EmptyOffer,
  NoRoom,
}

-- N, 'given exactly when'
abbrev pub number : Refusal → ℕ
-- 'a line lacks the form required'
number (Form line) = 1
-- 'a number out of range'
number (Range line) = 2
-- 'a wrong pair'
number (Pair line) = 3
-- 'no strategy'
number (NoStrategy windows) = 4
-- 'unsettled'
number (Unsettled rounds) = 5
-- 'ask or start while a job runs'
number Running = 6
-- 'finish while none runs'
number Idle = 7
-- 'start outside the offer'
number OutsideOffer = 8
-- 'finish earlier than start + min or later than start + max'
number OutsideTimes = 9
-- 'ask or start once the last job of window `last` has finished'
number Over = 10
-- 'the offer's lower end is above its upper end'
number EmptyOffer = 11
-- 'the text to be written is longer than the lent buffer'
number NoRoom = 12

-- D: the line, K, the rounds, or 0
abbrev pub value : Refusal → ℕ
value (Form line) = line
value (Range line) = line
value (Pair line) = line
value (NoStrategy windows) = windows
value (Unsettled rounds) = rounds
value Running = 0
value Idle = 0
value OutsideOffer = 0
value OutsideTimes = 0
value Over = 0
value EmptyOffer = 0
value NoRoom = 0

-- 'Printed `refused=N,D`.'
unfoldable pub refused_line : Refusal → List ℕ
refused_line r = bytes "refused=" ++ (digits (number r) ++ (comma ∷ (digits (value r) ++ (LF ∷ []))))

-- 'A step refused by 1 or 2 ends the program; other refusals go on.'
abbrev pub ends : Refusal → Bool
ends r = leb (number r) 2

-- what a number lacks, as what its line lacks
abbrev pub line_lacks : NumberFault → Fault
line_lacks number_fault.Form = fault.Form
line_lacks number_fault.Range = fault.Range

-- what a line lacks, as the refusal of that line
abbrev pub fault_at : ℕ → Fault → Refusal
fault_at line fault.Form = Form line
fault_at line fault.Range = Range line
fault_at line fault.Pair = Pair line

-- 'D is 0 when the text is over 65,536 bytes'
abbrev pub too_long : Refusal
too_long = Form 0

-- 'D is 0 for a run, calendar or time handed over as a value (not in a text line) outside the limits below'
abbrev pub outside_limits : Refusal
outside_limits = Range 0
