-- What is reported from the answer to a text: the refusal's two numbers, and its faulty line as a part of the text; and what is reported of a text: nothing
-- where it is not refused, else the refusal and its faulty line (document 01, 'Numbers of refusal': 'A reader of the refusal also gets back the faulty line as a
-- part of the text, without its LF').
use Rattle.std.specs.Prelude.{ℕ, ◌≡◌, List, [], drop, Result, Ok, Err}
use Rattle.text.specs.Lines.{LF, before}
use Rattle.lines.specs.declared.Refusal.{Refusal}
use Rattle.lines.specs.declared.FaultyPart.{FaultyPart}
use Rattle.lines.specs.Refusals.{number, value}
use Rattle.lines.specs.Reading.{Reading, read, refused, refused_number, refused_value, faulty_part}

-- the number and the value that are reported from an answer: those of its refusal, or 0 and 0
abbrev pub answer_number : Result Unit Refusal → ℕ
answer_number (Ok u) = 0
answer_number (Err r) = number r

abbrev pub answer_value : Result Unit Refusal → ℕ
answer_value (Ok u) = 0
answer_value (Err r) = value r

-- the part that comes with an answer and its place in the text s
abbrev pub part_at : List ℕ → ℕ → Result Unit Refusal → List ℕ
part_at s at (Ok u) = []
part_at s at (Err r) = before LF (drop at s)

-- what is reported of a reading, by parts: the faulty line, the number and the value
pub record RefusalReport {A : Type 0} (m : Reading A) (part : List ℕ) (n d : ℕ) : Type 0 where
  pub part-is : part ≡ faulty_part m
  pub number_is : n ≡ refused_number m
  pub value-is : d ≡ refused_value m

-- what a reader of the refusal gets of a reading: nothing where it is not refused, else the refusal and the faulty line
abbrev pub reported : {A : Type 0} → Reading A → Result Unit (Refusal × List ℕ)
reported (read a s n) = Ok tt
reported (refused r s) = Err (r, before LF s)

-- the same of an answer that has the line as a part of the text
abbrev pub part_told : Result Unit FaultyPart → Result Unit (Refusal × List ℕ)
part_told (Ok u) = Ok tt
part_told (Err p) = Err (p.refusal, p.line.now)
