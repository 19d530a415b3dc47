-- What a reader of lines at a place of a text answers, as a reading of the text: a place in the text stands for the text from there on.
use Rattle.std.specs.Prelude.{ℕ, ◌≤◌, ◌≡◌, List, length, drop, Result, Ok, Err}
use Rattle.lines.specs.declared.FaultyLine.{FaultyLine}
use Rattle.lines.specs.Reading.{Reading, read, refused, Reader}

abbrev pub faulty_in : {A : Type 0} → List ℕ → FaultyLine → Reading A
faulty_in s f = refused f.refusal (drop f.at s)

-- What a line reader answers: a value and the place of the line after it, or a fault.
abbrev pub At : Type 0 → Type 0
At A = Result (A × ℕ) FaultyLine

-- the reading of the text s that an answer tells, with the number of the line after it
abbrev pub at_told : {A : Type 0} → List ℕ → ℕ → At A → Reading A
at_told s n (Ok (a, at)) = read a (drop at s) n
at_told s n (Err f) = faulty_in s f

abbrev pub at_place : {A : Type 0} → At A → ℕ
at_place (Ok (a, at)) = at
at_place (Err f) = f.at

-- where a reading of the text s stands: w is what the reader f makes of the text from the place at on, which begins with line n
pub record RestAt {A : Type 0} (s : List ℕ) (w : Reading A) (f : Reader A) (at n : ℕ) : Type 0 where
  pub reads : w ≡ f (drop at s) n
  pub place : at ≤ length s
