-- How a text is read line by line (document 01, 'Numbers of refusal': 'then the first faulty line decides'; 'A reader of the refusal also
-- gets back the faulty line as a part of the text, without its LF').
use Rattle.std.specs.Prelude.{ℕ, suc, cond, List, [], ℤ, pos, nat_abs, Result, Ok, Err}
use Rattle.text.specs.Lines.{LF, before, has, after}
use Rattle.text.specs.Numbers.{number_after}
use Rattle.lines.specs.declared.Fault.{Fault}
use Rattle.lines.specs.declared.Fault.TheVariants as fault
use Rattle.text.specs.declared.NumberFault.{NumberFault}
use Rattle.lines.specs.declared.Refusal.{Refusal}
use Rattle.lines.specs.Refusals.{line_lacks, fault_at}
use Rattle.lines.specs.Refusals as refusals

-- 'At most 65,536 bytes, a session's steps counted in.'
abbrev pub longest_text : ℕ
longest_text = 65536

-- A text read from some line on: the value, what is left of the text and the number of its first line; or the refusal and the text from the
-- faulty line on.
pub data Reading (A : Type 0) : Type 0 where
  read : A → List ℕ → ℕ → Reading A
  refused : Refusal → List ℕ → Reading A

-- A reader takes what is left of the text and the number of its first line.
abbrev pub Reader : Type 0 → Type 0
Reader A = List ℕ → ℕ → Reading A

-- 'the first faulty line decides': a reading goes on from where the one before it ended, and ends with its refusal
unfoldable pub next : {A B : Type 0} → Reading A → (A → Reader B) → Reading B
next (read a s n) f = f a s n
next (refused r s) f = refused r s

abbrev pub ◌>>=◌ : {A B : Type 0} → Reader A → (A → Reader B) → Reader B
◌>>=◌ m f s n = next (m s n) f

abbrev pub answer : {A : Type 0} → A → Reader A
answer a s n = read a s n

-- A line taken for itself, its value or what it lacks, becomes a reading: its value and the text after it, or its refusal.
unfoldable pub lined : {A : Type 0} → Result A Fault → List ℕ → ℕ → Reading A
lined (Ok a) s n = read a (after LF s) (suc n)
lined (Err f) s n = refused (fault_at n f) s

-- 'each ended by one LF': without it the line lacks its form, whatever stands in it. 'A line that is missing is faulty by 1 under the
-- number it would have'
unfoldable pub line : {A : Type 0} → (List ℕ → Result A Fault) → Reader A
line f s n = lined (cond (has LF s) (f (before LF s)) (Err fault.Form)) s n

unfoldable pub lined_number : Result ℤ NumberFault → Result ℤ Fault
lined_number (Ok z) = Ok z
lined_number (Err f) = Err (line_lacks f)

-- a line that is a key and a number from lo to hi
abbrev pub number_line : List ℕ → ℤ → ℤ → Reader ℤ
number_line key lo hi = line (λ l. lined_number (number_after key lo hi l))

-- a line that is a key and a count
abbrev pub count_line : List ℕ → ℕ → ℕ → Reader ℕ
count_line key lo hi = do
  z ← number_line key (pos lo) (pos hi)
  answer (nat_abs z)

-- what a reader of the refusal gets: N and D, or 0 and 0 of a text that is not refused
abbrev pub refused_number : {A : Type 0} → Reading A → ℕ
refused_number (read a s n) = 0
refused_number (refused r s) = refusals.number r

abbrev pub refused_value : {A : Type 0} → Reading A → ℕ
refused_value (read a s n) = 0
refused_value (refused r s) = refusals.value r

-- 'A reader of the refusal also gets back the faulty line as a part of the text, without its LF': of a line that is missing, and of a text that is
-- not refused, 'as a part it is empty'
unfoldable pub faulty_part : {A : Type 0} → Reading A → List ℕ
faulty_part (read a s n) = []
faulty_part (refused r s) = before LF s
