-- A text that is refused as it is read is refused by 1, 2 or 3 (`ByForm`): so it is of a line (`line-form`) and of one reading after another (`next-form`).
use Rattle.std.specs.Prelude.{ℕ, ◌≤◌, cond, List, Result, Ok, Err}
use Rattle.std.proofs.Common.{arith}
use Rattle.text.specs.Lines.{LF, before, has}
use Rattle.lines.specs.declared.Fault.{Fault}
use Rattle.lines.specs.declared.Fault.TheVariants as fault
use Rattle.lines.specs.Refusals.{number, fault_at}
use Rattle.lines.specs.Reading.{Reading, read, refused, Reader, next, lined, line, count_line}

abbrev pub ByForm : {A : Type 0} → Reading A → Type 0
ByForm (read a s n) = Unit {0}
ByForm (refused r s) = number r ≤ 3

fault-form : (n : ℕ) (f : Fault) → number (fault_at n f) ≤ 3
fault-form n fault.Form = omega arith
fault-form n fault.Range = omega arith
fault-form n fault.Pair = omega arith

lined-form : {A : Type 0} (v : Result A Fault) (s : List ℕ) (n : ℕ) → ByForm (lined v s n)
unfolding lined
lined-form (Ok a) s n = tt
lined-form (Err f) s n = fault-form n f

pub line-form : {A : Type 0} (f : List ℕ → Result A Fault) (s : List ℕ) (n : ℕ) → ByForm (line f s n)
unfolding line
line-form f s n = lined-form (cond (has LF s) (f (before LF s)) (Err fault.Form)) s n

pub next-form : {A B : Type 0} (m : Reading A) (f : A → Reader B) → ByForm m → ((a : A) (s : List ℕ) (n : ℕ) → ByForm (f a s n)) → ByForm (next m f)
unfolding next
next-form (read a s n) f h g = g a s n
next-form (refused r s) f h g = h

pub count_line-form : (key : List ℕ) (lo hi : ℕ) (s : List ℕ) (n : ℕ) → ByForm (count_line key lo hi s n)
count_line-form key lo hi s n = next-form _ _ (line-form _ s n) (λ z t k. tt)
