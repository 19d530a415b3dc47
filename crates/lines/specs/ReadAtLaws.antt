-- The laws by which a reader of lines at a place of a text is right. A line at a place has no LF, or lacks something, or has its value (`line_at-bare`,
-- `line_at-fault`, `line_at-value`; by the place after the LF: `line_to-len`, `line_to-bare`, `line_to-fault`, `line_to-value`); an answer goes on or stops
-- (`at_told-goes`, `at_told-stops`), at a place in the text (`at_place-goes`, `at_place-stops`). One line, or group of lines, after another: where its reader goes
-- on, what is left is what follows it (`rest_at-goes`), and where its reader stops, the whole is refused there (`rest_at-stops`). A count is a number
-- (`rest_at-count`).
use Rattle.std.specs.Prelude.{◌≡◌, refl, List, ℕ, ◌+◌, ◌-◌, ◌≤◌, ◌<◌, length, take, drop, ℤ, pos, nat_abs, Result, Ok, Err}
use Rattle.std.proofs.Common.{◌∙◌, subst, arith, lt-ltb, le-ltb, length-drop}
use Rattle.std.proofs.Math.Path.{ap}
use Rattle.std.proofs.Math.Nat.{add_assoc}
use Rattle.std.proofs.Math.Numerals.{add-one}
use Rattle.std.proofs.Math.Seq.{drop-drop}
use Rattle.text.specs.Lines.{LF, len_to, next_line}
use Rattle.text.specs.LineLaws.{next_line-at}
use Rattle.lines.specs.declared.Fault.{Fault}
use Rattle.lines.specs.declared.Refusal.TheVariants.{Form}
use Rattle.lines.specs.declared.FaultyLine.{FaultyLine}
use Rattle.lines.specs.ReadAt.{At, at_told, at_place, faulty_in, RestAt}
use Rattle.lines.specs.Refusals.{fault_at}
use Rattle.lines.specs.Reading.{Reading, read, refused, Reader, next, ◌>>=◌, answer, lined, line, number_line, count_line}

-- ---- a line at a place: t is the rest of the text, and i the length to its LF

module _ {A : Type 0} (f : List ℕ → Result A Fault) (s : List ℕ) (at n : ℕ) (t : List ℕ) (i : ℕ) (rest : t ≡ drop at s) (len : i ≡ len_to LF t) where
  line_at-bare : length t ≤ i → line f (drop at s) n ≡ refused (Form n) (drop at s)
  unfolding line lined
  line_at-bare h = rw (← rest) (rw (le-ltb (len_to LF t) (length t) (omega arith)))

  held : (v : Result A Fault) → i < length t → f (take i t) ≡ v → line f (drop at s) n ≡ lined v (drop at s) n
  unfolding line
  held v h e = rw (← rest) (rw (lt-ltb (len_to LF t) (length t) (omega arith), ← len, e))

  line_at-fault : {e : Fault} → i < length t → f (take i t) ≡ Err e → line f (drop at s) n ≡ refused (fault_at n e) (drop at s)
  unfolding lined
  line_at-fault {e} h d = held (Err e) h d

  line_at-value : {a : A} → i < length t → f (take i t) ≡ Ok a → line f (drop at s) n ≡ read a (drop (at + i + 1) s) (n + 1)
  unfolding lined
  line_at-value {a} h d = held (Ok a) h d ∙ rw (← rest, ← len) (rw (rest, drop-drop (i + 1) at s, add_assoc at i 1, add-one n))

-- ---- a line at a place: next is the place after its LF

pub line_to-len : (s : List ℕ) (at : ℕ) {next : ℕ} → at ≤ length s → next ≡ next_line s at → next - 1 - at ≡ len_to LF (drop at s)
line_to-len s at within end = omega (arith, end ∙ next_line-at s at within)

module _ {A : Type 0} (f : List ℕ → Result A Fault) (s : List ℕ) (at n next : ℕ) (within : at ≤ length s) (end : next ≡ next_line s at) where
  pub line_to-bare : length s < next → line f (drop at s) n ≡ refused (Form n) (drop at s)
  line_to-bare h = line_at-bare f s at n (drop at s) (next - 1 - at) refl (line_to-len s at within end) (omega (arith, length-drop at s))

  pub line_to-fault : {e : Fault} → next ≤ length s → f (take (next - 1 - at) (drop at s)) ≡ Err e → line f (drop at s) n ≡ refused (fault_at n e) (drop at s)
  line_to-fault h d = line_at-fault f s at n (drop at s) (next - 1 - at) refl (line_to-len s at within end)
      (omega (arith, length-drop at s, end ∙ next_line-at s at within)) d

  pub line_to-value : {a : A} → next ≤ length s → f (take (next - 1 - at) (drop at s)) ≡ Ok a → line f (drop at s) n ≡ read a (drop next s) (n + 1)
  line_to-value {a} h d =
      let place : at + (next - 1 - at) + 1 ≡ next = omega (arith, end ∙ next_line-at s at within) in
      line_at-value f s at n (drop at s) (next - 1 - at) refl (line_to-len s at within end) (omega (arith, length-drop at s, end ∙ next_line-at s at within)) d
      ∙ ap (λ (k : ℕ). read a (drop k s) (n + 1)) place

-- ---- a line reader's answer taken apart: m is the reading of a text s that it tells

module _ {A : Type 0} (s : List ℕ) (n : ℕ) {m : Reading A} (r : At A) (told : m ≡ at_told s n r) where
  pub at_told-goes : {a : A} {at : ℕ} → r ≡ Ok (a, at) → m ≡ read a (drop at s) n
  at_told-goes e = told ∙ ap (at_told s n) e

  pub at_told-stops : {f : FaultyLine} → r ≡ Err f → m ≡ faulty_in s f
  at_told-stops e = told ∙ ap (at_told s n) e

module _ {A : Type 0} (r : At A) (k : ℕ) (fits : at_place r ≤ k) where
  pub at_place-goes : {a : A} {at : ℕ} → r ≡ Ok (a, at) → at ≤ k
  at_place-goes e = subst (λ x. at_place x ≤ k) e fits

  pub at_place-stops : {f : FaultyLine} → r ≡ Err f → f.at ≤ k
  at_place-stops e = subst (λ x. at_place x ≤ k) e fits

-- ---- one line, or group of lines, after another: r is the answer of the code's reader to what m reads

module _ {A B : Type 0} {s : List ℕ} {w : Reading B} (m : Reader A) (f : A → Reader B) {at n : ℕ} (rest : RestAt s w (◌>>=◌ m f) at n) (k : ℕ) (r : At A)
    (told : m (drop at s) n ≡ at_told s k r) (fits : at_place r ≤ length s) where
  pub rest_at-goes : {a : A} {to : ℕ} → r ≡ Ok (a, to) → RestAt s w (f a) to k
  unfolding next
  rest_at-goes e =
      record { reads = rest.reads ∙ ap (λ (x : Reading A). next x f) (at_told-goes s k r told e); place = at_place-goes r (length s) fits e }

  pub rest_at-stops : {g : FaultyLine} → r ≡ Err g → (w ≡ faulty_in s g) × (g.at ≤ length s)
  unfolding next
  rest_at-stops e = (rest.reads ∙ ap (λ (x : Reading A). next x f) (at_told-stops s k r told e), at_place-stops r (length s) fits e)

-- a count is its number's line
next-count : {B : Type 0} (m : Reading ℤ) (f : ℕ → Reader B) → next (next m (λ z. answer (nat_abs z))) f ≡ next m (λ z. f (nat_abs z))
unfolding next
next-count (read z t k) f = refl
next-count (refused x t) f = refl

pub rest_at-count : {B : Type 0} {s : List ℕ} {w : Reading B} (key : List ℕ) (lo hi : ℕ) (f : ℕ → Reader B) {at n : ℕ}
    → RestAt s w (◌>>=◌ (count_line key lo hi) f) at n → RestAt s w (◌>>=◌ (number_line key (pos lo) (pos hi)) (λ z. f (nat_abs z))) at n
rest_at-count {s = s} key lo hi f {at} {n} rest =
    record { reads = rest.reads ∙ next-count (number_line key (pos lo) (pos hi) (drop at s) n) f; place = rest.place }
