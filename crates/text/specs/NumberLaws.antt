-- The laws of numbers.
-- Written: a whole number's text has the form (`decimal-form`) and its value (`decimal-back`), is not empty (`decimal-some`), has at most twenty bytes where it
-- is an i64 (`decimal-short`), and no byte but digits and `-` (`decimal-free`); by its sign it is digits, or `-` and digits (`decimal-above`,
-- `decimal-below`). Read: a text of the form is the text of its value (`number-back`).
-- The range: a number is answered exactly where it lies between the ends (`number_within-below`, `number_within-above`, `number_within-inside`), so a number that
-- was written is read back (`number_in-decimal`, `number_in-back`), and what is answered as a value was its text (`number_in-value`).
-- A line of a key and a number is the number after the key (`number_after-key`, `number_after-other`), written (`number_after-back`, `keyed-free`)
-- and read (`number_after-value`).

use Rattle.std.specs.Prelude.{ℕ, zero, suc, ◌≤◌, ◌<◌, ◌≡◌, refl, Bool, true, false, cond, ◌&&◌, List, [], ◌∷◌, ◌++◌, eqb, ℤ, pos, negsuc, neg_ℤ, nat_abs, length, take, drop, ◌≤ℤ◌, ◌<ℤ◌, Ok, Err}
use Rattle.std.proofs.Common.{sym, ap, ◌∙◌, arith, eqb-true, ne_eqb, SFits}
use Rattle.std.proofs.lemmas.Bool.{false≢true}
use Rattle.std.proofs.Math.Option.{Option, none, some}
use Rattle.std.specs.Int.Signed.{le_z}
use Rattle.std.specs.Int.{w64}
use Rattle.whole.specs.Clash.{clash}
use Rattle.whole.specs.Rules.{wholes}
use Rattle.text.specs.declared.NumberFault.TheVariants.{Form, Range}
use lib.Pointwise.{pointwise}
use Rattle.text.specs.Lines.{LF, len_to, after_key}
use Rattle.text.specs.LineLaws.{len_to-other, free-append, after_key-back, after_key-split, after_key-true, after_key-false}
use Rattle.text.specs.Numbers.{
  minus,
  zero_digit,
  is_digit,
  is_positive,
  is_empty,
  is_number,
  digits_value,
  number_value,
  number_within,
  number_in,
  number_of,
  number_after,
  digits_before,
  digits,
  decimal,
}
use Rattle.text.specs.DigitLaws.{
  digits-all,
  digits-positive,
  digits-some,
  digits-fits,
  digits-free,
  digits-back,
  is_positive-nil,
  is_positive-more,
  positive_back,
  positive-value,
}

-- ---- written

is_number-positive : (s : List ℕ) → is_positive s ≡ true → is_number s ≡ true
unfolding is_number
is_number-positive [] h = sym is_positive-nil ∙ h
is_number-positive (b ∷ s) h =
    let d = is_positive-more b s h in
    rw (ne_eqb b minus (omega arith), ne_eqb b zero_digit (omega arith)) h

number_value-positive : (s : List ℕ) → is_positive s ≡ true → number_value s ≡ pos (digits_value 0 s)
unfolding number_value digits_value
number_value-positive [] h = refl
number_value-positive (b ∷ s) h = let d = is_positive-more b s h in rw (ne_eqb b minus (omega arith))

pub decimal-form : (z : ℤ) → is_number (decimal z) ≡ true
unfolding decimal is_number digits_before
decimal-form (pos zero) = refl
decimal-form (pos (suc n)) = is_number-positive (digits (suc n)) (digits-positive (suc n) (omega arith))
decimal-form (negsuc n) = digits-positive (suc n) (omega arith)

pub decimal-back : (z : ℤ) → number_value (decimal z) ≡ z
unfolding decimal number_value digits_before digits_value
decimal-back (pos zero) = refl
decimal-back (pos (suc n)) = number_value-positive (digits (suc n)) (digits-positive (suc n) (omega arith)) ∙ ap pos (digits-back (suc n))
decimal-back (negsuc n) = ap (λ (k : ℕ). neg_ℤ (pos k)) (digits-back (suc n))

pub decimal-some : (z : ℤ) → 0 < length (decimal z)
unfolding decimal
decimal-some (pos n) = digits-some n
decimal-some (negsuc n) = omega arith

pub decimal-short : (z : ℤ) → SFits w64 z → length (decimal z) ≤ 20
unfolding decimal
decimal-short (pos n) f = omega (arith, digits-fits n 18 (omega arith))
decimal-short (negsuc n) f = omega (arith, digits-fits (suc n) 18 (omega arith))

pub decimal-free : (b : ℕ) → is_digit b ≡ false → (b ≡ minus → ⊥) → (z : ℤ) → len_to b (decimal z) ≡ length (decimal z)
unfolding decimal
decimal-free b e d (pos n) = digits-free b (digits n) e (digits-all n)
decimal-free b e d (negsuc n) = len_to-other b (digits (suc n)) (λ same. d (sym same)) ∙ ap suc (digits-free b (digits (suc n)) e (digits-all (suc n)))

-- by the sign
pub decimal-below : (z : ℤ) → z <ℤ pos 0 → decimal z ≡ minus ∷ digits (nat_abs z)
unfolding decimal
decimal-below (pos n) h = absurd (omega wholes)
decimal-below (negsuc n) h = refl

pub decimal-above : (z : ℤ) → pos 0 ≤ℤ z → decimal z ≡ digits (nat_abs z)
unfolding decimal
decimal-above (pos n) h = refl
decimal-above (negsuc n) h = absurd (omega wholes)

-- ---- read

decimal-neg : (n : ℕ) → 0 < n → decimal (neg_ℤ (pos n)) ≡ minus ∷ digits n
unfolding decimal
decimal-neg zero h = absurd (omega arith)
decimal-neg (suc n) h = refl

pub decimal-pos : (n : ℕ) → decimal (pos n) ≡ digits n
unfolding decimal
decimal-pos n = refl

decimal-zero : (b : ℕ) (s : List ℕ) → b ≡ zero_digit → is_empty s ≡ true → decimal (pos (digits_value 0 (b ∷ s))) ≡ b ∷ s
unfolding decimal digits_before digits_value
decimal-zero b [] e h = rw e
decimal-zero b (a ∷ s) e h = absurd (false≢true h)

pub number-back : (s : List ℕ) → is_number s ≡ true → decimal (number_value s) ≡ s
unfolding is_number number_value
number-back [] h = absurd (false≢true h)
number-back (b ∷ s) h = of (eqb b minus) (eqb b zero_digit) refl refl h
  where
    of : (t q : Bool) → eqb b minus ≡ t → eqb b zero_digit ≡ q → cond t (is_positive s) (cond q (is_empty s) (is_positive (b ∷ s))) ≡ true
        → decimal (cond t (neg_ℤ (pos (digits_value 0 s))) (pos (digits_value 0 (b ∷ s)))) ≡ b ∷ s
    of true q e f h =
        decimal-neg (digits_value 0 s) (positive-value s h)
        ∙ ap (λ (l : List ℕ). minus ∷ l) (positive_back s h)
        ∙ ap (λ (a : ℕ). a ∷ s) (sym (eqb-true b minus e))
    of false true e f h = decimal-zero b s (eqb-true b zero_digit f) h
    of false false e f h = decimal-pos (digits_value 0 (b ∷ s)) ∙ positive_back (b ∷ s) h

-- ---- the range

pub number_within-below : (lo hi z : ℤ) → z <ℤ lo → number_within lo hi z ≡ Err Range
number_within-below lo hi z h = let e : le_z lo z ≡ false = omega wholes in rw e

pub number_within-above : (lo hi z : ℤ) → hi <ℤ z → number_within lo hi z ≡ Err Range
number_within-above lo hi z h = of (le_z lo z) (le_z z hi) (omega wholes)
  where
    of : (a b : Bool) → b ≡ false → cond (a && b) (Ok z) (Err Range) ≡ Err Range
    of true b e = rw e
    of false b e = refl

pub number_within-inside : (lo hi z : ℤ) → lo ≤ℤ z → z ≤ℤ hi → number_within lo hi z ≡ Ok z
number_within-inside lo hi z h g =
    let e : le_z lo z ≡ true = omega wholes in
    let d : le_z z hi ≡ true = omega wholes in
    rw (e, d)

pub number_in-decimal : (lo hi z : ℤ) → number_in lo hi (decimal z) ≡ number_within lo hi z
unfolding number_in
number_in-decimal lo hi z = rw (decimal-form z, decimal-back z)

number_in-back : (lo hi z : ℤ) → lo ≤ℤ z → z ≤ℤ hi → number_in lo hi (decimal z) ≡ Ok z
number_in-back lo hi z h g = number_in-decimal lo hi z ∙ number_within-inside lo hi z h g

pub record NumberWithin (lo hi z : ℤ) : Type 0 where
  pub least : lo ≤ℤ z
  pub greatest : z ≤ℤ hi

pub number_in-value : (lo hi z : ℤ) (s : List ℕ) → number_in lo hi s ≡ Ok z → NumberWithin lo hi z × (s ≡ decimal z)
unfolding number_in
number_in-value lo hi z s h = of (is_number s) (le_z lo v) (le_z v hi) refl refl refl h
  where
    v : ℤ
    v = number_value s

    of : (t p q : Bool) → is_number s ≡ t → le_z lo v ≡ p → le_z v hi ≡ q → cond t (cond (p && q) (Ok v) (Err Range)) (Err Form) ≡ Ok z
        → NumberWithin lo hi z × (s ≡ decimal z)
    of true true true e l g h =
        let same : v ≡ z = cc in
        (record { least = omega wholes; greatest = omega wholes }, sym (number-back s e) ∙ ap decimal same)
    of true true false e l g h = clash (cc)
    of true false q e l g h = clash (cc)
    of false p q e l g h = clash (cc)

-- ---- a line

-- as the code has it, which compares as many bytes of the line with the key
pub number_after-key : (key : List ℕ) (lo hi : ℤ) (s : List ℕ) → pointwise eqb (take (length key) s) key ≡ true
    → number_after key lo hi s ≡ number_in lo hi (drop (length key) s)
unfolding number_of
number_after-key key lo hi s h = rw (after_key-true key s h)

pub number_after-other : (key : List ℕ) (lo hi : ℤ) (s : List ℕ) → pointwise eqb (take (length key) s) key ≡ false → number_after key lo hi s ≡ Err Form
unfolding number_of
number_after-other key lo hi s h = rw (after_key-false key s h)

pub number_after-back : (key : List ℕ) (lo hi : ℤ) (s : List ℕ) → number_after key lo hi (key ++ s) ≡ number_in lo hi s
unfolding number_of
number_after-back key lo hi s = rw (after_key-back key s)

-- a key without LF, with a number after it, is a line
pub keyed-free : (key : List ℕ) (z : ℤ) → len_to LF key ≡ length key → len_to LF (key ++ decimal z) ≡ length (key ++ decimal z)
keyed-free key z e = free-append LF key (decimal z) e (decimal-free LF refl (omega arith) z)

pub number_after-value : (key : List ℕ) (lo hi z : ℤ) (s : List ℕ) → number_after key lo hi s ≡ Ok z → NumberWithin lo hi z × (s ≡ key ++ decimal z)
unfolding number_of
number_after-value key lo hi z s h = of (after_key key s) refl h
  where
    of : (o : Option (List ℕ)) → after_key key s ≡ o → number_of lo hi o ≡ Ok z → NumberWithin lo hi z × (s ≡ key ++ decimal z)
    of none e h = clash (cc)
    of (some t) e h =
        let read = number_in-value lo hi z t h in
        (read.0, after_key-split key s t e ∙ ap (λ (l : List ℕ). key ++ l) read.1)
