-- The laws of digits as the code reads them.
-- From `too_large` on the value does not matter (`digits_read-large`, `number_within-capped`, `number_within-capped-neg`).
-- One turn of the reader: it begins after the test for a leading zero (`positive_read-empty`, `positive_read-zero`, `positive_read-first`); it stops at a byte
-- that is no digit (`digits_read-stop`; `digits_read-below`, `digits_read-above`), goes on past a digit (`digits_read-past`, `digits_read-cut`), and ends
-- (`digits_read-end`).
-- What a number is whose digits were read so: `number_in-empty`, `number_in-zero`, `number_in-zero-led`, `number_in-positive`, `number_in-negative`, and the last
-- two where the digits are bad (`number_in-positive-bad`, `number_in-negative-bad`).

use Rattle.std.specs.Prelude.{ℕ, suc, ◌+◌, ◌*◌, ◌-◌, ◌≤◌, ◌<◌, ◌≡◌, Bool, true, false, cond, ◌&&◌, eqb, leb, ℤ, pos, neg_ℤ, length, get_or, take, drop, Err, Some, None}
use Rattle.std.proofs.Math.Path.{refl, ap}
use Rattle.std.proofs.Common.{sym, ◌∙◌, eqb-true, true≢false, add-one, arith, drop_of_length-le, drop-cons, SFits}
use Rattle.std.proofs.lemmas.Bool.{false≢true}
use mathlib.Core.List.{List, [], ◌∷◌}
use lib.Pointwise.{pointwise}
use borrow.Author.Tests.{ne_eqb, le-leb, lt-leb, leb-true, leb-false}
use Rattle.std.specs.Int.{w64}
use Rattle.whole.specs.Clash.{clash}
use Rattle.whole.specs.Rules.{wholes}
use Rattle.whole.specs.SplitLaws.{split-neg}
use Rattle.whole.specs.Order.{fits-least, fits_below}
use Rattle.text.specs.declared.NumberFault.TheVariants.{Form}
use Rattle.text.specs.Numbers.{minus, zero_digit, nine_digit, is_digit, all_digits, is_positive, is_empty, is_number, digits_value, number_value, number_within, number_in}
use Rattle.text.specs.DigitLaws.{is_positive-nil, is_positive-more, digits_value-grows}
use Rattle.text.specs.NumberLaws.{number_within-below, number_within-above}
use Rattle.text.specs.DigitsRead.{too_large, capped, digits_read, positive_read}

-- ---- a digit

is_digit-yes : (b : ℕ) → zero_digit ≤ b → b ≤ nine_digit → is_digit b ≡ true
is_digit-yes b h g = rw (le-leb zero_digit b h, le-leb b nine_digit g)

is_digit-below : (b : ℕ) → b < zero_digit → is_digit b ≡ false
is_digit-below b h = rw (lt-leb zero_digit b h)

is_digit-above : (b : ℕ) → nine_digit < b → is_digit b ≡ false
is_digit-above b h = rw (lt-leb b nine_digit h, le-leb zero_digit b (omega arith))

-- ---- large numbers

digits_read-large : (m n : ℕ) (s : List ℕ) → too_large ≤ m → too_large ≤ n → digits_read m s ≡ digits_read n s
unfolding digits_read
digits_read-large m n s h g =
    let e : capped (digits_value m s) ≡ capped (digits_value n s) = omega (arith, digits_value-grows m s, digits_value-grows n s) in
    ap (λ (k : ℕ). cond (all_digits s) (Some k) None) e

-- ---- a turn

digits_read-more : (n b : ℕ) (s : List ℕ) → zero_digit ≤ b → b ≤ nine_digit → digits_read n (b ∷ s) ≡ digits_read (n * 10 + (b - zero_digit)) s
unfolding digits_read all_digits digits_value
digits_read-more n b s h g = rw (is_digit-yes b h g)

digits_read-other : (n b : ℕ) (s : List ℕ) → is_digit b ≡ false → digits_read n (b ∷ s) ≡ None
unfolding digits_read all_digits
digits_read-other n b s e = rw e

module _ (s : List ℕ) (i n : ℕ) (h : i < length s) where
  pub digits_read-stop : is_digit (get_or s i 0) ≡ false → digits_read n (drop i s) ≡ None
  digits_read-stop e = rw (drop-cons s i 0 h) (digits_read-other n (get_or s i 0) (drop (suc i) s) e)

  pub digits_read-below : get_or s i 0 < zero_digit → digits_read n (drop i s) ≡ None
  digits_read-below g = digits_read-stop (is_digit-below (get_or s i 0) g)

  pub digits_read-above : nine_digit < get_or s i 0 → digits_read n (drop i s) ≡ None
  digits_read-above g = digits_read-stop (is_digit-above (get_or s i 0) g)

  pub digits_read-past : zero_digit ≤ get_or s i 0 → get_or s i 0 ≤ nine_digit
      → digits_read n (drop i s) ≡ digits_read (n * 10 + (get_or s i 0 - zero_digit)) (drop (i + 1) s)
  digits_read-past g k = rw (add-one, drop-cons s i 0 h) (digits_read-more n (get_or s i 0) (drop (suc i) s) g k)

  pub digits_read-cut : zero_digit ≤ get_or s i 0 → get_or s i 0 ≤ nine_digit → 1000000000000000000 ≤ n
      → digits_read n (drop i s) ≡ digits_read too_large (drop (i + 1) s)
  digits_read-cut g k large = digits_read-past g k ∙ digits_read-large (n * 10 + (get_or s i 0 - zero_digit)) too_large (drop (i + 1) s) (omega arith) (omega arith)

pub digits_read-end : (s : List ℕ) (i n : ℕ) → length s ≤ i → n ≤ too_large → digits_read n (drop i s) ≡ Some n
unfolding digits_read all_digits digits_value
digits_read-end s i n h g = let e : capped n ≡ n = omega arith in rw (drop_of_length-le s h) (ap Some e)

-- ---- the beginning

pub positive_read-empty : (s : List ℕ) → length s ≡ 0 → positive_read s ≡ None
unfolding positive_read is_positive
positive_read-empty [] e = refl
positive_read-empty (b ∷ s) e = absurd (omega arith)

pub positive_read-zero : (s : List ℕ) → 0 < length s → get_or s 0 0 ≡ zero_digit → positive_read s ≡ None
unfolding positive_read is_positive
positive_read-zero [] h e = absurd (omega arith)
positive_read-zero (b ∷ s) h e = rw e

pub positive_read-first : (s : List ℕ) → 0 < length s → (get_or s 0 0 ≡ zero_digit → ⊥) → positive_read s ≡ digits_read 0 s
unfolding positive_read digits_read is_positive
positive_read-first [] h d = absurd (omega arith)
positive_read-first (b ∷ s) h d = rw (ne_eqb b zero_digit d)

-- ---- a number of either sign

positive_read-value : (s : List ℕ) (n : ℕ) → positive_read s ≡ Some n → (is_positive s ≡ true) × (capped (digits_value 0 s) ≡ n)
unfolding positive_read
positive_read-value s n e = of (is_positive s) e
  where
    of : (t : Bool) → cond t (Some (capped (digits_value 0 s))) None ≡ Some n → (t ≡ true) × (capped (digits_value 0 s) ≡ n)
    of true e = (refl, cc)
    of false e = clash (cc)

positive_read-bad : (s : List ℕ) → positive_read s ≡ None → is_positive s ≡ false
unfolding positive_read
positive_read-bad s e = of (is_positive s) e
  where
    of : (t : Bool) → cond t (Some (capped (digits_value 0 s))) None ≡ None → t ≡ false
    of true e = clash (cc)
    of false e = refl

-- whether a text begins with `-`, by its first byte
and-true : (b : Bool) → (b && true) ≡ b
and-true true = refl
and-true false = refl

no_minus : (b : ℕ) (s : List ℕ) → pointwise eqb (take 1 (b ∷ s)) (minus ∷ []) ≡ false → eqb b minus ≡ false
no_minus b s m = sym (and-true (eqb b minus)) ∙ m

a_minus : (b : ℕ) (s : List ℕ) → pointwise eqb (take 1 (b ∷ s)) (minus ∷ []) ≡ true → eqb b minus ≡ true
a_minus b s m = sym (and-true (eqb b minus)) ∙ m

module _ (lo hi : ℤ) where
  -- above the cut the value does not matter
  number_within-capped : (n : ℕ) → SFits w64 hi → number_within lo hi (pos (capped n)) ≡ number_within lo hi (pos n)
  number_within-capped n f = of (leb n too_large) refl
    where
      of : (t : Bool) → leb n too_large ≡ t → number_within lo hi (pos (capped n)) ≡ number_within lo hi (pos n)
      of true e = let same : capped n ≡ n = omega (arith, leb-true n too_large e) in rw same
      of false e =
          number_within-above lo hi (pos (capped n)) (omega (wholes, fits_below f, leb-false n too_large e))
          ∙ sym (number_within-above lo hi (pos n) (omega (wholes, fits_below f, leb-false n too_large e)))

  number_within-capped-neg : (n : ℕ) → SFits w64 lo → number_within lo hi (neg_ℤ (pos (capped n))) ≡ number_within lo hi (neg_ℤ (pos n))
  number_within-capped-neg n f = of (leb n too_large) refl
    where
      of : (t : Bool) → leb n too_large ≡ t → number_within lo hi (neg_ℤ (pos (capped n))) ≡ number_within lo hi (neg_ℤ (pos n))
      of true e = let same : capped n ≡ n = omega (arith, leb-true n too_large e) in rw same
      of false e =
          number_within-below lo hi (neg_ℤ (pos (capped n))) (omega (wholes, fits-least f, split-neg (pos (capped n)), leb-false n too_large e))
          ∙ sym (number_within-below lo hi (neg_ℤ (pos n)) (omega (wholes, fits-least f, split-neg (pos n), leb-false n too_large e)))

  pub number_in-empty : (s : List ℕ) → length s ≡ 0 → number_in lo hi s ≡ Err Form
  unfolding number_in is_number
  number_in-empty [] e = refl
  number_in-empty (b ∷ s) e = absurd (omega arith)

  pub number_in-zero : (s : List ℕ) → pointwise eqb s (zero_digit ∷ []) ≡ true → number_in lo hi s ≡ number_within lo hi (pos 0)
  unfolding number_in is_number number_value digits_value
  number_in-zero [] h = absurd (false≢true h)
  number_in-zero (b ∷ []) h = of (eqb b zero_digit) refl h
    where
      of : (t : Bool) → eqb b zero_digit ≡ t → (t && true) ≡ true → number_in lo hi (b ∷ []) ≡ number_within lo hi (pos 0)
      of true e h = rw (eqb-true b zero_digit e)
      of false e h = absurd (false≢true h)
  number_in-zero (b ∷ c ∷ s) h = of (eqb b zero_digit) h
    where
      of : (t : Bool) → (t && false) ≡ true → number_in lo hi (b ∷ c ∷ s) ≡ number_within lo hi (pos 0)
      of true h = absurd (false≢true h)
      of false h = absurd (false≢true h)

  pub number_in-zero-led : (s : List ℕ) → (length s ≡ 1 → ⊥) → get_or s 0 0 ≡ zero_digit → number_in lo hi s ≡ Err Form
  unfolding number_in is_number
  number_in-zero-led [] h e = refl
  number_in-zero-led (b ∷ []) h e = absurd (h refl)
  number_in-zero-led (b ∷ c ∷ s) h e = rw e

  pub number_in-positive : (s : List ℕ) (n : ℕ) → SFits w64 hi → pointwise eqb (take 1 s) (minus ∷ []) ≡ false → positive_read s ≡ Some n
      → number_in lo hi s ≡ number_within lo hi (pos n)
  unfolding number_in is_number number_value
  number_in-positive [] n f m e = absurd (false≢true (sym is_positive-nil ∙ (positive_read-value [] n e).0))
  number_in-positive (b ∷ s) n f m e =
      let read = positive_read-value (b ∷ s) n e in
      rw (no_minus b s m, ne_eqb b zero_digit (omega (arith, (is_positive-more b s read.0).0)), read.0)
      (sym (number_within-capped (digits_value 0 (b ∷ s)) f) ∙ ap (λ (k : ℕ). number_within lo hi (pos k)) read.1)

  pub number_in-positive-bad : (s : List ℕ) → pointwise eqb s (zero_digit ∷ []) ≡ false → pointwise eqb (take 1 s) (minus ∷ []) ≡ false → positive_read s ≡ None
      → number_in lo hi s ≡ Err Form
  unfolding number_in is_number
  number_in-positive-bad [] z m e = refl
  number_in-positive-bad (b ∷ s) z m e = rw (no_minus b s m) (of (eqb b zero_digit) s z (positive_read-bad (b ∷ s) e))
    where
      of : (t : Bool) (s : List ℕ) → (t && pointwise eqb s []) ≡ false → is_positive (b ∷ s) ≡ false
          → cond (cond t (is_empty s) (is_positive (b ∷ s))) (number_within lo hi (number_value (b ∷ s))) (Err Form) ≡ Err Form
      of true [] z p = absurd (true≢false z)
      of true (c ∷ s) z p = refl
      of false s z p = rw p

  pub number_in-negative : (s : List ℕ) (n : ℕ) → SFits w64 lo → pointwise eqb (take 1 s) (minus ∷ []) ≡ true → positive_read (drop 1 s) ≡ Some n
      → number_in lo hi s ≡ number_within lo hi (neg_ℤ (pos n))
  unfolding number_in is_number number_value
  number_in-negative [] n f m e = absurd (false≢true m)
  number_in-negative (b ∷ s) n f m e =
      let read = positive_read-value s n e in
      rw (a_minus b s m, read.0) (sym (number_within-capped-neg (digits_value 0 s) f) ∙ ap (λ (k : ℕ). number_within lo hi (neg_ℤ (pos k))) read.1)

  pub number_in-negative-bad : (s : List ℕ) → pointwise eqb (take 1 s) (minus ∷ []) ≡ true → positive_read (drop 1 s) ≡ None → number_in lo hi s ≡ Err Form
  unfolding number_in is_number
  number_in-negative-bad [] m e = absurd (false≢true m)
  number_in-negative-bad (b ∷ s) m e = rw (a_minus b s m, positive_read-bad s e)
