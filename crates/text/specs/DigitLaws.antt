-- The laws of a number's digits.
-- The equations: a number below ten is one digit (`digits-one`), any other its tenth's digits and its last digit (`digits_more`), and
-- so with their count (`digits-length-one`, `digits-length-more`). So a fact that holds of one
-- digit and is kept by a digit more holds of the digits of every number (`digits-each`).
-- What they are: digits all (`digits-all`), without a leading zero (`digits-positive`), at least one (`digits-some`) and at most twenty below 2^64
-- (`digits-short`); no other byte stands among them (`digits-free`).
-- Read and written: a digit more makes a number no smaller (`digits_value-grows`), so digits without a leading zero are a number above 0 (`positive-value`);
-- the digits' number is the number (`digits-back`), and the digits of a number that was read are what was read (`positive_back`).

use Rattle.std.specs.Prelude.{ℕ, zero, suc, Option, Some, None, IfSome, IfNone, unwrap_or, ◌+◌, ◌*◌, ◌-◌, ◌/◌, ◌%◌, ◌^◌, ◌≤◌, ◌<◌, ◌≡◌, refl, Bool, true, false, not, cond, ◌&&◌, List, [], ◌∷◌, ◌++◌, eqb, leb, ltb, length}
use Rattle.std.proofs.Common.{sym, ap, ◌∙◌, true≢false, append_assoc, append-nil, pow-suc, arith, length-append, lt-ltb, le-ltb, ltb-true, ltb-false, le-leb, leb-true, ne_eqb}
use Rattle.std.proofs.lemmas.Bool.{false≢true, eqb-false}
use Rattle.whole.specs.Clash.{clash}
use Rattle.text.specs.Lines.{len_to}
use Rattle.text.specs.LineLaws.{len_to-other}
use Rattle.text.specs.Numbers.{zero_digit, nine_digit, is_digit, all_digits, is_positive, digits_value, digits_before, digits}

-- ---- the equations

digits_before-append : (k n : ℕ) (ds : List ℕ) → digits_before k n ds ≡ digits_before k n [] ++ ds
unfolding digits_before
digits_before-append zero n ds = refl
digits_before-append (suc k) n ds = of (ltb n 10) (digits_before-append k (n / 10) (d ∷ ds)) (digits_before-append k (n / 10) (d ∷ []))
  where
    d : ℕ
    d = zero_digit + n % 10

    of : (t : Bool) → digits_before k (n / 10) (d ∷ ds) ≡ digits_before k (n / 10) [] ++ (d ∷ ds)
        → digits_before k (n / 10) (d ∷ []) ≡ digits_before k (n / 10) [] ++ (d ∷ [])
        → cond t ((zero_digit + n) ∷ ds) (digits_before k (n / 10) (d ∷ ds)) ≡ cond t ((zero_digit + n) ∷ []) (digits_before k (n / 10) (d ∷ [])) ++ ds
    of true p q = refl
    of false p q = p ∙ sym (append_assoc (digits_before k (n / 10) []) (d ∷ []) ds) ∙ ap (λ (s : List ℕ). s ++ ds) (sym q)

-- any fuel that is enough gives the same digits
digits_before-fuel : (j k n : ℕ) (ds : List ℕ) → n ≤ j → n ≤ k → digits_before j n ds ≡ digits_before k n ds
unfolding digits_before
digits_before-fuel zero zero n ds h g = refl
digits_before-fuel zero (suc k) n ds h g = rw (lt-ltb n 10 (omega arith))
digits_before-fuel (suc j) zero n ds h g = rw (lt-ltb n 10 (omega arith))
digits_before-fuel (suc j) (suc k) n ds h g = of (ltb n 10) refl (λ large. digits_before-fuel j k (n / 10) (d ∷ ds) (omega arith) (omega arith))
  where
    d : ℕ
    d = zero_digit + n % 10

    of : (t : Bool) → ltb n 10 ≡ t → (10 ≤ n → digits_before j (n / 10) (d ∷ ds) ≡ digits_before k (n / 10) (d ∷ ds))
        → cond t ((zero_digit + n) ∷ ds) (digits_before j (n / 10) (d ∷ ds)) ≡ cond t ((zero_digit + n) ∷ ds) (digits_before k (n / 10) (d ∷ ds))
    of true e more = refl
    of false e more = more (ltb-false n 10 e)

pub digits-one : (n : ℕ) → n < 10 → digits n ≡ (zero_digit + n) ∷ []
unfolding digits_before
digits-one zero h = refl
digits-one (suc n) h = rw (lt-ltb (suc n) 10 h)

pub digits_more : (n : ℕ) → 10 ≤ n → digits n ≡ digits (n / 10) ++ ((zero_digit + n % 10) ∷ [])
unfolding digits_before
digits_more zero h = absurd (omega arith)
digits_more (suc n) h =
    let d = zero_digit + suc n % 10 in
    rw (le-ltb (suc n) 10 h)
    (digits_before-append n (suc n / 10) (d ∷ [])
    ∙ ap (λ (s : List ℕ). s ++ (d ∷ [])) (digits_before-fuel n (suc n / 10) (suc n / 10) [] (omega arith) (omega arith)))

pub digits-length-one : (n : ℕ) → n < 10 → length (digits n) ≡ 1
digits-length-one n h = ap length (digits-one n h)

pub digits-length-more : (n : ℕ) → 10 ≤ n → length (digits n) ≡ length (digits (n / 10)) + 1
digits-length-more n h = ap length (digits_more n h) ∙ length-append (digits (n / 10)) ((zero_digit + n % 10) ∷ [])

module _ (P : ℕ → List ℕ → Type 0) (one : (n : ℕ) → n < 10 → P n ((zero_digit + n) ∷ []))
    (more : (n : ℕ) (s : List ℕ) → 10 ≤ n → P (n / 10) s → P n (s ++ ((zero_digit + n % 10) ∷ []))) where
  each_below : (k n : ℕ) → n ≤ k → P n (digits n)
  each_below zero n h = rw (digits-one n (omega arith)) (one n (omega arith))
  each_below (suc k) n h = of (ltb n 10) refl (λ large. each_below k (n / 10) (omega arith))
    where
      of : (t : Bool) → ltb n 10 ≡ t → (10 ≤ n → P (n / 10) (digits (n / 10))) → P n (digits n)
      of true e before = rw (digits-one n (ltb-true n 10 e)) (one n (ltb-true n 10 e))
      of false e before = rw (digits_more n (ltb-false n 10 e)) (more n (digits (n / 10)) (ltb-false n 10 e) (before (ltb-false n 10 e)))

  pub digits-each : (n : ℕ) → P n (digits n)
  digits-each n = each_below n n (omega arith)

-- ---- what they are

pub is_digit-of : (n : ℕ) → n < 10 → is_digit (zero_digit + n) ≡ true
is_digit-of n h = rw (le-leb zero_digit (zero_digit + n) (omega arith), le-leb (zero_digit + n) nine_digit (omega arith))

pub is_digit-range : (b : ℕ) → is_digit b ≡ true → (zero_digit ≤ b) × (b ≤ nine_digit)
is_digit-range b e = of (leb zero_digit b) (leb b nine_digit) refl refl e
  where
    of : (t q : Bool) → leb zero_digit b ≡ t → leb b nine_digit ≡ q → (t && q) ≡ true → (zero_digit ≤ b) × (b ≤ nine_digit)
    of true true l h e = (leb-true zero_digit b l, leb-true b nine_digit h)
    of true false l h e = absurd (false≢true e)
    of false q l h e = absurd (false≢true e)

all_digits-more : (b : ℕ) (s : List ℕ) → all_digits (b ∷ s) ≡ true → (zero_digit ≤ b) × (b ≤ nine_digit) × (all_digits s ≡ true)
unfolding all_digits
all_digits-more b s h = of (is_digit b) refl h
  where
    of : (t : Bool) → is_digit b ≡ t → cond t (all_digits s) false ≡ true → (zero_digit ≤ b) × (b ≤ nine_digit) × (all_digits s ≡ true)
    of true e h = ((is_digit-range b e).0, (is_digit-range b e).1, h)
    of false e h = absurd (false≢true h)

pub is_positive-nil : is_positive [] ≡ false
unfolding is_positive
is_positive-nil = refl

pub is_positive-more : (b : ℕ) (s : List ℕ) → is_positive (b ∷ s) ≡ true → (zero_digit < b) × (b ≤ nine_digit) × (all_digits s ≡ true)
unfolding is_positive
is_positive-more b s h = of (eqb b zero_digit) refl h
  where
    of : (t : Bool) → eqb b zero_digit ≡ t → (not t && all_digits (b ∷ s)) ≡ true → (zero_digit < b) × (b ≤ nine_digit) × (all_digits s ≡ true)
    of true e h = absurd (false≢true h)
    of false e h =
        let d = all_digits-more b s h in
        let apart : (b ≡ zero_digit → ⊥) = eqb-false b zero_digit e in
        (omega arith, d.1, d.2)

all_digits-last : (s : List ℕ) (b : ℕ) → all_digits s ≡ true → is_digit b ≡ true → all_digits (s ++ (b ∷ [])) ≡ true
unfolding all_digits
all_digits-last [] b h e = rw e
all_digits-last (a ∷ s) b h e = of (is_digit a) h (λ g. all_digits-last s b g e)
  where
    of : (t : Bool) → cond t (all_digits s) false ≡ true → (all_digits s ≡ true → all_digits (s ++ (b ∷ [])) ≡ true)
        → cond t (all_digits (s ++ (b ∷ []))) false ≡ true
    of true h more = more h
    of false h more = h

is_positive-last : (s : List ℕ) (b : ℕ) → is_positive s ≡ true → is_digit b ≡ true → is_positive (s ++ (b ∷ [])) ≡ true
unfolding is_positive
is_positive-last [] b h e = clash (cc)
is_positive-last (a ∷ s) b h e = of (not (eqb a zero_digit)) h
  where
    of : (t : Bool) → (t && all_digits (a ∷ s)) ≡ true → (t && all_digits (a ∷ (s ++ (b ∷ [])))) ≡ true
    of true h = all_digits-last (a ∷ s) b h e
    of false h = h

last-digit : (n : ℕ) → is_digit (zero_digit + n % 10) ≡ true
last-digit n = is_digit-of (n % 10) (omega arith)

pub digits-all : (n : ℕ) → all_digits (digits n) ≡ true
unfolding all_digits
digits-all n = digits-each (λ n s. all_digits s ≡ true) one (λ n s h g. all_digits-last s (zero_digit + n % 10) g (last-digit n)) n
  where
    one : (n : ℕ) → n < 10 → all_digits ((zero_digit + n) ∷ []) ≡ true
    one n h = all_digits-last [] (zero_digit + n) refl (is_digit-of n h)

pub digits-positive : (n : ℕ) → 0 < n → is_positive (digits n) ≡ true
unfolding is_positive all_digits
digits-positive n = digits-each (λ n s. 0 < n → is_positive s ≡ true) one
    (λ n s h g p. is_positive-last s (zero_digit + n % 10) (g (omega arith)) (last-digit n)) n
  where
    one : (n : ℕ) → n < 10 → 0 < n → is_positive ((zero_digit + n) ∷ []) ≡ true
    one n h p = rw (ne_eqb (zero_digit + n) zero_digit (omega arith), is_digit-of n h)

pub digits-some : (n : ℕ) → 0 < length (digits n)
digits-some n = digits-each (λ n s. 0 < length s) (λ n h. omega arith) (λ n s h g. omega (arith, length-append s ((zero_digit + n % 10) ∷ []))) n

-- below 10^(k + 1) there are at most k + 1 digits
pub digits-fits : (n k : ℕ) → n < 10 ^ suc k → length (digits n) ≤ suc k
digits-fits n = digits-each (λ n s. (k : ℕ) → n < 10 ^ suc k → length s ≤ suc k) (λ n h k g. omega arith) more n
  where
    more : (n : ℕ) (s : List ℕ) → 10 ≤ n → ((k : ℕ) → n / 10 < 10 ^ suc k → length s ≤ suc k) → (k : ℕ) → n < 10 ^ suc k
        → length (s ++ ((zero_digit + n % 10) ∷ [])) ≤ suc k
    more n s h before zero g = absurd (omega arith)
    more n s h before (suc k) g =
        let tenth : n / 10 < 10 ^ suc k = omega (arith, pow-suc 10 (suc k)) in
        omega (arith, before k tenth, length-append s ((zero_digit + n % 10) ∷ []))

-- from 10^k on there are at least k + 1 digits
digits-long : (n k : ℕ) → 10 ^ k ≤ n → k < length (digits n)
digits-long n = digits-each (λ n s. (k : ℕ) → 10 ^ k ≤ n → k < length s) one more n
  where
    some : (k : ℕ) → 0 < 10 ^ k
    some zero = omega arith
    some (suc k) = omega (arith, pow-suc 10 k, some k)

    one : (n : ℕ) → n < 10 → (k : ℕ) → 10 ^ k ≤ n → k < 1
    one n h zero g = omega arith
    one n h (suc k) g = absurd (omega (arith, pow-suc 10 k, some k))

    more : (n : ℕ) (s : List ℕ) → 10 ≤ n → ((k : ℕ) → 10 ^ k ≤ n / 10 → k < length s) → (k : ℕ) → 10 ^ k ≤ n
        → k < length (s ++ ((zero_digit + n % 10) ∷ []))
    more n s h before zero g = omega (arith, length-append s ((zero_digit + n % 10) ∷ []))
    more n s h before (suc k) g =
        let tenth : 10 ^ k ≤ n / 10 = omega (arith, pow-suc 10 k) in
        omega (arith, before k tenth, length-append s ((zero_digit + n % 10) ∷ []))

-- the count of digits by the greatest k with 10^k ≤ n, which 0 does not have
pub digits-count : (n : ℕ) (o : Option ℕ) → IfNone o (n ≡ 0) → IfSome o (λ k. 10 ^ k ≤ n) → IfSome o (λ k. n < 10 * 10 ^ k)
    → unwrap_or o 0 + 1 ≡ length (digits n)
digits-count n None z h g = let e : n < 10 = omega arith in omega (arith, digits-length-one n e)
digits-count n (Some k) z h g = omega (arith, digits-long n k h, digits-fits n k (omega (arith, pow-suc 10 k)))

pub digits-short : (n : ℕ) → n < 2 ^ 64 → length (digits n) ≤ 20
digits-short n h = digits-fits n 19 (omega arith)

-- a byte that is no digit stands nowhere among digits
pub digits-free : (b : ℕ) (s : List ℕ) → is_digit b ≡ false → all_digits s ≡ true → len_to b s ≡ length s
unfolding len_to all_digits
digits-free b [] e h = refl
digits-free b (a ∷ s) e h = of (is_digit a) refl h (λ g. digits-free b s e g)
  where
    of : (t : Bool) → is_digit a ≡ t → cond t (all_digits s) false ≡ true → (all_digits s ≡ true → len_to b s ≡ length s) → len_to b (a ∷ s) ≡ suc (length s)
    of true q h more = len_to-other b s (λ same. true≢false (sym q ∙ ap is_digit same ∙ e)) ∙ ap suc (more h)
    of false q h more = absurd (false≢true h)

-- ---- read and written

-- a digit more makes a number no smaller
pub digits_value-grows : (n : ℕ) (s : List ℕ) → n ≤ digits_value n s
unfolding digits_value
digits_value-grows n [] = omega arith
digits_value-grows n (d ∷ ds) = omega (arith, digits_value-grows (n * 10 + (d - zero_digit)) ds)

digits_value-last : (m : ℕ) (s : List ℕ) (b : ℕ) → digits_value m (s ++ (b ∷ [])) ≡ digits_value m s * 10 + (b - zero_digit)
unfolding digits_value
digits_value-last m [] b = refl
digits_value-last m (a ∷ s) b = digits_value-last (m * 10 + (a - zero_digit)) s b

pub digits-back : (n : ℕ) → digits_value 0 (digits n) ≡ n
unfolding digits_value
digits-back n = digits-each (λ n s. digits_value 0 s ≡ n) (λ n h. omega arith) more n
  where
    more : (n : ℕ) (s : List ℕ) → 10 ≤ n → digits_value 0 s ≡ n / 10 → digits_value 0 (s ++ ((zero_digit + n % 10) ∷ [])) ≡ n
    more n s h e = omega (arith, digits_value-last 0 s (zero_digit + n % 10))

-- a number with one digit more
digits-next : (n b : ℕ) → 0 < n → zero_digit ≤ b → b ≤ nine_digit → digits (n * 10 + (b - zero_digit)) ≡ digits n ++ (b ∷ [])
digits-next n b p low high =
    let m = n * 10 + (b - zero_digit) in
    let q : m / 10 ≡ n = omega arith in
    let r : zero_digit + m % 10 ≡ b = omega arith in
    digits_more m (omega arith) ∙ ap (λ (k : ℕ). digits k ++ ((zero_digit + m % 10) ∷ [])) q ∙ ap (λ (d : ℕ). digits n ++ (d ∷ [])) r

-- the digits of a number with further digits read after it
digits-read : (n : ℕ) (s : List ℕ) → 0 < n → all_digits s ≡ true → digits (digits_value n s) ≡ digits n ++ s
unfolding digits_value
digits-read n [] p h = sym (append-nil (digits n))
digits-read n (b ∷ s) p h =
    let d = all_digits-more b s h in
    digits-read (n * 10 + (b - zero_digit)) s (omega arith) d.2
    ∙ ap (λ (l : List ℕ). l ++ s) (digits-next n b p d.0 d.1)
    ∙ append_assoc (digits n) (b ∷ []) s

pub positive_back : (s : List ℕ) → is_positive s ≡ true → digits (digits_value 0 s) ≡ s
unfolding digits_value
positive_back [] h = absurd (false≢true (sym is_positive-nil ∙ h))
positive_back (b ∷ s) h =
    let d = is_positive-more b s h in
    let e : zero_digit + (0 * 10 + (b - zero_digit)) ≡ b = omega arith in
    digits-read (0 * 10 + (b - zero_digit)) s (omega arith) d.2
    ∙ ap (λ (l : List ℕ). l ++ s) (digits-one (0 * 10 + (b - zero_digit)) (omega arith))
    ∙ ap (λ (a : ℕ). a ∷ s) e

pub positive-value : (s : List ℕ) → is_positive s ≡ true → 0 < digits_value 0 s
unfolding digits_value
positive-value [] h = absurd (false≢true (sym is_positive-nil ∙ h))
positive-value (b ∷ s) h = omega (arith, (is_positive-more b s h).0, digits_value-grows (0 * 10 + (b - zero_digit)) s)
