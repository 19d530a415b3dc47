-- The laws of writing into a lent slice.
-- Two texts written in a row are their joint text (`put-append`, and for what two writers did `stored-append`); the length is kept (`put-length`); past the end
-- nothing changes (`put-out`); a text written from 0 on, where it has room, is the text and the bytes past it (`put_whole`), which is `written`
-- (`put_written`).
-- For callers: what `Decimal::put` ensures of an argument (`stored-number`), and that it moves the place by at most twenty (`stored-near`).
-- A number and the byte after it move it by at most twenty-one (`count-near`, `number-near`).
-- For writers: one turn of the copy (`put-past`, `put-end`), and digits from the last one on (`put_last`, `put-digits-more`,
-- `put-digits-one`), counted (`put-all_digits`, `put-last_digits`, `put-no_digits`).

use Rattle.std.specs.Prelude.{ℕ, zero, suc, ◌+◌, ◌-◌, ◌/◌, ◌%◌, ◌≤◌, ◌<◌, ◌^◌, ◌≡◌, refl, List, [], ◌∷◌, ◌++◌, length, get_or, drop, set, ℤ}
use Rattle.std.proofs.Common.{sym, ap, ◌∙◌, add-zero, add-suc, suc-add, zero-add, add-one, arith, length-append, length-set, drop_of_length-le, drop-cons, le-leb, SFits, to_z, of_z, to_z-of_z}
use Rattle.std.proofs.Math.Seq.{set_out}
use Rattle.std.proofs.lemmas.List.{set_comm}
use Rattle.std.proofs.lemmas.List.Edits.{sets, sets-eq}
use Rattle.std.specs.Int.{w64}
use Rattle.text.specs.Numbers.{zero_digit, digits, decimal}
use Rattle.text.specs.DigitLaws.{digits-each, digits-short, digits-one, digits_more, digits-length-one, digits-length-more}
use Rattle.text.specs.NumberLaws.{decimal-short}
use Rattle.text.specs.Lent.{written, put, last_digits, Stored}

-- ---- in a row

pub put-nil : (out : List ℕ) (at : ℕ) → put out at [] ≡ out
unfolding put
put-nil out at = refl

pub put-append : (out : List ℕ) (at : ℕ) (s t : List ℕ) → put out at (s ++ t) ≡ put (put out at s) (at + length s) t
unfolding put
put-append out at [] t = ap (λ (k : ℕ). put out k t) (sym (add-zero at))
put-append out at (b ∷ s) t =
    put-append (set out at b) (suc at) s t
    ∙ ap (λ (k : ℕ). put (put (set out at b) (suc at) s) k t) (suc-add at (length s) ∙ sym (add-suc at (length s)))

pub stored-append : {out s out' t out'' : List ℕ} {at at' at'' : ℕ} → Stored out at s out' at' → Stored out' at' t out'' at'' → Stored out at (s ++ t) out'' at''
stored-append {out} {s} {out'} {t} {at = at} {at' = at'} p q =
    record {
      place = omega (arith, length-append s t);
      slice = q.slice ∙ ap (λ (o : List ℕ). put o at' t) p.slice ∙ ap (λ (k : ℕ). put (put out at s) k t) p.place ∙ sym (put-append out at s t);
    }

-- ---- what is kept

pub put-length : (out : List ℕ) (at : ℕ) (s : List ℕ) → length (put out at s) ≡ length out
unfolding put
put-length out at [] = refl
put-length out at (b ∷ s) = put-length (set out at b) (suc at) s ∙ length-set out at b

put-out : (out : List ℕ) (at : ℕ) (s : List ℕ) → length out ≤ at → put out at s ≡ out
unfolding put
put-out out at [] h = refl
put-out out at (b ∷ s) h = rw (set_out out at b h) (put-out out (suc at) s (omega arith))

-- ---- the whole

put-sets : (out : List ℕ) (at : ℕ) (s : List ℕ) → put out at s ≡ sets out at s
unfolding put
put-sets out at [] = refl
put-sets out at (b ∷ s) = put-sets (set out at b) (suc at) s

put_whole : (out s : List ℕ) → length s ≤ length out → put out 0 s ≡ s ++ drop (length s) out
put_whole out s h = put-sets out 0 s ∙ sets-eq s out 0 (omega arith) ∙ ap (λ (k : ℕ). s ++ drop k out) (zero-add (length s))

pub put_written : (out s : List ℕ) → length s ≤ length out → put out 0 s ≡ written s out
unfolding written
put_written out s h = rw (le-leb (length s) (length out) h) (put_whole out s h)

-- ---- for writers

put_last : (out : List ℕ) (at : ℕ) (s : List ℕ) (b : ℕ) → put out at (s ++ (b ∷ [])) ≡ put (set out (at + length s) b) at s
unfolding put
put_last out at [] b = rw add-zero
put_last out at (a ∷ s) b =
    put_last (set out at a) (suc at) s b
    ∙ ap (λ (k : ℕ). put (set (set out at a) k b) (suc at) s) (suc-add at (length s) ∙ sym (add-suc at (length s)))
    ∙ ap (λ (o : List ℕ). put o (suc at) s) (set_comm out at (at + suc (length s)) a b (omega arith))

pub put-past : (out : List ℕ) (at : ℕ) (s : List ℕ) (i : ℕ) → i < length s
    → put out (at + i) (drop i s) ≡ put (set out (at + i) (get_or s i 0)) (at + (i + 1)) (drop (i + 1) s)
unfolding put
put-past out at s i h = let e : suc (at + i) ≡ at + (i + 1) = omega arith in rw (← e, add-one, drop-cons s i 0 h)

pub put-end : (out : List ℕ) (at : ℕ) (s : List ℕ) (i : ℕ) → length s ≤ i → put out at (drop i s) ≡ out
unfolding put
put-end out at s i h = rw (drop_of_length-le s h)

-- digits from the last one on
pub put-digits-more : (out : List ℕ) (at n last : ℕ) → 10 ≤ n → last + 1 ≡ at + length (digits n)
    → put out at (digits n) ≡ put (set out last (zero_digit + n % 10)) at (digits (n / 10))
put-digits-more out at n last h e =
    let place : at + length (digits (n / 10)) ≡ last = omega (arith, digits-length-more n h) in
    ap (put out at) (digits_more n h)
    ∙ put_last out at (digits (n / 10)) (zero_digit + n % 10)
    ∙ ap (λ (k : ℕ). put (set out k (zero_digit + n % 10)) at (digits (n / 10))) place

pub put-digits-one : (out : List ℕ) (at n last : ℕ) → n < 10 → last + 1 ≡ at + length (digits n) → put out at (digits n) ≡ set out last (zero_digit + n)
unfolding put
put-digits-one out at n last h e =
    let place : at ≡ last = omega (arith, digits-length-one n h) in
    ap (put out at) (digits-one n h) ∙ ap (λ (k : ℕ). set out k (zero_digit + n)) place

-- counted digits, from the last one on: all of them, one turn, and the end
last_digits-length : (k n : ℕ) → length (last_digits k n) ≡ k
unfolding last_digits
last_digits-length zero n = refl
last_digits-length (suc k) n =
    omega (arith, length-append (last_digits k (n / 10)) ((zero_digit + n % 10) ∷ []), last_digits-length k (n / 10))

last_digits-all : (n : ℕ) → last_digits (length (digits n)) n ≡ digits n
unfolding last_digits
last_digits-all n = digits-each (λ n s. last_digits (length s) n ≡ s) one more n
  where
    one : (n : ℕ) → n < 10 → last_digits 1 n ≡ (zero_digit + n) ∷ []
    one n h = let e : n % 10 ≡ n = omega arith in rw e

    more : (n : ℕ) (s : List ℕ) → 10 ≤ n → last_digits (length s) (n / 10) ≡ s
        → last_digits (length (s ++ ((zero_digit + n % 10) ∷ []))) n ≡ s ++ ((zero_digit + n % 10) ∷ [])
    more n s h e =
        let l : length (s ++ ((zero_digit + n % 10) ∷ [])) ≡ suc (length s) = omega (arith, length-append s ((zero_digit + n % 10) ∷ [])) in
        rw l (ap (λ (t : List ℕ). t ++ ((zero_digit + n % 10) ∷ [])) e)

pub put-last_digits : (out : List ℕ) (at to n : ℕ) → at < to
    → put out at (last_digits (to - at) n) ≡ put (set out (to - 1) (zero_digit + n % 10)) at (last_digits (to - 1 - at) (n / 10))
unfolding last_digits
put-last_digits out at to n h =
    let k = to - 1 - at in
    let more : to - at ≡ suc k = omega arith in
    let place : at + length (last_digits k (n / 10)) ≡ to - 1 = omega (arith, last_digits-length k (n / 10)) in
    ap (λ (j : ℕ). put out at (last_digits j n)) more
    ∙ put_last out at (last_digits k (n / 10)) (zero_digit + n % 10)
    ∙ ap (λ (j : ℕ). put (set out j (zero_digit + n % 10)) at (last_digits k (n / 10))) place

pub put-no_digits : (out : List ℕ) (at to n : ℕ) → to ≤ at → put out at (last_digits (to - at) n) ≡ out
unfolding last_digits put
put-no_digits out at to n h = let none : to - at ≡ 0 = omega arith in rw none

pub put-all_digits : (out : List ℕ) (at to n : ℕ) → to ≡ at + length (digits n) → put out at (digits n) ≡ put out at (last_digits (to - at) n)
put-all_digits out at to n e =
    let all : to - at ≡ length (digits n) = omega arith in
    ap (put out at) (sym (last_digits-all n) ∙ ap (λ (k : ℕ). last_digits k n) (sym all))

-- ---- for callers

-- a signed argument is handed over as its bits
pub stored-number : {out out' : List ℕ} {at at' : ℕ} {z : ℤ} → SFits w64 z → Stored out at (decimal (to_z w64 (of_z w64 z))) out' at'
    → Stored out at (decimal z) out' at'
stored-number f p = rw (to_z-of_z f) at p

-- how far a number moves the place
pub stored-near : {out out' : List ℕ} {at at' : ℕ} {z : ℤ} → SFits w64 z → Stored out at (decimal (to_z w64 (of_z w64 z))) out' at' → at' ≤ at + 20
stored-near {z = z} f p = omega (arith, (stored-number f p).place, decimal-short z f)

-- ---- a number and the byte after it move the place by at most 21

pub count-near : (n b : ℕ) {out out' : List ℕ} {at at' : ℕ} → n < 2 ^ 64 → Stored out at (digits n ++ (b ∷ [])) out' at' → at' ≤ at + 21
count-near n b h p = omega (arith, p.place, digits-short n h, length-append (digits n) (b ∷ []))

pub number-near : (z : ℤ) (b : ℕ) {out out' : List ℕ} {at at' : ℕ} → SFits w64 z → Stored out at (decimal z ++ (b ∷ [])) out' at' → at' ≤ at + 21
number-near z b f p = omega (arith, p.place, decimal-short z f, length-append (decimal z) (b ∷ []))
