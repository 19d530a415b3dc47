-- A text that is written piece by piece: `LeftToWrite` says what is left to be written. At the beginning that is the whole text (`left-whole`); a piece that
-- was
-- written is left no more (`left-past`); and where nothing is left, the text was written (`left_end`).
-- The texts of the first n places of a list, written one by one: at the beginning all are left (`left-places`); one turn (`left-next`); and where no place is
-- left, the text was written (`left-stop`, `left_out`).

use Rattle.std.specs.Prelude.{ℕ, zero, suc, ◌+◌, ◌-◌, ◌≤◌, ◌<◌, ◌≡◌, refl, List, [], ◌∷◌, ◌++◌, length, get_or, take, drop}
use Rattle.std.proofs.Common.{sym, ap, ◌∙◌, subst, add-one, arith, length-append, drop_of_length-le, drop-cons}
use Rattle.text.specs.Lent.{put, Stored}
use Rattle.text.specs.LentLaws.{put-nil, put-append}

-- where s was to be written into out at a place, t is left to be written into out' at another
pub record LeftToWrite (out : List ℕ) (at : ℕ) (s : List ℕ) (out' : List ℕ) (at' : ℕ) (t : List ℕ) : Type 0 where
  pub place : at' + length t ≡ at + length s
  pub slice : put out' at' t ≡ put out at s

pub left-whole : (out : List ℕ) (at : ℕ) (s : List ℕ) → LeftToWrite out at s out at s
left-whole out at s = record { place = refl; slice = refl }

pub left-past : {out s o t u o' : List ℕ} {at j j' : ℕ} → LeftToWrite out at s o j (t ++ u) → Stored o j t o' j' → LeftToWrite out at s o' j' u
left-past {o = o} {t} {u} {j = j} {j'} l d =
    record {
      place = omega (arith, l.place, d.place, length-append t u);
      slice = ap (λ (x : List ℕ). put x j' u) d.slice ∙ ap (λ (k : ℕ). put (put o j t) k u) d.place ∙ sym (put-append o j t u) ∙ l.slice;
    }

pub left_end : {out s o : List ℕ} {at j : ℕ} → LeftToWrite out at s o j [] → Stored out at s o j
left_end {o = o} {j = j} l = record { place = omega (arith, l.place); slice = sym (put-nil o j) ∙ l.slice }

-- ---- the first n places of a list, one by one

module _ {A : Type 0} (text : List A → List ℕ) (xs : List A) (n : ℕ) where
  -- what is left of the text from place i on
  abbrev pub left_from : ℕ → List ℕ
  left_from i = text (take (n - i) (drop i xs))

  pub left-places : (out : List ℕ) (at : ℕ) → LeftToWrite out at (text (take n xs)) out at (left_from 0)
  left-places out at = let all : n - 0 ≡ n = omega arith in rw all (left-whole out at (text (take n xs)))

  module _ (nil : text [] ≡ []) {out s o : List ℕ} {at j i : ℕ} (l : LeftToWrite out at s o j (left_from i)) where
    pub left-stop : n ≤ i → Stored out at s o j
    left-stop h = let none : n - i ≡ 0 = omega arith in left_end
        (subst (λ (t : List ℕ). LeftToWrite out at s o j t) (ap (λ (k : ℕ). text (take k (drop i xs))) none ∙ nil) l)

    pub left_out : length xs ≤ i → Stored out at s o j
    left_out h = left_end (subst (λ (t : List ℕ). LeftToWrite out at s o j t)
        (ap (λ (ys : List A). text (take (n - i) ys)) (drop_of_length-le xs h) ∙ take_none (n - i) ∙ nil) l)
      where
        take_none : (k : ℕ) → text (take k []) ≡ text []
        take_none zero = refl
        take_none (suc k) = refl

  module _ (more : (x : A) (ys : List A) → text (x ∷ ys) ≡ text (x ∷ []) ++ text ys) {out s o : List ℕ} {at j i : ℕ}
      (l : LeftToWrite out at s o j (left_from i)) where
    pub left-next : (d : A) {o' : List ℕ} {j' : ℕ} → i < n → i < length xs → Stored o j (text (get_or xs i d ∷ [])) o' j'
        → LeftToWrite out at s o' j' (left_from (i + 1))
    left-next d h k p =
        let left : n - i ≡ suc (n - (i + 1)) = omega arith in
        let e : left_from i ≡ text (get_or xs i d ∷ []) ++ left_from (i + 1) =
        ap (λ (m : ℕ). text (take m (drop i xs))) left
        ∙ ap (λ (ys : List A). text (take (suc (n - (i + 1))) ys)) (drop-cons xs i d k)
        ∙ more (get_or xs i d) (take (n - (i + 1)) (drop (suc i) xs))
        ∙ ap (λ (m : ℕ). text (get_or xs i d ∷ []) ++ text (take (n - (i + 1)) (drop m xs))) (sym (add-one i)) in
        left-past (subst (λ (t : List ℕ). LeftToWrite out at s o j t) e l) p
