-- The laws of lists that the plan's arrays need: what holds of each element (`All`) holds at each place (`All-at`), and back (`All-of`), and of one more
-- (`All-more`); an array that a list fills has its size, the list's elements at the first places (`filled_at`), and its beginnings (`filled-take`,
-- `filled-all`). `Filling` is such an array while it is being filled, from the first place (`Filling-start`) to the last one
-- (`Filling-more`, `Filling-end`).
use Rattle.std.specs.Prelude.{◌≡◌, List, [], ◌∷◌, ◌++◌, ℕ, zero, suc, ◌+◌, ◌-◌, ◌≤◌, ◌<◌, length, take, drop, set, get_or, replicate}
use Rattle.std.proofs.Common.{sym, ◌∙◌, ap, arith, length-append, length-set, length-take, take-append-drop, take_all, drop-set-lt, drop-drop}
use Rattle.std.proofs.Math.Nat.{sub-zero}
use Rattle.std.proofs.lemmas.List.{length-replicate, take-append-le}
use Rattle.std.proofs.Math.ListN.{get_or-append}
use Rattle.plan.specs.PlanLines.{filled}

-- what holds of each element
abbrev pub All : {A : Type 0} → (A → Type 0) → List A → Type 0
All P [] = Unit
All P (x ∷ xs) = P x × All P xs

pub All-at : {A : Type 0} (P : A → Type 0) (xs : List A) (d : A) (i : ℕ) → All P xs → i < length xs → P (get_or xs i d)
All-at P [] d i h l = absurd (omega arith)
All-at P (x ∷ xs) d zero h l = h.0
All-at P (x ∷ xs) d (suc i) h l = All-at P xs d i h.1 (omega arith)

pub All-more : {A : Type 0} (P : A → Type 0) (xs : List A) (x : A) → All P xs → P x → All P (xs ++ (x ∷ []))
All-more P [] x h p = (p, tt)
All-more P (y ∷ ys) x h p = (h.0, All-more P ys x h.1 p)

pub All-map : {A : Type 0} {P Q : A → Type 0} → ((x : A) → P x → Q x) → (xs : List A) → All P xs → All Q xs
All-map f [] h = tt
All-map f (x ∷ xs) h = (f x h.0, All-map f xs h.1)

pub All-take : {A : Type 0} (P : A → Type 0) (n : ℕ) (xs : List A) → All P xs → All P (take n xs)
All-take P zero xs h = tt
All-take P (suc n) [] h = tt
All-take P (suc n) (x ∷ xs) h = (h.0, All-take P n xs h.1)

-- what holds at each of the first places holds of each element there
pub All-of : {A : Type 0} (P : A → Type 0) (xs : List A) (d : A) (n : ℕ) → n ≤ length xs → ((i : ℕ) → i < n → P (get_or xs i d)) → All P (take n xs)
All-of P xs d zero l f = tt
All-of P [] d (suc n) l f = absurd (omega arith)
All-of P (x ∷ xs) d (suc n) l f = (f 0 (omega arith), All-of P xs d n (omega arith) (λ i h. f (suc i) (omega arith)))

module _ {A : Type 0} (size : ℕ) (d : A) (xs : List A) (fits : length xs ≤ size) where
  pub filled-length : length (filled size d xs) ≡ size
  filled-length = simp (length-append, length-replicate) (omega arith)

  pub filled_at : (i : ℕ) → i < length xs → get_or (filled size d xs) i d ≡ get_or xs i d
  filled_at i l = get_or-append xs (replicate (size - length xs) d) d i l

  pub filled-take : (i : ℕ) → i ≤ length xs → take i (filled size d xs) ≡ take i xs
  filled-take i l = take-append-le i xs (replicate (size - length xs) d) l

  pub filled-all : (n : ℕ) → length xs ≡ n → take n (filled size d xs) ≡ xs
  filled-all n e = filled-take n (omega arith) ∙ take_all n xs (omega arith)

-- ---- an array that is being filled

-- the first i places are set, and the others hold d
pub record Filling {A : Type 0} (size : ℕ) (d : A) (xs : List A) (i : ℕ) : Type 0 where
  pub places : length xs ≡ size
  pub rest : drop i xs ≡ replicate (size - i) d

pub Filling-start : {A : Type 0} (size : ℕ) (d : A) → Filling size d (replicate size d) 0
Filling-start size d = record { places = length-replicate size d; rest = ap (λ (n : ℕ). replicate n d) (sym (sub-zero size)) }

module _ {A : Type 0} (size : ℕ) (d : A) (xs : List A) (i : ℕ) (f : Filling size d xs i) where
  pub Filling-more : i < size → (a : A) → Filling size d (set xs i a) (i + 1)
  Filling-more h a =
      record {
        places = length-set xs i a ∙ f.places;
        rest =
            drop-set-lt (i + 1) xs i a (omega arith)
            ∙ sym (drop-drop 1 i xs)
            ∙ ap (drop 1) (f.rest ∙ ap (λ (n : ℕ). replicate n d) left);
      }
    where
      left : size - i ≡ suc (size - (i + 1))
      left = omega arith

  pub Filling-end : i ≤ size → xs ≡ filled size d (take i xs)
  Filling-end h = sym (take-append-drop i xs) ∙ ap (λ (r : List A). take i xs ++ r) (f.rest ∙ ap (λ (n : ℕ). replicate n d) left)
    where
      left : size - i ≡ size - length (take i xs)
      left = omega (arith, length-take i xs, f.places)
