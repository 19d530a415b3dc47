-- A whole number as two naturals, its part above zero and its part below zero: z is up z - dn z, and one of the two is 0.

use Rattle.std.specs.Prelude.{ℕ, zero, suc, Bool, false, eqb, ℤ, pos, negsuc, neg_ℤ, ◌≤ℤ◌}

abbrev pub up : ℤ → ℕ
up (pos n) = n
up (negsuc n) = zero

abbrev pub dn : ℤ → ℕ
dn (pos n) = zero
dn (negsuc n) = suc n

-- z is at most n from zero. `omega` reads the two bounds, and shows them.
pub record Within (n : ℕ) (z : ℤ) : Type 0 where
  pub least : neg_ℤ (pos n) ≤ℤ z
  pub greatest : z ≤ℤ pos n

-- The test of equality, beside the kit's `lt_z` and `le_z`, for definitions that compute.
abbrev pub eq_z : ℤ → ℤ → Bool
eq_z (pos a) (pos b) = eqb a b
eq_z (pos a) (negsuc b) = false
eq_z (negsuc a) (pos b) = false
eq_z (negsuc a) (negsuc b) = eqb a b
