-- The laws of whole numbers that the rules of `Rules` do not reach by themselves: a difference negated, a number that is not negative as a natural, two tests
-- as the facts that they decide, a product of numbers within bounds, and the range of a width.
-- An order or an equation of sums and differences is a call of `omega` with those rules and has no law here. Reflexivity is the kit's `≤ℤ_refl`, and the group
-- laws of the sum are in the kit's `lib.IntN`.

use Rattle.std.specs.Prelude.{◌≡◌, ◌↔◌, true, ℕ, ◌+◌, ◌*◌, ◌^◌, ◌≤◌, ℤ, pos, neg_ℤ, ◌-ℤ◌, ◌*ℤ◌, ◌≤ℤ◌, ◌<ℤ◌}
use Rattle.std.proofs.Common.{⊎_elim, mul-le-mul, arith}
use Rattle.std.specs.Int.Signed.{le_z}
use Rattle.std.specs.Int.{Width}
use mir.Val.{SFits, hbits}
use Rattle.whole.specs.Split.{up, dn, Within, eq_z}
use Rattle.whole.specs.SplitLaws.{split_one, split-neg, split-sub, split-times, fits-split-iff}
use Rattle.whole.specs.Rules.{whole, wholes}

pub neg-sub : (a b : ℤ) → neg_ℤ (a -ℤ b) ≡ b -ℤ a
neg-sub a b = omega (wholes, split-neg (a -ℤ b), split-sub a b)

pub pos-up : {z : ℤ} → pos 0 ≤ℤ z → pos (up z) ≡ z
pos-up {z} h = ⊎_elim (λ e. omega whole) (λ e. omega whole) (split_one z)

-- ---- the tests

pub le_z-true-iff : (a b : ℤ) → le_z a b ≡ true ↔ a ≤ℤ b
le_z-true-iff a b = omega whole

pub eq_z-true-iff : (a b : ℤ) → eq_z a b ≡ true ↔ a ≡ b
eq_z-true-iff a b = omega whole

-- ---- products

within-iff : (n : ℕ) (z : ℤ) → Within n z ↔ up z + dn z ≤ n
within-iff n z = (
  λ p. ⊎_elim (λ e. omega (whole, split-neg (pos n))) (λ e. omega (whole, split-neg (pos n))) (split_one z),
  λ h. omega
      (whole, split-neg (pos n)),
)

pub mul-within : {m n : ℕ} {a b : ℤ} → Within m a → Within n b → Within (m * n) (a *ℤ b)
mul-within {m} {n} {a} {b} p q = (within-iff (m * n) (a *ℤ b)).1 (omega (arith, split-times a b, mul-le-mul ((within-iff m a).0 p) ((within-iff n b).0 q)))

-- ---- what fits a width

pub fits-least : {w : Width} {z : ℤ} → SFits w z → neg_ℤ (pos (2 ^ hbits w)) ≤ℤ z
fits-least {w} {z} f = omega (whole, (fits-split-iff w z).0 f, split-neg (pos (2 ^ hbits w)))

pub fits_below : {w : Width} {z : ℤ} → SFits w z → z <ℤ pos (2 ^ hbits w)
fits_below {w} {z} f = omega (whole, (fits-split-iff w z).0 f)
