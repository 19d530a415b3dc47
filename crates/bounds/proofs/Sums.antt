-- What the machine says of a sum that fits: how it is read back and compared; and the sums of a table's weights fit.
use mathlib.Core.Path.{◌≡◌, sym, ◌∙◌, ap, ap₂}
use mathlib.Core.Bool.{Bool, false}
use lib.IntN.{ℤ, neg_ℤ, ◌+ℤ◌}
use lib.Signed.{le_z, ◌≤ℤ◌}
use mir.Syntax.{w32}
use mir.Val.{SFits, to_z, of_z}
use mir.Facts.{to_z-of_z}
use Rattle.whole.specs.Split.{eq_z}
use Rattle.whole.specs.Rules.{wholes}
use Rattle.bounds.specs.Flat.{no_bound_mark, SumFits, greatest_weight, WeightInRange, MoveInRange}
use Rattle.bounds.specs.FinishLaws.{moved_sum}

module _ {v a : ℤ} (f : SFits w32 v) (g : SFits w32 a) (h : SFits w32 (v +ℤ a)) where
  pub sum_fits : SFits w32 (to_z w32 (of_z w32 v) +ℤ to_z w32 (of_z w32 a))
  sum_fits = simp (to_z-of_z f, to_z-of_z g) h

  pub sum_back : to_z w32 (of_z w32 (to_z w32 (of_z w32 v) +ℤ to_z w32 (of_z w32 a))) ≡ v +ℤ a
  sum_back = to_z-of_z sum_fits ∙ ap₂ ◌+ℤ◌ (to_z-of_z f) (to_z-of_z g)

  pub sum-test : {u : ℤ} {t : Bool} → SFits w32 u → le_z (to_z w32 (of_z w32 u)) (to_z w32 (of_z w32 (to_z w32 (of_z w32 v) +ℤ to_z w32 (of_z w32 a)))) ≡ t
      → le_z u (v +ℤ a) ≡ t
  sum-test {u} k e = sym (ap₂ le_z (to_z-of_z k) sum_back) ∙ e

-- two weights of a table, of which the second is a bound
pub weights-fit : {v w : ℤ} → SFits w32 v → SFits w32 w → WeightInRange v → WeightInRange w → eq_z w no_bound_mark ≡ false
    → SumFits (to_z w32 (of_z w32 v)) (to_z w32 (of_z w32 w))
weights-fit {v} {w} f g h k on e =
    let here : eq_z v no_bound_mark ≡ false = sym (ap (λ v. eq_z v no_bound_mark) (to_z-of_z f)) ∙ e in
    sum_fits f g (sum_of v w (h.least here) (h.greatest here) (k.least on) (k.greatest on))
  where
    sum_of : (v w : ℤ) → neg_ℤ greatest_weight ≤ℤ v → v ≤ℤ greatest_weight → neg_ℤ greatest_weight ≤ℤ w → w ≤ℤ greatest_weight → SFits w32 (v +ℤ w)
    sum_of v w a b c d = omega wholes

-- a weight of a table, moved
pub moved-fits : {v a : ℤ} → SFits w32 v → SFits w32 a → WeightInRange v → MoveInRange a → SumFits (to_z w32 (of_z w32 v)) (to_z w32 (of_z w32 a))
moved-fits {v} {a} f g h m e = sum_fits f g (moved_sum v a h m (sym (ap (λ v. eq_z v no_bound_mark) (to_z-of_z f)) ∙ e))
