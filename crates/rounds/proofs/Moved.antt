-- By how much a bound moves, as the machine has it: the difference of two events' moves fits, and so does a weight moved by it.
use mathlib.Core.Path.{◌≡◌, sym, ◌∙◌, ap, ap₂, subst₂}
use lib.IntN.{ℤ, ◌+ℤ◌, ◌-ℤ◌}
use mir.Syntax.{w32}
use mir.Val.{SFits, to_z, of_z}
use mir.Facts.{to_z-of_z}
use Rattle.whole.specs.Split.{eq_z}
use Rattle.whole.specs.Rules.{wholes}
use Rattle.bounds.specs.Flat.{no_bound_mark, SumFits, WeightInRange, MoveInRange}
use Rattle.bounds.specs.FinishLaws.{moved_sum}
use Rattle.bounds.specs.JudgedTableLaws.{ShiftInRange}

shift_fits : {a : ℤ} → ShiftInRange a → SFits w32 a
shift_fits h = omega wholes

less-fits : (a b : ℤ) → ShiftInRange a → ShiftInRange b → SFits w32 (a -ℤ b)
less-fits a b h l = omega wholes

pub shift_back : {x a : ℤ} → x ≡ a → ShiftInRange a → to_z w32 (of_z w32 x) ≡ a
shift_back e h = ap (λ x. to_z w32 (of_z w32 x)) e ∙ to_z-of_z (shift_fits h)

module _ (x y : ℤ) {a b : ℤ} (e : to_z w32 (of_z w32 x) ≡ a) (f : to_z w32 (of_z w32 y) ≡ b) (h : ShiftInRange a) (l : ShiftInRange b) where
  pub apart_fits : SFits w32 (to_z w32 (of_z w32 x) -ℤ to_z w32 (of_z w32 y))
  apart_fits = subst₂ (λ x y. SFits w32 (x -ℤ y)) (sym e) (sym f) (less-fits a b h l)

  pub apart-back : to_z w32 (of_z w32 (to_z w32 (of_z w32 x) -ℤ to_z w32 (of_z w32 y))) ≡ a -ℤ b
  apart-back = to_z-of_z apart_fits ∙ ap₂ ◌-ℤ◌ e f

-- a weight of a table, moved
pub moved-putting : {v a x y : ℤ} → x ≡ v → y ≡ a → WeightInRange v → MoveInRange a → SumFits x y
moved-putting {v} {a} e f h m on =
    subst₂ (λ x y. SFits w32 (x +ℤ y)) (sym e) (sym f) (moved_sum v a h m (sym (ap (λ v. eq_z v no_bound_mark) e) ∙ on))
