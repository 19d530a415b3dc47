-- Differences and sums of two times in range, as the machine makes them: they fit an i32, and are read back as they are.
use mathlib.Core.Path.{◌≡◌, sym, ◌∙◌, ap₂, subst}
use lib.IntN.{ℤ, ◌+ℤ◌, ◌-ℤ◌}
use mir.Syntax.{w32}
use mir.Val.{SFits, to_z, of_z}
use mir.Facts.{to_z-of_z}
use Rattle.whole.specs.Rules.{wholes}
use Rattle.bounds.specs.Spans.{InRange}
use Rattle.bounds.specs.SpansLaws.{in_range-fits}

pub gap-fits : {a b : ℤ} → InRange a → InRange b → SFits w32 (to_z w32 (of_z w32 a) -ℤ to_z w32 (of_z w32 b))
gap-fits f g = simp (to_z-of_z (in_range-fits f), to_z-of_z (in_range-fits g)) (omega wholes)

pub gap_back : {a b : ℤ} → InRange a → InRange b → to_z w32 (of_z w32 (to_z w32 (of_z w32 a) -ℤ to_z w32 (of_z w32 b))) ≡ a -ℤ b
gap_back f g =
    to_z-of_z (gap-fits f g) ∙ ap₂ ◌-ℤ◌ (to_z-of_z (in_range-fits f)) (to_z-of_z (in_range-fits g))

pub total-fits : {a b : ℤ} → InRange a → InRange b → SFits w32 (to_z w32 (of_z w32 a) +ℤ to_z w32 (of_z w32 b))
total-fits f g = simp (to_z-of_z (in_range-fits f), to_z-of_z (in_range-fits g)) (omega wholes)

pub total-back : {a b : ℤ} → InRange a → InRange b → to_z w32 (of_z w32 (to_z w32 (of_z w32 a) +ℤ to_z w32 (of_z w32 b))) ≡ a +ℤ b
total-back f g =
    to_z-of_z (total-fits f g) ∙ ap₂ ◌+ℤ◌ (to_z-of_z (in_range-fits f)) (to_z-of_z (in_range-fits g))

-- and one more number after what was read back
pub chain_fits : {x a b : ℤ} → x ≡ a → InRange a → InRange b → SFits w32 (x +ℤ to_z w32 (of_z w32 b))
chain_fits {x} {a} {b} e f g =
    subst (λ x. SFits w32 (x +ℤ to_z w32 (of_z w32 b))) (sym e) (simp (to_z-of_z (in_range-fits g)) (omega wholes))

pub chain_back : {x a b : ℤ} → x ≡ a → InRange a → InRange b → to_z w32 (of_z w32 (x +ℤ to_z w32 (of_z w32 b))) ≡ a +ℤ b
chain_back e f g = to_z-of_z (chain_fits e f g) ∙ ap₂ ◌+ℤ◌ e (to_z-of_z (in_range-fits g))
