-- A time in range, as the machine has it: 0 less it is its negation.
use mathlib.Core.Path.{◌≡◌, sym, ◌∙◌, ap, subst}
use lib.IntN.{ℤ, pos, neg_ℤ, ◌-ℤ◌}
use mir.Syntax.{w32}
use mir.Val.{SFits, to_z, of_z}
use mir.Facts.{to_z-of_z}
use Rattle.whole.specs.SplitLaws.{split-neg}
use Rattle.whole.specs.Rules.{wholes}
use Rattle.bounds.specs.Spans.{InRange}
use Rattle.bounds.specs.SpansLaws.{in_range-fits}

zero-less-fits : (t : ℤ) → InRange t → SFits w32 (pos 0 -ℤ to_z w32 (of_z w32 t))
zero-less-fits t h = subst (λ t. SFits w32 (pos 0 -ℤ t)) (sym (to_z-of_z (in_range-fits h))) (omega wholes)

pub zero-less-back : (t : ℤ) → InRange t → to_z w32 (of_z w32 (pos 0 -ℤ to_z w32 (of_z w32 t))) ≡ neg_ℤ t
zero-less-back t h =
    to_z-of_z (zero-less-fits t h)
    ∙ ap (λ t. pos 0 -ℤ t) (to_z-of_z (in_range-fits h))
    ∙ less-is t
  where
    less-is : (t : ℤ) → pos 0 -ℤ t ≡ neg_ℤ t
    less-is t = omega (wholes, split-neg t)
