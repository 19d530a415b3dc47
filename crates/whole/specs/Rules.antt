-- The two sets of rules by which `omega` proves linear facts over ℤ. `arith` is in both.
--     use Rattle.whole.specs.Rules.{wholes}     in another crate (in this one, `Rattle.whole.specs.Rules`)
--     omega wholes                              or `omega (wholes, h)`, with a fact h that is in no hypothesis and no field of one
--
--     whole     each side as a whole: reads and shows `≤ℤ`, `<ℤ`, `≡`, and `lt_z`, `le_z`, `eq_z` at true and at false; at any width w, shows
--               `SFits w z`, and reads of a hypothesis `SFits w z` that `to_z w (of_z w z)` is z
--     wholes    looks besides into the sums and differences of a side, as far as `RuleTable` goes
--
-- A sum or difference that stands deeper is an unknown. There are two ways on:
--     a rule for the shape, in front, since the first that fits is taken: `omega (reads le (any ⊖ (any ⊕ any)) (any ⊕ any), wholes)`, `shows` for the goal,
--     with `reads` and `shows` of `ShapeLaws`, and `le`, `any`, `◌⊕◌`, `◌⊖◌` of `Shape`
--     the inner operation's equation: `omega (wholes, split-add a b)`, with `split-add`, `split-sub`, `split-mul`, `split-neg` of `SplitLaws`
--
-- A rule is applied to a hypothesis, a `let`, a field and a listed fact, as each stands, and to nothing that a rule has made. So:
--     a fact for all indices is listed at an index, `omega (wholes, h k)`, and a need that was proved as it is, `omega (wholes, add-result c)`
--     `a ≢ b` is listed as `(ne-split-iff a b).0 d`, and `a == b` of code, which compares bits, as `bits-eq`, both of `SplitLaws`
--     `SFits w z` speaks of z's bits and not of z's bounds, which are `fits-least f` and `Fits-below f` of `Order`
--     a call's result and an element that was read have no `SFits` yet: it is `told-fits w32 z c.v.given` of `SplitLaws`, or `c.f.ok`
--     a product is an unknown: its bounds are `mul-within` of `Order`, its value `mul-back` of `SplitLaws`

use Rattle.std.proofs.Common.{arith, leb-true, leb-false, eqb-true, le-leb, eq-eqb}
use Rattle.std.proofs.lemmas.Bool.{lt-leb}
use Rattle.whole.specs.RuleTable.{sides, le-shapes, lt-shapes, eq-shapes, lt-is-shapes, le-is-shapes, machine-shapes}

-- The tests between naturals are the kit's: `lt_z (pos a) (pos b)` computes to one.
pub ruleset whole = (sides, leb-true, leb-false, eqb-true, le-leb, lt-leb, eq-eqb, arith)

pub ruleset wholes = (le-shapes, lt-shapes, eq-shapes, lt-is-shapes, le-is-shapes, machine-shapes, whole)
