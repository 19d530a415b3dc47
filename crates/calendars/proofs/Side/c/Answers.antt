-- `c` meets its contract, by the laws of `RecordedLaws`; a weight in range can be negated.
use mathlib.Core.Path.{◌≡◌, ◌∙◌}
use lib.IntN.{pos, neg_ℤ, ◌-ℤ◌}
use mir.Syntax.{w32}
use mir.Val.{SFits, to_z, of_z}
use mir.Facts.{to_z-of_z}
use Rattle.whole.specs.Rules.{wholes}
use Rattle.whole.specs.SplitLaws.{split-neg}
use Rattle.bounds.specs.FlatLaws.{is-mark, no-mark}
use Rattle.calendars.specs.RecordedLaws.{c_on-mark, c_on-below, c_on-above}
use Rattle.calendars.proofs.Side.c.Goals as goal

pub returns-then-w-eq-NO_BOUND : goal.returns-then-w-eq-NO_BOUND
returns-then-w-eq-NO_BOUND c = c_on-mark c.args.self c.args.w (is-mark c.ranges.w c.if-w-eq-NO_BOUND.true)

pub returns-in-Below : goal.returns-in-Below
returns-in-Below c =
    let w = c.requires in
    let on = no-mark c.ranges.w c.if-w-eq-NO_BOUND.false in
    let fits : SFits w32 (pos 0 -ℤ to_z w32 (of_z w32 c.args.w)) = omega (wholes, w.least on, w.greatest on) in
    (let back : to_z w32 (of_z w32 (pos 0 -ℤ to_z w32 (of_z w32 c.args.w))) ≡ neg_ℤ c.args.w =
    omega (wholes, w.least on, w.greatest on, fits, split-neg c.args.w) in back)
    ∙ c_on-below c.args.self c.args.w c.in-Below.is on

pub returns-in-Above : goal.returns-in-Above
returns-in-Above c =
    to_z-of_z c.ranges.w ∙ c_on-above c.args.self c.args.w c.in-Above.is (no-mark c.ranges.w c.if-w-eq-NO_BOUND.false)
