use Rattle.std.proofs.Common.{arith, sym}
use Rattle.values.specs.JudgedWays.{BoundsHeld-next, BoundsHeld-past}
use Rattle.values.proofs.bound_values.judge_bounds.Goals as goal

pub returns-in_err-judge_line : goal.returns-in_err-judge_line
returns-in_err-judge_line c =
    let a = c.args in
    let l = c.loop-i in
    grind (arith, BoundsHeld-next a.jobs c.requires.0 a.bounds.now c.requires.1 l.given l.i l.invariant c.loop-i-test.true)

pub loop-i-preserved : goal.loop-i-preserved
loop-i-preserved c =
    let a = c.args in
    let l = c.loop-i in
    BoundsHeld-past a.jobs c.requires.0 a.bounds.now c.requires.1 l.given l.i l.invariant c.loop-i-test.true (sym c.in_ok-judge_line.ensures) c.pair_number.result c.pair_number.ensures
