-- `judge_bounds`: after i bounds stands `BoundsHeld`.
use Rattle.values.specs.JudgedWays.{BoundsHeld}
use Rattle.values.proofs.bound_values.judge_bounds.Given as goal

abbrev pub invariant-loop-i : goal.invariant-loop-i
invariant-loop-i l = BoundsHeld l.jobs l.bounds l.given l.i
