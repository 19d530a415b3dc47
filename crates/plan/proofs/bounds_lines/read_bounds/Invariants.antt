-- `read_bounds`: after i bounds stands `BoundsPassed`, with one law a way.
use Rattle.plan.specs.BoundsLoop.{BoundsPassed}
use Rattle.plan.proofs.bounds_lines.read_bounds.Given as goal

abbrev pub invariant-loop-i : goal.invariant-loop-i
invariant-loop-i l = BoundsPassed l.s l.from l.number l.jobs l.bounds l.bound l.given l.at l.line l.i
