-- `read_steps`: the invariant is `LinesSoFar`, that what is left to read is all there was to read.
use Rattle.session.specs.SessionReadLaws.{LinesSoFar}
use Rattle.session.proofs.refused.read_steps.Given as goal

abbrev pub invariant-loop-step : goal.invariant-loop-step
invariant-loop-step l = LinesSoFar l.initial.lines l.step-iterator
