-- `bounds::times::times_of` meets its contract. The loop's invariant: both arrays are filled with the times of the places below k. The sums of a place lie in
-- range (`job-in`).
use Rattle.bounds.specs.Events.{nodes, earliest, latest}
use Rattle.bounds.specs.FillLaws.{Filled}
use Rattle.bounds.proofs.times.times_of.Given as goal

abbrev pub invariant-loop-k : goal.invariant-loop-k
invariant-loop-k l = (Filled (earliest l.p) (nodes l.k) l.early) × (Filled (latest l.p) (nodes l.k) l.late)
