-- `rounds::own::put_ranges` meets its contract. The loop's invariant: the places that are left give the whole answer.
use mathlib.Core.Path.{◌≡◌}
use Rattle.bounds.specs.Flat.{put_bounds}
use Rattle.rounds.specs.Put.{ranges_of}
use Rattle.rounds.proofs.own.put_ranges.Given as goal

abbrev pub invariant-loop-k : goal.invariant-loop-k
invariant-loop-k l =
    put_bounds l.times.early l.times.late (ranges_of l.times.early l.times.late l.count) l.initial.table.weights ≡ put_bounds l.times.early l.times.late (ranges_of l.times.early l.times.late l.k) l.table.weights
