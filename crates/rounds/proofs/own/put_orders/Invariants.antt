-- `rounds::own::put_orders` meets its contract. The loop's invariant: the places that are left give the whole answer.
use mathlib.Core.Path.{◌≡◌}
use Rattle.bounds.specs.Flat.{put_bounds}
use Rattle.rounds.specs.Given.{orders}
use Rattle.rounds.proofs.own.put_orders.Given as goal

abbrev pub invariant-loop-k : goal.invariant-loop-k
invariant-loop-k l =
    put_bounds l.times.early l.times.late (orders l.count) l.initial.table.weights ≡ put_bounds l.times.early l.times.late (orders l.k) l.table.weights
