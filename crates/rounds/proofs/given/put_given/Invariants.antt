-- `rounds::given::put_given` meets its contract. The loop's invariant: the bounds from place i on give the whole answer.
use mathlib.Core.Path.{◌≡◌}
use lib.ListN.{drop}
use Rattle.bounds.specs.Flat.{put_bounds}
use Rattle.rounds.specs.Given.{given_bounds}
use Rattle.rounds.proofs.given.put_given.Given as goal

abbrev pub invariant-loop-d : goal.invariant-loop-d
invariant-loop-d l =
    put_bounds l.times.early l.times.late (given_bounds l.fn.p l.between l.d-items) l.initial.table.weights
    ≡ put_bounds l.times.early l.times.late (given_bounds l.fn.p l.between (drop l.d-index l.d-items)) l.table.weights
