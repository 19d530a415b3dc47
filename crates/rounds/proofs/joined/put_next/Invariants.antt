-- `rounds::joined::put_next` meets its contract. The loop's invariant: the rows that are left give the whole answer.
use Prim.Native.Nat.{◌-◌}
use mathlib.Core.Path.{◌≡◌}
use Rattle.bounds.specs.Flat.{each_node}
use Rattle.rounds.specs.Next.{next_row, next_rows}
use Rattle.rounds.proofs.joined.put_next.Given as goal

abbrev pub invariant-loop-y : goal.invariant-loop-y
invariant-loop-y l =
    next_rows l.times.early l.times.late l.jobs l.window l.carried.weights l.initial.table.weights ≡ each_node (next_row l.times.early l.times.late l.jobs l.window l.carried.weights) l.y (l.count - l.y) l.table.weights
