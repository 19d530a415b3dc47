-- `rounds::joined::put_next_row` meets its contract. The loop's invariant: the cells that are left give the whole answer.
use Prim.Native.Nat.{◌-◌}
use mathlib.Core.Path.{◌≡◌}
use Rattle.bounds.specs.Flat.{each_node}
use Rattle.rounds.specs.Next.{next_at, next_row}
use Rattle.rounds.proofs.joined.put_next_row.Given as goal

abbrev pub invariant-loop-z : goal.invariant-loop-z
invariant-loop-z l =
    next_row l.times.early l.times.late l.jobs l.window l.carried.weights l.y l.initial.table.weights ≡ each_node (next_at l.times.early l.times.late l.jobs l.window l.carried.weights l.y) l.z (l.count - l.z) l.table.weights
