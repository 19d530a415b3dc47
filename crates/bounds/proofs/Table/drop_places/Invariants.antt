-- `bounds::Table::drop_places` meets its contract. The loop's invariant: of each plan for which the array stood, the places that are left give the whole
-- answer, and the array stands still.
use Prim.Native.Nat.{◌+◌}
use mathlib.Core.Path.{◌≡◌}
use lib.ListN.{length}
use Rattle.plan.specs.declared.Plan.{Plan}
use Rattle.bounds.specs.Events.{nodes}
use Rattle.bounds.specs.Elimination.{eliminated}
use Rattle.bounds.specs.Flat.{rows_of}
use Rattle.bounds.specs.Held.{TableHeldFor}
use Rattle.bounds.proofs.Table.drop_places.Given as goal

abbrev pub invariant-loop-left : goal.invariant-loop-left
invariant-loop-left l =
    (length l.self.weights ≡ length l.initial.self.weights)
    × ((p : Plan) → TableHeldFor p l.times.early l.times.late (nodes (l.low + l.count)) l.initial.self.weights
    → (eliminated p l.low l.count (rows_of (nodes (l.low + l.count)) l.initial.self.weights) ≡ eliminated p l.low l.left (rows_of (nodes (l.low + l.left)) l.self.weights))
    × (TableHeldFor p l.times.early l.times.late (nodes (l.low + l.left)) l.self.weights))
