-- `bounds::Table::join_rows` meets its contract. The loop's invariant: what remains to be done from row y on gives the whole answer, and
-- from row y on nothing has changed, so that the set is still that of row s.
use Prim.Native.Nat.{ℕ, ◌≤◌, ◌-◌}
use mathlib.Core.Path.{◌≡◌}
use lib.IntN.{pos}
use lib.ListN.{get_or}
use Rattle.bounds.specs.Flat.{place, each_node, joined_row, joined_rows}
use Rattle.bounds.proofs.Table.join_rows.Given as goal

abbrev pub invariant-loop-y : goal.invariant-loop-y
invariant-loop-y l =
    (joined_rows l.times.early l.times.late l.s l.initial.self.weights ≡ each_node (joined_row l.times.early l.times.late l.s) l.y (l.s - l.y) l.self.weights)
    × ((i : ℕ) → place l.y 0 ≤ i → get_or l.self.weights i (pos 0) ≡ get_or l.initial.self.weights i (pos 0))
