-- `bounds::Table::join_cells` meets its contract. The loop's invariant: the set's members that are left are those from some node on, what remains to be
-- done from it on gives the whole answer, and from the place of (y, s) on nothing has changed, so that row s still has its weights.
use Prim.Native.Nat.{ℕ, ◌≤◌, ◌-◌}
use mathlib.Core.Path.{◌≡◌}
use lib.IntN.{pos}
use lib.ListN.{get_or}
use Rattle.events.specs.Bits.{bits_of, members_from}
use Rattle.bounds.specs.Flat.{place, each_node, joined_at, joined_cells}
use Rattle.bounds.proofs.Table.join_cells.Given as goal

abbrev pub invariant-loop-z : goal.invariant-loop-z
invariant-loop-z l =
    ((e : ℕ)
    × (l.z-iterator ≡ members_from (bits_of l.fn.set) e (l.s - e))
    × (joined_cells l.times.early l.times.late l.s l.y l.w l.initial.self.weights
    ≡ each_node (joined_at l.times.early l.times.late l.s l.y l.w) e (l.s - e) l.self.weights))
    × ((i : ℕ) → place l.y l.s ≤ i → get_or l.self.weights i (pos 0) ≡ get_or l.initial.self.weights i (pos 0))
