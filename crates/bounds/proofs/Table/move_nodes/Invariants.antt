-- `bounds::Table::move_nodes` meets its contract. The loop's invariant: what remains to be done from node y on gives the whole answer, and the
-- finish's own cells are as they were.
use Prim.Native.Nat.{ℕ, ◌<◌, ◌-◌}
use mathlib.Core.Path.{◌≡◌}
use Rattle.bounds.specs.Flat.{weight_at, each_node, moved_at, moved_rows}
use Rattle.bounds.proofs.Table.move_nodes.Given as goal

abbrev pub invariant-loop-y : goal.invariant-loop-y
invariant-loop-y l =
    (moved_rows l.times.early l.times.late l.s l.f l.less l.more l.initial.self.weights
    ≡ each_node (moved_at l.times.early l.times.late l.s l.f l.less l.more) l.y (l.f - l.y) l.self.weights)
    × ((u : ℕ) → u < l.f → weight_at l.self.weights u l.f ≡ weight_at l.initial.self.weights u l.f)
    × ((x : ℕ) → x < l.f → weight_at l.self.weights l.f x ≡ weight_at l.initial.self.weights l.f x)
