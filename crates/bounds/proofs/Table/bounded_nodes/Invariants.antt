-- `bounds::Table::bounded_nodes` meets its contract. The loop's invariant: the set is that of the nodes from z on; a turn is `bounded_from-more`.
use mathlib.Core.Path.{◌≡◌}
use Rattle.events.specs.Bits.{bits_of}
use Rattle.bounds.specs.FlatLaws.{bounded_from}
use Rattle.bounds.proofs.Table.bounded_nodes.Given as goal

abbrev pub invariant-loop-z : goal.invariant-loop-z
invariant-loop-z l = bits_of l.set ≡ bounded_from l.self.weights l.s l.z
