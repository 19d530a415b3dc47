-- `put_parts`: the parts that were passed are written.
use Prim.Native.Nat.{◌+◌, ◌*◌, ◌≤◌}
use lib.ListN.{take}
use Rattle.std.specs.List.{flat_map}
use Rattle.text.specs.Lent.{Stored}
use Rattle.values.proofs.writer.put_parts.Given as goal

abbrev pub invariant-loop-part : goal.invariant-loop-part
invariant-loop-part g l =
    (l.end ≤ l.at + 120 * l.part-index)
    × Stored l.initial.out l.at (flat_map g.T.Part.text (take l.part-index l.parts)) l.out l.end
