-- `put_side` meets its contract. The invariant: the events before e are recorded, bits and c. One law a turn: `events_on-more`, `cs_on-more`.
use mathlib.Core.Path.{◌≡◌}
use lib.Seq.{sets}
use Rattle.bounds.specs.Tables.{listed}
use Rattle.events.specs.Bits.{bits_of, event_set}
use Rattle.calendars.specs.Recorded.{is_on_side, c_on_side}
use Rattle.calendars.proofs.recorded.put_side.Given as goal

abbrev pub invariant-loop-e : goal.invariant-loop-e
invariant-loop-e l =
    (bits_of l.set ≡ event_set (listed l.e (is_on_side l.side l.table.weights l.count)))
    × (l.cs ≡ sets l.initial.cs l.row (listed l.e (c_on_side l.side l.table.weights l.count)))
