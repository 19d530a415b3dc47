-- `calendar_of` meets its contract. The invariant is `Walked`: the jobs from place i on are recorded, and the tables before the others are left.
use Prim.Native.Nat.{◌+◌}
use mathlib.Core.Path.{◌≡◌}
use lib.ListN.{length}
use Rattle.bounds.specs.Events.{nodes}
use Rattle.bounds.specs.Flat.{rows_of, cells}
use Rattle.calendars.specs.CalendarsLaws.{Walked}
use Rattle.calendars.proofs.walk.calendar_of.Given as goal

abbrev pub invariant-loop-i : goal.invariant-loop-i
invariant-loop-i l =
    (Walked l.p (rows_of (nodes (l.p.jobs + l.p.jobs)) l.joined.weights) l.i l.table.weights l.c.terms l.c.at_least l.c.at_most)
    × (length l.table.weights ≡ cells)
