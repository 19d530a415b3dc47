-- What the code reads of a table, and records, just before a start is eliminated: one side of its terms after the other. The table is an array, and its last
-- node is the start s, which has every other event before it.
use Rattle.std.specs.Prelude.{ℕ, suc, ◌*◌, Bool, List, ℤ, neg_ℤ}
use Rattle.bounds.specs.Tables.{Cell, listed}
use Rattle.bounds.specs.Flat.{weight_at, cell_of}
use Rattle.calendars.specs.declared.Side.{Side}
use Rattle.calendars.specs.declared.Side.TheVariants.{Below, Above}
use Rattle.events.specs.Bits.{event_set, most_events}
use Rattle.calendars.specs.Calendars.{is_on, weight, node_of_event}

-- the weight by which a node y bounds the start s; and by which event e does
abbrev pub weight_by : Side → List ℤ → ℕ → ℕ → ℤ
weight_by Below ws s y = weight_at ws s y
weight_by Above ws s y = weight_at ws y s

abbrev pub weight_on : Side → List ℤ → ℕ → ℕ → ℤ
weight_on side ws s e = weight_by side ws s (node_of_event e)

-- the c of a cell: start >= E + c from below, start <= E + c from above
abbrev pub c_on : Side → Cell → ℤ
c_on Below c = neg_ℤ (weight c)
c_on Above c = weight c

-- of a start that has count events before it: whether event e bounds it, and its c
abbrev pub is_on_side : Side → List ℤ → ℕ → ℕ → Bool
is_on_side side ws count e = is_on (cell_of (weight_on side ws (suc count) e))

abbrev pub c_on_side : Side → List ℤ → ℕ → ℕ → ℤ
c_on_side side ws count e = c_on side (cell_of (weight_on side ws (suc count) e))

-- the events that bound it, and the c of each event
abbrev pub events_on : Side → List ℤ → ℕ → ℕ
events_on side ws count = event_set (listed count (is_on_side side ws count))

abbrev pub cs_on : Side → List ℤ → ℕ → List ℤ
cs_on side ws count = listed count (c_on_side side ws count)

-- where the c of the job at place i begin
abbrev pub row_at : ℕ → ℕ
row_at i = i * most_events
