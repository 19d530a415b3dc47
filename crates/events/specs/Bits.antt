-- Sets of events as bits (document 01, 'Elimination': 'are kept as bits of two numbers, the origin not among them; in each the count of its
-- terms is the count of ones').
use Rattle.std.specs.Prelude.{ℕ, zero, suc, ◌+◌, ◌*◌, ◌/◌, ◌-◌, ◌%◌, ◌^◌, ◌<◌, Bool, cond, List, [], ◌∷◌, eqb}
use Rattle.text.specs.Numbers.{is_empty}
use Rattle.plan.specs.Limits.{most_jobs}
use Rattle.events.specs.declared.Events.{Events}

-- as many events as two windows have at most: a start and a finish for each job
abbrev pub most_events : ℕ
most_events = 4 * most_jobs

-- ---- a set as a number: event e has digit e of it

-- the number that a set of the code is, and the set that holds a number
abbrev pub bits_of : Events → ℕ
bits_of s = s.0

abbrev pub events_of : ℕ → Events
events_of bits = record { 0 = bits }

-- whether event e is in a set
unfoldable pub has_event : ℕ → ℕ → Bool
has_event zero s = eqb (s % 2) 1
has_event (suc e) s = has_event e (s / 2)

-- the set of the events whose places hold true
unfoldable pub event_set : List Bool → ℕ
event_set [] = 0
event_set (b ∷ bs) = cond b 1 0 + 2 * event_set bs

-- how many places hold true
unfoldable pub count_true : List Bool → ℕ
count_true [] = 0
count_true (b ∷ bs) = cond b 1 0 + count_true bs

-- a set and event e
unfoldable pub with_event : ℕ → ℕ → ℕ
with_event e s = cond (has_event e s) s (s + 2 ^ e)

-- a set, and event e where that is on
abbrev pub with_if : Bool → ℕ → ℕ → ℕ
with_if on e s = cond on (with_event e s) s

-- ---- 'ones give the term count, trailing zeros the next event'

-- as many events as a u64 has bits
abbrev pub most_bits : ℕ
most_bits = 64

-- a set each of whose events can be one later; and that set, with event 0 where that is on
abbrev pub HasRoom : ℕ → Type 0
HasRoom s = s < 2 ^ (most_bits - 1)

abbrev pub with_first : Bool → ℕ → ℕ
with_first on s = cond on 1 0 + 2 * s

-- how many of n events from event e on are in a set
unfoldable pub count_from : ℕ → ℕ → ℕ → ℕ
count_from s e zero = 0
count_from s e (suc n) = cond (has_event e s) 1 0 + count_from s (suc e) n

abbrev pub event_count : ℕ → ℕ
event_count s = count_from s 0 most_bits

-- the first of n events from event e on that is in a set; e + n, where none is
unfoldable pub next_from : ℕ → ℕ → ℕ → ℕ
next_from s e zero = e
next_from s e (suc n) = let later = next_from s (suc e) n in cond (has_event e s) e later

abbrev pub next_event : ℕ → ℕ → ℕ
next_event s e = next_from s e most_bits

-- the events of a set, of n from event e on, in the calendar's order
unfoldable pub members_from : ℕ → ℕ → ℕ → List ℕ
members_from set e zero = []
members_from set e (suc n) = let later = members_from set (suc e) n in cond (has_event e set) (e ∷ later) later

-- whether every event of a set is below count: none from there on is in it
abbrev pub is_below : ℕ → ℕ → Bool
is_below count s = is_empty (members_from s count most_bits)
