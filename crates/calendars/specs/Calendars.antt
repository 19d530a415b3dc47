-- The calendar (document 01, 'Elimination': 'Calendar: with the settled set, the bounds on each start just before it is eliminated').
use Rattle.std.specs.Prelude.{ℕ, zero, suc, ◌+◌, ◌*◌, Bool, true, false, List, [], ◌∷◌, ◌++◌, ℤ, pos, neg_ℤ, ◌-ℤ◌, Result, Ok, Err}
use Rattle.plan.specs.declared.Plan.{Plan}
use Rattle.plan.specs.Limits.{most_jobs}
use Rattle.plan.specs.PlanLines.{filled}
use Rattle.bounds.specs.Events.{start_node}
use Rattle.bounds.specs.Tables.{Cell, off, upto, Rows, at, listed, Set, contradiction, bounds}
use Rattle.bounds.specs.Elimination.{without_finish, without_start, then_set}
use Rattle.calendars.specs.declared.Terms.{Terms}
use Rattle.calendars.specs.declared.Calendar.{Calendar}
use Rattle.calendars.specs.declared.Decision.{Decision}
use Rattle.lines.specs.declared.Refusal.{Refusal}
use Rattle.rounds.specs.Rounds.{C0, joined, Outcome, settled, no_strategy, unsettled, verdict_of, verdict_told}
use Rattle.events.specs.Bits.{events_of, event_set}
use Rattle.events.specs.Bits.{most_events}

-- ---- 'the bounds on each start just before it is eliminated'

-- no tables of a contradiction, which a settled set does not give; of a table, what the next step makes of it
unfoldable pub then_tables : Set → (Rows → List Rows) → List Rows
then_tables contradiction f = []
then_tables (bounds t) f = f t

-- the tables just before the start of each of the next window's first count jobs is eliminated, first job first
unfoldable pub before_starts : Plan → ℕ → Rows → List Rows
before_starts p zero t = []
before_starts p (suc count) t =
    then_tables (without_finish p (p.jobs + count) t)
    (λ u. then_tables (without_start p (p.jobs + count) u) (before_starts p count) ++ (u ∷ []))

-- ---- terms. With s the start: e - s <= v says start >= e - v, and s - e <= w says start <= e + w.

abbrev pub is_on : Cell → Bool
is_on off = false
is_on (upto w) = true

abbrev pub weight : Cell → ℤ
weight off = pos 0
weight (upto w) = w

-- event e of a calendar, counted from 0, is node e + 1 of the table: the origin is not among them
abbrev pub node_of_event : ℕ → ℕ
node_of_event e = suc e

-- the cells that bound the start s from below and from above by event e
abbrev pub from_below : Rows → ℕ → ℕ → Cell
from_below t s e = at t s (node_of_event e)

abbrev pub from_above : Rows → ℕ → ℕ → Cell
from_above t s e = at t (node_of_event e) s

-- how many events come before the start at a place of the next window, by the count of jobs
abbrev pub events_ahead : ℕ → ℕ → ℕ
events_ahead jobs i = 2 * (jobs + i)

abbrev pub events_before : Plan → ℕ → ℕ
events_before p i = events_ahead p.jobs i

-- the terms of job i: the origin's bounds are put back on the window's own clock
unfoldable pub terms_of : Plan → ℕ → Rows → Terms
terms_of p i t =
    let s = start_node (p.jobs + i) in
    record {
      low = record { 0 = neg_ℤ (weight (at t s 0)) -ℤ p.window };
      high = record { 0 = weight (at t 0 s) -ℤ p.window };
      below = events_of (event_set (listed (events_before p i) (λ e. is_on (from_below t s e))));
      above = events_of (event_set (listed (events_before p i) (λ e. is_on (from_above t s e))));
    }

-- the c of each event in `atleast=E,c` (start >= E + c), and in `atmost=E,c` (start <= E + c)
unfoldable pub least_cs : Plan → ℕ → Rows → List ℤ
least_cs p i t = listed (events_before p i) (λ e. neg_ℤ (weight (from_below t (start_node (p.jobs + i)) e)))

unfoldable pub most_cs : Plan → ℕ → Rows → List ℤ
most_cs p i t = listed (events_before p i) (λ e. weight (from_above t (start_node (p.jobs + i)) e))

-- ---- the calendar as a value

abbrev pub no_terms : Terms
no_terms = record { low = record { 0 = pos 0 }; high = record { 0 = pos 0 }; below = events_of 0; above = events_of 0 }

unfoldable pub all_terms : Plan → ℕ → List Rows → List Terms
all_terms p i [] = []
all_terms p i (t ∷ ts) = terms_of p i t ∷ all_terms p (suc i) ts

-- one after the other, a row of most_events places for each job
unfoldable pub all_cs : (ℕ → Rows → List ℤ) → ℕ → List Rows → List ℤ
all_cs cs i [] = []
all_cs cs i (t ∷ ts) = filled most_events (pos 0) (cs i t) ++ all_cs cs (suc i) ts

unfoldable pub calendar_of : Plan → List Rows → Calendar
calendar_of p ts =
    record {
      terms = filled most_jobs no_terms (all_terms p 0 ts);
      at_least = filled (most_jobs * most_events) (pos 0) (all_cs (least_cs p) 0 ts);
      at_most = filled (most_jobs * most_events) (pos 0) (all_cs (most_cs p) 0 ts);
    }

-- 'with the settled set'
unfoldable pub calendar : Plan → Rows → Calendar
calendar p t = calendar_of p (then_tables (then_set (C0 p) (λ c0. joined p c0 t)) (before_starts p p.jobs))

-- a calendar that says nothing, beside a verdict other than `settled`
abbrev pub no_calendar : Plan → Calendar
no_calendar p = calendar_of p []

-- 'Calendar: with the settled set, ..'; where no set is settled, the calendar says nothing
abbrev pub made_calendar : Plan → Outcome → Calendar
made_calendar p (settled m t) = calendar p t
made_calendar p (no_strategy K) = no_calendar p
made_calendar p unsettled = no_calendar p

-- ---- what is decided

-- a settled plan's round with its calendar; or the refusal of the verdict
abbrev pub with_calendar : Result ℕ Refusal → Calendar → Result Decision Refusal
with_calendar (Ok m) c = Ok (record { round = m; calendar = c })
with_calendar (Err x) c = Err x

abbrev pub decision : Plan → Outcome → Result Decision Refusal
decision p o = with_calendar (verdict_told (verdict_of p o)) (made_calendar p o)
