-- The limits of a time, a run and a calendar that are passed in as values (document 01, 'Numbers of refusal': 'A value out of limits
-- (2,0) comes before these').
use Rattle.std.specs.Prelude.{ℕ, zero, suc, ◌+◌, ◌*◌, ◌-◌, Bool, true, not, ◌&&◌, ◌||◌, List, eqb, leb, ℤ, pos, get_or}
use Rattle.text.specs.Numbers.{within}
use Rattle.clock.specs.declared.RunTime.{RunTime}
use Rattle.plan.specs.declared.Plan.{Plan}
use Rattle.plan.specs.Limits.{least_c, greatest_c}
use Rattle.plan.specs.PlanLines.{is_job}
use Rattle.bounds.specs.Tables.{any_below}
use Rattle.calendars.specs.declared.Terms.{Terms}
use Rattle.calendars.specs.declared.Calendar.{Calendar}
use Rattle.events.specs.Bits.{bits_of, has_event, is_below, most_events}
use Rattle.calendars.specs.Calendars.{events_ahead, events_before, no_terms}
use Rattle.runs.specs.declared.Phase.{Phase}
use Rattle.runs.specs.declared.Phase.TheVariants.{Waiting, Running}
use Rattle.runs.specs.declared.Run.{Run}
use Rattle.runs.specs.Seen.{time_at, first_seen}

-- ---- 'times are 0..100,000,000,000,000,000'

abbrev pub last_time : ℤ
last_time = pos 100000000000000000

abbrev pub is_time : RunTime → Bool
is_time t = within (pos 0) last_time t.0

-- those of n events from event e on
unfoldable pub are_times : List ℤ → ℕ → ℕ → Bool
are_times seen e zero = true
are_times seen e (suc n) = is_time (time_at seen e) && are_times seen (suc e) n

-- ---- runs

-- 'a run's window 1..`last`', 'its job 1..`jobs`'
abbrev pub is_turn : ℕ → ℕ → ℕ → ℕ → Bool
is_turn last jobs j i = leb 1 j && leb j last && is_job jobs i

-- 'or `last` + 1 waiting for job 1 (the run is over)'
unfoldable pub is_phase : ℕ → ℕ → Phase → Bool
is_phase last jobs (Waiting j i) = is_turn last jobs j i || (eqb j (last + 1) && eqb i 1)
is_phase last jobs (Running j i t) = is_turn last jobs j i && is_time t

-- the job of a phase, from 1: those before it have finished in the present window
abbrev pub job_of_phase : Phase → ℕ
job_of_phase (Waiting j i) = i
job_of_phase (Running j i t) = i

-- the phase, and every time that the run has seen: up to the start that is due or that is running
unfoldable pub is_run : Plan → Run → Bool
is_run p r =
    let first = first_seen p.jobs r.before in
    is_phase p.last p.jobs r.phase && are_times r.seen first (events_before p (job_of_phase r.phase - 1) - first)

-- ---- calendars

abbrev pub is_c : ℤ → Bool
is_c c = within least_c greatest_c c

-- event e is named, and its c is out of the range of a bound's c
abbrev pub is_out : ℕ → ℕ → ℤ → Bool
is_out set e c = has_event e set && not (is_c c)

-- one side of the job at place i: 'its bits name events of the previous window or of earlier jobs only', and each c that they name is in the range of a
-- bound's c
unfoldable pub is_side : ℕ → ℕ → ℕ → List ℤ → Bool
is_side jobs i set cs =
    is_below (events_ahead jobs i) set
    && not (any_below (events_ahead jobs i) (λ e. is_out set e (get_or cs (i * most_events + e) (pos 0))))

-- the terms of the job at place i, with the c of both sides
unfoldable pub are_terms_of : ℕ → ℕ → Terms → List ℤ → List ℤ → Bool
are_terms_of jobs i t cs ds = is_c t.low.0 && is_c t.high.0 && is_side jobs i (bits_of t.below) cs && is_side jobs i (bits_of t.above) ds

abbrev pub are_terms : Plan → Calendar → ℕ → Bool
are_terms p c i = are_terms_of p.jobs i (get_or c.terms i no_terms) c.at_least c.at_most

-- 'a calendar's low, high and c lie in the range of a bound's c', for each job of the plan
unfoldable pub is_calendar : Plan → Calendar → Bool
is_calendar p c = not (any_below p.jobs (λ i. not (are_terms p c i)))
