-- What a run has seen. The time of event e of a calendar is at place e: the previous window's events come first, then the present window's, by job, s
-- before f.
use Rattle.std.specs.Prelude.{ℕ, zero, suc, ◌+◌, ◌*◌, List, ℤ, pos, get_or, set}
use Rattle.clock.specs.declared.RunTime.{RunTime}
use Rattle.calendars.specs.Calendars.{events_ahead}
use Rattle.runs.specs.declared.Before.{Before}
use Rattle.runs.specs.declared.Before.TheVariants.{Nothing, Window}

-- the time of event e
abbrev pub time_at : List ℤ → ℕ → RunTime
time_at seen e = record { 0 = get_or seen e (pos 0) }

-- event e was seen at t
abbrev pub time_put : List ℤ → ℕ → RunTime → List ℤ
time_put seen e t = set seen e t.0

-- 'The terms of the first window are the same, without those that name the previous window.' The first event that a run has seen, with so many jobs in
-- a window: of the previous window, or of the present one where nothing is before it.
abbrev pub first_seen : ℕ → Before → ℕ
first_seen jobs Nothing = 2 * jobs
first_seen jobs Window = 0

-- the job at place i of the present window was seen to start and to finish
unfoldable pub job_seen : ℕ → ℕ → RunTime → RunTime → List ℤ → List ℤ
job_seen jobs i start finish seen = time_put (time_put seen (events_ahead jobs i) start) (events_ahead jobs i + 1) finish

-- a window of n events has ended: what was the present window is the previous one. Place e takes what place n + e holds, for so many places from e on.
unfoldable pub front_from : ℕ → ℕ → ℕ → List ℤ → List ℤ
front_from n e zero seen = seen
front_from n e (suc left) seen = front_from n (suc e) left (time_put seen e (time_at seen (n + e)))

abbrev pub to_front : ℕ → List ℤ → List ℤ
to_front n seen = front_from n 0 n seen
