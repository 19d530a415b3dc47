-- Steps: ask, start and finish (document 01, 'Numbers of refusal' and 'Offers and runs'). The answer to a step says nothing of what becomes of the run; what an
-- answer makes of a run is a definition of its own; and a step is the one and then the other.
use Rattle.std.specs.Prelude.{ℕ, ◌+◌, ◌*◌, ◌-◌, Bool, true, false, cond, ◌&&◌, List, [], ◌∷◌, ltb, ℤ, pos, ◌+ℤ◌, ◌≤ℤ◌, replicate, Result, Ok, Err}
use Rattle.std.proofs.Math.Option.{Option, none, some}
use Rattle.text.specs.Numbers.{within}
use Rattle.clock.specs.declared.RunTime.{RunTime}
use Rattle.plan.specs.declared.Job.{Job}
use Rattle.plan.specs.declared.Plan.{Plan}
use Rattle.lines.specs.declared.Refusal.{Refusal}
use Rattle.lines.specs.declared.Refusal.TheVariants as refusal
use Rattle.lines.specs.Refusals.{outside_limits}
use Rattle.plan.specs.PlanWritten.{judged_plan}
use Rattle.calendars.specs.declared.Calendar.{Calendar}
use Rattle.events.specs.Bits.{most_events}
use Rattle.runs.specs.declared.Before.TheVariants.{Nothing, Window}
use Rattle.runs.specs.declared.Phase.{Phase}
use Rattle.runs.specs.declared.Phase.TheVariants.{Waiting, Running}
use Rattle.runs.specs.declared.Run.{Run}
use Rattle.runs.specs.declared.Offer.{Offer}
use Rattle.runs.specs.declared.Opening.{Opening}
use Rattle.runs.specs.declared.Choice.{Choice}
use Rattle.runs.specs.declared.Choice.TheVariants.{At, Auto}
use Rattle.runs.specs.declared.Step.{Step}
use Rattle.runs.specs.declared.Step.TheVariants.{Ask, Start, Finish}
use Rattle.runs.specs.declared.Answer.{Answer}
use Rattle.runs.specs.declared.Answer.TheVariants.{Offered, Started, Final, Refused}
use Rattle.runs.specs.declared.Answered.{Answered}
use Rattle.runs.specs.Seen.{job_seen, to_front}
use Rattle.runs.specs.ValueLimits.{is_time, job_of_phase, is_run, is_calendar}
use Rattle.runs.specs.Offers.{Turn, turn_of, opening_at}

-- ---- the answer to a step, with a plan, a calendar and times inside their limits

unfoldable pub asked : Result Opening Refusal → Answer
asked (Ok at) = Offered at.offer
asked (Err x) = Refused x

-- '8 | start outside the offer'
abbrev pub started_by : ℕ → ℕ → Offer → Choice → Answer
started_by j i o (At t) = cond (within o.from.0 o.to.0 t.0) (Started j i t) (Refused refusal.OutsideOffer)
-- '`start=auto` (the offer's lower end)'; '2,0 instead for an auto start outside the range of T'
started_by j i o Auto = cond (is_time o.from) (Started j i o.from) (Refused outside_limits)

unfoldable pub started : Choice → Result Opening Refusal → Answer
started choice (Ok at) = started_by at.window at.job at.offer choice
started choice (Err x) = Refused x

-- '9 | finish earlier than start + min or later than start + max'
abbrev pub finished_since : Job → ℕ → ℕ → RunTime → RunTime → Answer
finished_since job j i s t =
    cond (within (s.0 +ℤ job.min) (s.0 +ℤ job.max) t.0) (Final j i t) (Refused refusal.OutsideTimes)

-- '7 | finish while none runs'
unfoldable pub finished : Job → RunTime → Phase → Answer
finished job t (Waiting j i) = Refused refusal.Idle
finished job t (Running j i s) = finished_since job j i s t

-- 'For ask and start: 10, 6, 11, 8 (2,0 instead for an auto start outside the range of T). For finish: 7, 9.'
unfoldable pub answer_at : Turn → List ℤ → List ℤ → Run → Step → Answer
answer_at d cs ds r Ask = asked (opening_at d cs ds r r.phase)
answer_at d cs ds r (Start choice) = started choice (opening_at d cs ds r r.phase)
answer_at d cs ds r (Finish t) = finished d.job t r.phase

abbrev pub answer_of : Plan → Calendar → Run → Step → Answer
answer_of p c r st = answer_at (turn_of p c (job_of_phase r.phase)) c.at_least c.at_most r st

-- ---- what an answer makes of a run

-- a run at its beginning
abbrev pub new_run : Run
new_run = record { phase = Waiting 1 1; before = Nothing; seen = replicate most_events (pos 0) }

-- job i of window j has started at t
abbrev pub running_since : Run → ℕ → ℕ → RunTime → Run
running_since r j i t = record { phase = Running j i t; before = r.before; seen = r.seen }

-- the job that runs since s has finished at t, and the run moves on: to the window's next job, or to the next window, for which this one is the previous window
abbrev pub closed_since : ℕ → Run → ℕ → ℕ → RunTime → RunTime → Run
closed_since jobs r j i s t =
    let seen = job_seen jobs (i - 1) s t r.seen in
    cond (ltb i jobs)
    (record { phase = Waiting j (i + 1); before = r.before; seen = seen })
    (record { phase = Waiting (j + 1) 1; before = Window; seen = to_front (2 * jobs) seen })

unfoldable pub closed : ℕ → Run → RunTime → Phase → Run
closed jobs r t (Waiting j i) = r
closed jobs r t (Running j i s) = closed_since jobs r j i s t

-- a start and a finish move the run; an offer leaves it; of refusals: 'None changes the run'
unfoldable pub moved : ℕ → Run → Answer → Run
moved jobs r (Offered o) = r
moved jobs r (Started j i t) = running_since r j i t
moved jobs r (Final j i t) = closed jobs r t r.phase
moved jobs r (Refused x) = r

-- ---- a step: its answer, and the run after it

-- an answer, and what it makes of the run
abbrev pub answered_by : Plan → Run → Answer → Answered
answered_by p r a = record { answer = a; run = moved p.jobs r a }

abbrev pub stepped : Plan → Calendar → Run → Step → Answered
stepped p c r st = answered_by p r (answer_of p c r st)

-- ---- a step on values that are passed in

-- the time that a step brings with it
abbrev pub is_step : Step → Bool
is_step Ask = true
is_step (Start (At t)) = is_time t
is_step (Start Auto) = true
is_step (Finish t) = is_time t

-- 'A plan handed over as a value is judged as its text would be.' 'A value out of limits (2,0) comes before these'
unfoldable pub values_refused : Option Refusal → Bool → Option Refusal
values_refused (some x) inside = some x
values_refused none true = none
values_refused none false = some outside_limits

unfoldable pub unless_refused : Option Refusal → Answer → Answer
unless_refused (some x) a = Refused x
unless_refused none a = a

-- the answer to a step on values
unfoldable pub values_answer : Plan → Calendar → Run → Step → Answer
values_answer p c r st =
    let inside = is_run p r && is_calendar p c && is_step st in unless_refused (values_refused (judged_plan p) inside) (answer_of p c r st)

abbrev pub step : Plan → Calendar → Run → Step → Answered
step p c r st = answered_by p r (values_answer p c r st)

-- ---- which starts and which finishes are taken, as propositions

-- 'both ends included'
pub record OnOffer (o : Offer) (t : ℤ) : Type 0 where
  pub least : o.from.0 ≤ℤ t
  pub most : t ≤ℤ o.to.0

-- a finish at t of a job that runs since s is neither 'earlier than start + min' nor 'later than start + max'
pub record InTimes (job : Job) (s t : ℤ) : Type 0 where
  pub least : (s +ℤ job.min) ≤ℤ t
  pub most : t ≤ℤ (s +ℤ job.max)

-- ---- sessions: 'a plan followed by steps'

-- the run after the steps of a session, whatever is answered to them
unfoldable pub after_steps : Plan → Calendar → Run → List Step → Run
after_steps p c r [] = r
after_steps p c r (st ∷ sts) = after_steps p c (stepped p c r st).run sts

-- and after steps on values, which `ask`, `start_at`, `start_auto` and `finish_at` answer
unfoldable pub after_values : Plan → Calendar → Run → List Step → Run
after_values p c r [] = r
after_values p c r (st ∷ sts) = after_values p c (step p c r st).run sts
