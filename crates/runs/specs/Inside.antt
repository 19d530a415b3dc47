-- The ranges in which nothing that a step adds up wraps and every place that it looks at is one: of a plan, a calendar and a run inside their limits
-- (`Inside`), and of what is read off them.
use Rattle.std.specs.Prelude.{ℕ, ◌+◌, ◌*◌, ◌-◌, ◌≤◌, ◌<◌, ◌≡◌, true, ◌&&◌, List, ℤ, pos, ◌≤ℤ◌}
use Rattle.std.proofs.Math.Option.{none}
use Rattle.std.specs.Int.{w64}
use Rattle.std.proofs.Common.{SFits}
use Rattle.clock.specs.declared.RunTime.{RunTime}
use Rattle.clock.specs.Spans.{WindowInRange, NearBeginning}
use Rattle.plan.specs.declared.Job.{Job}
use Rattle.plan.specs.declared.Plan.{Plan}
use Rattle.lines.specs.declared.Refusal.{Refusal}
use Rattle.plan.specs.Limits.{most_jobs, most_windows}
use Rattle.plan.specs.Accepted.{Accepted}
use Rattle.calendars.specs.declared.Calendar.{Calendar}
use Rattle.events.specs.Bits.{bits_of, has_event, most_events}
use Rattle.calendars.specs.Calendars.{events_ahead}
use Rattle.runs.specs.declared.Phase.{Phase}
use Rattle.runs.specs.declared.Phase.TheVariants.{Waiting, Running}
use Rattle.runs.specs.declared.Run.{Run}
use Rattle.runs.specs.declared.Step.{Step}
use Rattle.runs.specs.declared.Answer.TheVariants.{Refused}
use Rattle.runs.specs.declared.Answered.{Answered}
use Rattle.runs.specs.Seen.{first_seen}
use Rattle.runs.specs.ValueLimits.{last_time, is_run, is_calendar}
use Rattle.runs.specs.Offers.{Turn, term_at}
use Rattle.runs.specs.Steps.{answer_of, answered_by, is_step, values_refused, unless_refused}

pub record Inside (p : Plan) (c : Calendar) (r : Run) : Type 0 where
  pub plan : Accepted p
  pub calendar : is_calendar p c ≡ true
  pub run : is_run p r ≡ true

-- 'A value out of limits (2,0) comes before these': a step with a plan that is accepted
abbrev pub accepted_step : Plan → Calendar → Run → Step → Answered
accepted_step p c r st =
    answered_by p r (unless_refused (values_refused none (is_run p r && is_calendar p c && is_step st)) (answer_of p c r st))

-- a refusal, with the run as it came in
abbrev pub refused_with : Run → Refusal → Answered
refused_with r x = record { answer = Refused x; run = r }

-- ---- what the code works with

-- the term of event e is at a place, and fits an i64
pub record TermInside (seen cs : List ℤ) (row e : ℕ) : Type 0 where
  pub event : e < most_events
  pub room : row + e < most_jobs * most_events
  pub fit : SFits w64 (term_at seen cs row e)

-- every term of a set, of the events from one on and before another, fits an i64
pub record TermsFit (seen : List ℤ) (set : ℕ) (cs : List ℤ) (row first count : ℕ) : Type 0 where
  pub fit : (e : ℕ) → first ≤ e → e < count → has_event e set ≡ true → SFits w64 (term_at seen cs row e)

-- of the offer for job i in window j
pub record OfferInside (d : Turn) (cs ds : List ℤ) (r : Run) (j i : ℕ) : Type 0 where
  pub spanned : WindowInRange d.window j
  pub low : NearBeginning d.terms.low.0
  pub high : NearBeginning d.terms.high.0
  pub jobs-most : d.jobs ≤ most_jobs
  pub job-least : 1 ≤ i
  pub job-most : i ≤ d.jobs
  pub lower : TermsFit r.seen (bits_of d.terms.below) cs ((i - 1) * most_events) (first_seen d.jobs r.before) (events_ahead d.jobs (i - 1))
  pub upper : TermsFit r.seen (bits_of d.terms.above) ds ((i - 1) * most_events) (first_seen d.jobs r.before) (events_ahead d.jobs (i - 1))

-- of the finish of a job that runs since t
pub record FinishInside (job : Job) (t : RunTime) : Type 0 where
  pub start-least : pos 0 ≤ℤ t.0
  pub start-most : t.0 ≤ℤ last_time
  pub min : NearBeginning job.min
  pub max : NearBeginning job.max

-- of a step, whatever the phase
pub record StepInside (d : Turn) (cs ds : List ℤ) (r : Run) : Type 0 where
  pub waiting : (j i : ℕ) → r.phase ≡ Waiting j i → j ≤ d.last → OfferInside d cs ds r j i
  pub running : (j i : ℕ) (t : RunTime) → r.phase ≡ Running j i t → FinishInside d.job t

-- of a move of job i in window j
pub record TurnInside (jobs j i : ℕ) : Type 0 where
  pub window-most : j ≤ most_windows
  pub jobs-most : jobs ≤ most_jobs
  pub job-least : 1 ≤ i
  pub job-most : i ≤ jobs

-- of a move, whatever the phase
pub record MoveInside (jobs : ℕ) (f : Phase) : Type 0 where
  pub running : (j i : ℕ) (t : RunTime) → f ≡ Running j i t → TurnInside jobs j i
