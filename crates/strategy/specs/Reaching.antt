-- Reached runs: those that come from the beginning step by step, each with the history of its finished jobs. And what a step does to a run and its history:
-- nothing, a start that was on offer, or a finish inside its times.
use Rattle.std.specs.Prelude.{ℕ, ◌+◌, ◌*◌, ◌-◌, ◌≤◌, ◌≡◌, [], ◌∷◌, ◌++◌, length, get_or}
use Rattle.clock.specs.declared.RunTime.{RunTime}
use Rattle.plan.specs.declared.Plan.{Plan}
use Rattle.plan.specs.PlanLines.{no_job}
use Rattle.calendars.specs.declared.Calendar.{Calendar}
use Rattle.runs.specs.declared.Phase.{Phase}
use Rattle.runs.specs.declared.Phase.TheVariants.{Waiting, Running}
use Rattle.runs.specs.declared.Run.{Run}
use Rattle.runs.specs.declared.Step.{Step}
use Rattle.runs.specs.declared.Answer.{Answer}
use Rattle.runs.specs.declared.Answer.TheVariants.{Offered, Started, Final, Refused}
use Rattle.runs.specs.Offers.{offer_of}
use Rattle.runs.specs.Steps.{new_run, running_since, closed_since, stepped, OnOffer, InTimes}
use Rattle.strategy.specs.Histories.{History}

-- it is the turn of job i of window j, both counted from 1: so many jobs have finished
pub record AtTurn (p : Plan) (h : History) (j i : ℕ) : Type 0 where
  pub window : 1 ≤ j
  pub job-least : 1 ≤ i
  pub job-most : i ≤ p.jobs
  pub finished : length h ≡ (j - 1) * p.jobs + (i - 1)

-- ---- what an answer adds to the history

-- the job that runs has finished at t
unfoldable pub with_finish : Phase → RunTime → History → History
with_finish (Waiting j i) t h = h
with_finish (Running j i s) t h = h ++ (record { start = s.0; finish = t.0 } ∷ [])

-- 'A count is final exactly when its finish is accepted.'
unfoldable pub history_after : Run → Answer → History → History
history_after r (Offered o) h = h
history_after r (Started j i t) h = h
history_after r (Final j i t) h = with_finish r.phase t h
history_after r (Refused x) h = h

-- ---- reached runs

-- from the beginning step by step, whatever is answered
pub data Reached (p : Plan) (c : Calendar) : Run → History → Type 0 where
  begun : Reached p c new_run []
  more : {r : Run} {h : History} → Reached p c r h → (st : Step)
      → Reached p c (stepped p c r st).run (history_after r (stepped p c r st).answer h)

-- a reached run, with its history
pub record ReachedWith (p : Plan) (c : Calendar) (r : Run) : Type 0 where
  pub history : History
  pub reached : Reached p c r history

-- ---- what a step does

-- 'whose starts were on offer and running times inside limits': what a step makes of the run r and its history h
pub data StepEffect (p : Plan) (c : Calendar) (r : Run) (h : History) : Run → History → Type 0 where
  -- an ask, and a step that is refused
  nothing : StepEffect p c r h r h
  -- while the run lasts
  start-on-offer : (j i : ℕ) (t : RunTime) → r.phase ≡ Waiting j i → j ≤ p.last → OnOffer (offer_of p c r j i) t.0
      → StepEffect p c r h (running_since r j i t) h
  -- of the job that runs
  finish-inside-times : (j i : ℕ) (s t : RunTime) → r.phase ≡ Running j i s → InTimes (get_or p.job (i - 1) no_job) s.0 t.0
      → StepEffect p c r h (closed_since p.jobs r j i s t) (h ++ (record { start = s.0; finish = t.0 } ∷ []))
