-- Steps on values as closed cases: the limits of the values, the order of the refusals, and what becomes of the run; and the run that a session leaves.
use Rattle.std.specs.Prelude.{ℕ, ◌+◌, ◌*◌, ◌-◌, ◌≡◌, refl, List, [], ◌∷◌, ◌++◌, map, ℤ, pos, negsuc, replicate}
use Prim.Native.String.{String}
use Rattle.text.specs.Bytes.{bytes}
use Rattle.clock.specs.declared.RunTime.{RunTime}
use Rattle.plan.specs.declared.Letter.TheVariants.{This, Next}
use Rattle.plan.specs.declared.Kind.TheVariants.{Start}
use Rattle.plan.specs.declared.Plan.{Plan}
use Rattle.lines.specs.declared.Refusal.TheVariants as refusal
use Rattle.plan.specs.Limits.{most_jobs, most_bounds}
use Rattle.plan.specs.PlanLines.{no_job, no_bound}
use Rattle.plan.specs.PlanWritten.{jobs_text, bounds_text, plan_text, refusal_of}
use Rattle.events.specs.Bits.{most_events}
use Rattle.calendars.specs.declared.Calendar.{Calendar}
use Rattle.calendars.specs.Calendars.{no_terms}
use Rattle.runs.specs.declared.Phase.{Phase}
use Rattle.runs.specs.declared.Phase.TheVariants.{Waiting, Running}
use Rattle.runs.specs.declared.Before.{Before}
use Rattle.runs.specs.declared.Before.TheVariants.{Nothing, Window}
use Rattle.runs.specs.declared.Run.{Run}
use Rattle.runs.specs.declared.Answer.{Answer}
use Rattle.runs.specs.declared.Answer.TheVariants.{Offered, Started, Final, Refused}
use Rattle.runs.specs.declared.Answered.{Answered}
use Rattle.runs.specs.declared.Choice.TheVariants.{At, Auto}
use Rattle.runs.specs.declared.Step.{Step}
use Rattle.runs.specs.declared.Step.TheVariants.{Ask, Start, Finish}
use Rattle.runs.specs.ValueLimits.{are_times, is_phase, is_run, is_side, are_terms_of, is_calendar}
use Rattle.runs.specs.Steps.{new_run, values_refused, unless_refused, values_answer, step}
use Rattle.strategy.specs.Histories.{Ran}
use Rattle.session.specs.Sessions.{dispatched}
use Rattle.promises.specs.Case.{computing}

-- ---- the values

-- plan P of document 01, with a window and a count of jobs; all but the first take no time
abbrev plan_with : ℤ → ℕ → Plan
plan_with window jobs =
    record {
      window = window;
      rounds = 100;
      last = 1000;
      jobs = jobs;
      job = record { min = pos 2; max = pos 4; release = pos 0; deadline = pos 10 } ∷ replicate (most_jobs - 1) no_job;
      bounds = 2;
      bound =
          record { a = record { letter = Next; kind = Start; job = 1 }; b = record { letter = This; kind = Start; job = 1 }; c = pos 12 }
          ∷ record { a = record { letter = This; kind = Start; job = 1 }; b = record { letter = Next; kind = Start; job = 1 }; c = negsuc 7 }
          ∷ replicate (most_bounds - 2) no_bound;
    }

abbrev plan_p : Plan
plan_p = plan_with (pos 10) 1

-- a calendar of one job: its low and high; the events that bound it from below, and the c of the first of them; and the same from above
abbrev calendar_with : ℤ → ℤ → ℕ → ℤ → ℕ → ℤ → Calendar
calendar_with low high below c above d =
    record {
      terms =
          record { low = record { 0 = low }; high = record { 0 = high }; below = record { 0 = below }; above = record { 0 = above } }
          ∷ replicate (most_jobs - 1) no_terms;
      at_least = c ∷ replicate (most_jobs * most_events - 1) (pos 0);
      at_most = d ∷ replicate (most_jobs * most_events - 1) (pos 0);
    }

-- that of P, and three that differ from it: in low and high, in what bounds from below, and from above
abbrev calendar_p : Calendar
calendar_p = calendar_with (pos 0) (pos 6) 1 (pos 8) 1 (pos 12)

abbrev between : ℤ → ℤ → Calendar
between low high = calendar_with low high 1 (pos 8) 1 (pos 12)

abbrev bounded_below : ℕ → ℤ → Calendar
bounded_below below c = calendar_with (pos 0) (pos 6) below c 1 (pos 12)

abbrev bounded_above : ℕ → ℤ → Calendar
bounded_above above d = calendar_with (pos 0) (pos 6) 1 (pos 8) above d

abbrev at_time : ℤ → RunTime
at_time t = record { 0 = t }

abbrev ran : ℤ → ℤ → Ran
ran s f = record { start = s; finish = f }

abbrev not_run : Ran
not_run = ran (pos 0) (pos 0)

-- a run of a plan with so many jobs: its phase, what is before it, and the first job of the previous and of the present window
abbrev run_with : ℕ → Phase → Before → Ran → Ran → Run
run_with jobs phase before q r =
    let own = q.start ∷ q.finish ∷ replicate (2 * jobs - 2) (pos 0) in
    let now = r.start ∷ r.finish ∷ replicate (most_events - (2 * jobs + 2)) (pos 0) in
    record { phase = phase; before = before; seen = own ++ now }

-- one of P in its first window, and one whose previous window had this job
abbrev in_first_window : Phase → Run
in_first_window phase = run_with 1 phase Nothing not_run not_run

abbrev in_later_window : Phase → Ran → Run
in_later_window phase q = run_with 1 phase Window q not_run

-- the job of the previous window started at 100,000, and window 1,000 begins at 9,990, so that the offer is empty
abbrev shut : Phase → Run
shut phase = in_later_window phase (ran (pos 100000) (pos 100002))

abbrev offered : ℤ → ℤ → Answer
offered from to = Offered (record { from = at_time from; to = at_time to })

abbrev outside : Answer
outside = Refused (refusal.Range 0)

-- ---- the cases: an answer, and the run after it

pub record StepCase : Type 0 where
  pub plan : Plan
  pub calendar : Calendar
  pub run : Run
  pub step : Step
  pub answered : Answered

-- the step leaves the run as it was
abbrev stays : Plan → Calendar → Run → Step → Answer → StepCase
stays p c r st a = record { plan = p; calendar = c; run = r; step = st; answered = record { answer = a; run = r } }

-- the step moves the run
abbrev moves : Plan → Calendar → Run → Step → Answer → Run → StepCase
moves p c r st a next = record { plan = p; calendar = c; run = r; step = st; answered = record { answer = a; run = next } }

-- the order of the refusals
abbrev pub order_cases : List StepCase
order_cases =
    -- 'an empty offer'
    stays plan_p calendar_p (shut (Waiting 1000 1)) Ask (Refused refusal.EmptyOffer)
    -- 10 comes before 11
    ∷ stays plan_p calendar_p (shut (Waiting 1001 1)) Ask (Refused refusal.Over)
    -- while the job runs there is no offer to be empty
    ∷ stays plan_p calendar_p (shut (Running 1000 1 (at_time (pos 7)))) Ask (Refused refusal.Running)
    -- the plan's own refusal comes before the limits of run and calendar
    ∷ stays (plan_with (pos 0) 1) (bounded_below 5 (pos 8)) (shut (Waiting 1001 2)) Ask (Refused (refusal.Range 1))
    -- a time out of its limits comes before 9, 7 and 8
    ∷ stays plan_p calendar_p (in_first_window (Running 1 1 (at_time (pos 3)))) (Finish (at_time (pos 100000000000000001))) outside
    ∷ stays plan_p calendar_p new_run (Finish (at_time (negsuc 0))) outside
    ∷ stays plan_p calendar_p new_run (Start (At (at_time (negsuc 0)))) outside
    -- an auto start at -5 is refused by 2,0 and not by 8: no plan has this calendar, and an ask is answered by its offer
    ∷ stays plan_p (between (negsuc 4) (pos 6)) new_run Ask (offered (negsuc 4) (pos 6))
    ∷ stays plan_p (between (negsuc 4) (pos 6)) new_run (Start Auto) outside
    ∷ moves plan_p (between (negsuc 4) (pos 6)) new_run (Start (At (at_time (pos 0)))) (Started 1 1 (at_time (pos 0)))
    (in_first_window (Running 1 1 (at_time (pos 0))))
    ∷ []

-- 'a run's window 1..`last`, or `last` + 1 waiting for job 1 (the run is over), its job 1..`jobs`'; times
abbrev pub run_cases : List StepCase
run_cases =
    -- windows 0 and 1,002; window 1,001 with a job that runs, and with another than job 1
    stays plan_p calendar_p (in_first_window (Waiting 0 1)) Ask outside
    ∷ stays plan_p calendar_p (shut (Waiting 1002 1)) Ask outside
    ∷ stays plan_p calendar_p (shut (Running 1001 1 (at_time (pos 7)))) Ask outside
    ∷ stays plan_p calendar_p (shut (Waiting 1001 2)) Ask outside
    -- jobs 0 and 2 of one
    ∷ stays plan_p calendar_p (in_first_window (Waiting 1 0)) Ask outside
    ∷ stays plan_p calendar_p (in_first_window (Waiting 1 2)) Ask outside
    -- the start of the job that runs
    ∷ stays plan_p calendar_p (in_first_window (Running 1 1 (at_time (negsuc 0)))) (Finish (at_time (pos 2))) outside
    -- the times of the previous window: the last time is inside, the next one is not
    ∷ stays plan_p calendar_p (in_later_window (Waiting 2 1) (ran (pos 3) (pos 100000000000000000))) Ask (offered (pos 11) (pos 15))
    ∷ stays plan_p calendar_p (in_later_window (Waiting 2 1) (ran (pos 3) (pos 100000000000000001))) Ask outside
    ∷ stays plan_p calendar_p (in_later_window (Waiting 2 1) (ran (negsuc 0) (pos 7))) Ask outside
    -- without a previous window, its times are no part of the run
    ∷ stays plan_p calendar_p (run_with 1 (Waiting 1 1) Nothing (ran (negsuc 0) (negsuc 0)) not_run) Ask (offered (pos 0) (pos 6))
    -- the times of the present window, which are a part of it once job 1 has finished
    ∷ stays (plan_with (pos 10) 2) calendar_p (run_with 2 (Waiting 1 1) Nothing not_run (ran (negsuc 0) (pos 2))) Ask (offered (pos 0) (pos 6))
    ∷ stays (plan_with (pos 10) 2) calendar_p (run_with 2 (Waiting 1 2) Nothing not_run (ran (negsuc 0) (pos 2))) Ask outside
    ∷ []

-- 'a calendar's low, high and c lie in the range of a bound's c, its bits name events of the previous window or of earlier jobs only'
abbrev pub calendar_cases : List StepCase
calendar_cases =
    -- low, at its least and below, and high
    stays plan_p (between (negsuc 999999999) (pos 6)) new_run Ask (offered (negsuc 999999999) (pos 6))
    ∷ stays plan_p (between (negsuc 1000000000) (pos 6)) new_run Ask outside
    ∷ stays plan_p (between (pos 0) (pos 1000000001)) new_run Ask outside
    -- bit 2 is the start of the job itself, on both sides
    ∷ stays plan_p (bounded_below 5 (pos 8)) new_run Ask outside
    ∷ stays plan_p (bounded_above 5 (pos 12)) new_run Ask outside
    -- a c that a bit names, on both sides
    ∷ stays plan_p (bounded_below 1 (negsuc 1000000000)) new_run Ask outside
    ∷ stays plan_p (bounded_above 1 (pos 1000000001)) new_run Ask outside
    -- one that no bit names is no part of the calendar
    ∷ stays plan_p (bounded_below 0 (negsuc 1000000000)) new_run Ask (offered (pos 0) (pos 6))
    ∷ []

-- what becomes of the run
abbrev pub move_cases : List StepCase
move_cases =
    -- an ask and a refusal leave it, whatever the phase
    stays plan_p calendar_p new_run Ask (offered (pos 0) (pos 6))
    ∷ stays plan_p calendar_p new_run (Start (At (at_time (pos 7)))) (Refused refusal.OutsideOffer)
    ∷ stays plan_p calendar_p new_run (Finish (at_time (pos 3))) (Refused refusal.Idle)
    ∷ stays plan_p calendar_p (in_first_window (Running 1 1 (at_time (pos 3)))) (Start Auto) (Refused refusal.Running)
    ∷ stays plan_p calendar_p (in_first_window (Running 1 1 (at_time (pos 3)))) (Finish (at_time (pos 8))) (Refused refusal.OutsideTimes)
    -- a start at a time, and at the lower end of the offer
    ∷ moves plan_p calendar_p new_run (Start (At (at_time (pos 3)))) (Started 1 1 (at_time (pos 3))) (in_first_window (Running 1 1 (at_time (pos 3))))
    ∷ moves plan_p calendar_p (in_later_window (Waiting 2 1) (ran (pos 3) (pos 7))) (Start Auto) (Started 2 1 (at_time (pos 11)))
    (in_later_window (Running 2 1 (at_time (pos 11))) (ran (pos 3) (pos 7)))
    -- the window's last finish: what was the present window is the previous one
    ∷ moves plan_p calendar_p (in_first_window (Running 1 1 (at_time (pos 3)))) (Finish (at_time (pos 7))) (Final 1 1 (at_time (pos 7)))
    (run_with 1 (Waiting 2 1) Window (ran (pos 3) (pos 7)) (ran (pos 3) (pos 7)))
    -- a finish before the window's last: the window goes on
    ∷ moves (plan_with (pos 10) 2) calendar_p (run_with 2 (Running 1 1 (at_time (pos 3))) Nothing not_run not_run) (Finish (at_time (pos 7)))
    (Final 1 1 (at_time (pos 7))) (run_with 2 (Waiting 1 2) Nothing not_run (ran (pos 3) (pos 7)))
    ∷ []

-- each step is answered so, and leaves this run
abbrev pub StepsRight : List StepCase → Type 0
StepsRight cases = map (λ (x : StepCase). step x.plan x.calendar x.run x.step) cases ≡ map (λ (x : StepCase). x.answered) cases

-- naming this on an `unfolding` line opens what a step on values adds to a session's definitions
unfoldable pub stepping : Type 0
unfolding jobs_text bounds_text plan_text refusal_of are_times is_phase is_run is_side are_terms_of is_calendar values_refused unless_refused values_answer
stepping = Unit {0}

pub order-right : StepsRight order_cases
unfolding computing stepping
order-right = refl

pub runs-right : StepsRight run_cases
unfolding computing stepping
runs-right = refl

pub calendars-right : StepsRight calendar_cases
unfolding computing stepping
calendars-right = refl

pub moves-right : StepsRight move_cases
unfolding computing stepping
moves-right = refl

-- ---- the run that a session of P leaves

pub record LeftCase : Type 0 where
  pub steps : String
  pub left : Run

abbrev pub left_cases : List LeftCase
left_cases =
    -- no step
    record { steps = ""; left = new_run }
    -- the last step is refused by 9
    ∷ record { steps = "start=3\nfinish=8\n"; left = in_first_window (Running 1 1 (at_time (pos 3))) }
    -- a line that is no step ends the session, and not the run
    ∷ record { steps = "start=3\nfinish\nfinish=7\n"; left = in_first_window (Running 1 1 (at_time (pos 3))) }
    -- into window 2
    ∷ record { steps = "start=3\nfinish=7\nstart=auto\n"; left = run_with 1 (Running 2 1 (at_time (pos 11))) Window (ran (pos 3) (pos 7)) (ran (pos 3) (pos 7)) }
    ∷ []

pub left-right : map (λ (x : LeftCase). (dispatched plan_p calendar_p new_run (bytes x.steps) 1).run) left_cases ≡ map (λ (x : LeftCase). x.left) left_cases
unfolding computing
left-right = refl
