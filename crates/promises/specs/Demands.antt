-- What is promised, in the words of the definitions: that a refusal moves no run, the round trips, the verdict, the offers, and which steps are taken. Each
-- proof cites where the work was done, above all `plan`, PlanLaws, and `strategy`, Theorems. That these are the answers which the programs print stands in
-- `Printed`; what is promised of bytes, in the contracts of the code (docs/PROMISES.md).
use Rattle.std.specs.Prelude.{ℕ, ◌+◌, ◌*◌, ◌-◌, ◌≤◌, ◌<◌, ◌≡◌, true, ◌↔◌, List, [], ℤ, ◌≤ℤ◌, length}
use Rattle.std.proofs.Math.Option.{none}
use Rattle.clock.specs.declared.RunTime.{RunTime}
use Rattle.plan.specs.declared.Plan.{Plan}
use Rattle.lines.specs.declared.Refusal.{Refusal}
use Rattle.lines.specs.declared.Refusal.TheVariants as refusal
use Rattle.lines.specs.Reading.{longest_text, read}
use Rattle.plan.specs.PlanLines.{plan_alone, plan_head}
use Rattle.plan.specs.PlanWritten.{plan_text, trimmed, judged_plan}
use Rattle.plan.specs.PlanLaws.{plan_alone-written, plan_alone-again, plan_alone-fits, plan_alone-unique, plan_head-accepted}
use Rattle.plan.specs.Accepted.{Accepted}
use Rattle.values.specs.AgainLaws.{accepted-again}
use Rattle.values.specs.JudgedLines.{HasPlaces}
use Rattle.values.specs.JudgedLaws.{judged_plan-accepted}
use Rattle.bounds.specs.Tables.{Rows}
use Rattle.rounds.specs.declared.Verdict.TheVariants.{Settled, NoStrategy}
use Rattle.rounds.specs.Rounds.{settled, outcome, verdict}
use Rattle.calendars.specs.declared.Calendar.{Calendar}
use Rattle.calendars.specs.Calendars.{calendar}
use Rattle.runs.specs.declared.Phase.TheVariants.{Waiting, Running}
use Rattle.runs.specs.declared.Run.{Run}
use Rattle.runs.specs.declared.Step.{Step}
use Rattle.runs.specs.declared.Choice.{Choice}
use Rattle.runs.specs.declared.Choice.TheVariants.{At, Auto}
use Rattle.runs.specs.declared.Step.TheVariants.{Ask, Start, Finish}
use Rattle.runs.specs.declared.Answer.TheVariants.{Offered, Started, Final, Refused}
use Rattle.runs.specs.ValueLimits.{is_time}
use Rattle.runs.specs.Offers.{offer_of}
use Rattle.runs.specs.Steps.{new_run, is_step, stepped, step, OnOffer, InTimes, after_steps, after_values}
use Rattle.runs.specs.Inside.{Inside}
use Rattle.runs.specs.StepLaws as step-laws
use Rattle.runs.specs.ValueStepLaws as value-laws
use Rattle.strategy.specs.Histories.{History, ran_for, turn}
use Rattle.strategy.specs.Strategies.{Kept, StrategyAfter, StrategyFor, StrategyForAll}
use Rattle.strategy.specs.Reaching.{AtTurn, history_after, Reached, ReachedWith, StepEffect}
use Rattle.strategy.proofs.Theorems as demand-3
use Rattle.promises.specs.ValueRuns.{InsideReached, values-from-new}

-- ---- demand 1: 'A refusal moves neither the run ..'

module _ (p : Plan) (c : Calendar) (r : Run) (st : Step) where
  pub refusal-moves-no-run : (x : Refusal) → (step p c r st).answer ≡ Refused x → (step p c r st).run ≡ r
  refusal-moves-no-run = step-laws.step_stays p c r st

  -- and so for the steps of a session, of which demand 3 speaks; an ask moves no run either
  pub refused-step-moves-no-run : (x : Refusal) → (stepped p c r st).answer ≡ Refused x → (stepped p c r st).run ≡ r
  refused-step-moves-no-run = step-laws.stepped-stays p c r st

  pub ask-moves-no-run : (stepped p c r Ask).run ≡ r
  ask-moves-no-run = step-laws.ask-stays p c r

  -- a step on values inside their limits is the step that demand 3 speaks of
  pub value-step : Inside p c r → is_step st ≡ true → step p c r st ≡ stepped p c r st
  value-step = value-laws.step-inside p c r st

-- ---- demand 2: 'A plan written and read again is the same plan; an accepted text is written back byte for byte'

module _ (s : List ℕ) {p : Plan} {t : List ℕ} {n : ℕ} (accepted : plan_alone s ≡ read p t n) where
  pub written_back : plan_text p ≡ s
  written_back = plan_alone-written s accepted

  pub read_again : plan_alone (plan_text p) ≡ read p [] n
  read_again = plan_alone-again s accepted

  pub not-too-long : length s ≤ longest_text
  not-too-long = plan_alone-fits s accepted

-- and so for a plan that never was a text: the same plan, with zeros in the places past its jobs and bounds
pub value-read-again : (p : Plan) → Accepted p → plan_alone (plan_text p) ≡ read (trimmed p) [] (6 + 4 * p.jobs + p.bounds)
value-read-again = accepted-again

pub one-text : (s s' : List ℕ) {p : Plan} {t t' : List ℕ} {n n' : ℕ} → plan_alone s ≡ read p t n → plan_alone s' ≡ read p t' n' → s ≡ s'
one-text = plan_alone-unique

-- ---- demand 3

-- 'For an accepted plan': one that was read at the head of a text, or one that was passed in as a value, with a place for each job and bound, and judged good
pub read-accepted : (s : List ℕ) {p : Plan} {t : List ℕ} {n : ℕ} → plan_head s ≡ read p t n → Accepted p
read-accepted s e = plan_head-accepted s e

pub judged-accepted : (p : Plan) → HasPlaces p → judged_plan p ≡ none → Accepted p
judged-accepted = judged_plan-accepted

module _ (p : Plan) (good : Accepted p) where
  -- settled: from the beginning there is a way to choose the starts for every number of windows
  pub settled-means : (m : ℕ) → verdict p ≡ Settled m → StrategyForAll p
  settled-means = demand-3.settled-means p good

  -- ''No strategy, K': no such way from the beginning for K windows, and one for every smaller number'
  pub no-strategy-means : (K : ℕ) → verdict p ≡ NoStrategy K → (StrategyFor p K → ⊥) × ((k : ℕ) → k < K → StrategyFor p k)
  no-strategy-means = demand-3.no-strategy-means p good

  -- 'For an accepted plan whose starts were on offer and running times inside limits': in a reached run (`step-effect` says what its steps were)
  module _ (m : ℕ) (c : Rows) (accepted : outcome p ≡ settled m c) (r : Run) (h : History) (reached : Reached p (calendar p c) r h) where
    -- 'while the run lasts the next offer is not empty'
    pub offer-not-empty : (j i : ℕ) → r.phase ≡ Waiting j i → (offer_of p (calendar p c) r j i).from.0 ≤ℤ (offer_of p (calendar p c) r j i).to.0
    offer-not-empty = demand-3.offer-not-empty p good m c accepted r h reached

    -- 'a millisecond is on offer exactly if, after starting there, for this window and each later one there is a way to choose the starts, each
    -- from what was seen before it, so that all bounds hold for all running times'
    pub offer-exact : (j i : ℕ) → r.phase ≡ Waiting j i → (x : ℤ)
        → OnOffer (offer_of p (calendar p c) r j i) x ↔ ((k : ℕ) → StrategyAfter p h x ((p.jobs - i) + k * p.jobs))
    offer-exact = demand-3.offer-exact p good m c accepted r h reached

    -- and refusal 11 is never given
    pub never-11 : (st : Step) → (stepped p (calendar p c) r st).answer ≡ Refused refusal.EmptyOffer → ⊥
    never-11 = demand-3.never-11 p good m c accepted r h reached

    -- and every bound whose events have been seen is kept
    pub all-kept : Kept p h
    all-kept = demand-3.all-kept p good m c accepted r h reached

    -- Which runs these are is said by the answers to starts and finishes. A run that waits is at the job whose turn it is by its history;
    module _ (j i : ℕ) (waits : r.phase ≡ Waiting j i) where
      pub waits-at-turn : AtTurn p h j i
      waits-at-turn = demand-3.waits-at-turn p good m c accepted r h reached j i waits

      -- while it lasts, an ask is answered by the offer of which the theorems speak,
      module _ (lasts : j ≤ p.last) where
        pub ask-answered : (stepped p (calendar p c) r Ask).answer ≡ Offered (offer_of p (calendar p c) r j i)
        ask-answered = demand-3.ask-answered p good m c accepted r h reached j i waits lasts

        -- a start is taken exactly if it is on offer, and is then in the range of T,
        pub on-offer-taken : (t : RunTime) → OnOffer (offer_of p (calendar p c) r j i) t.0 → (stepped p (calendar p c) r (Start (At t))).answer ≡ Started j i t
        on-offer-taken = demand-3.on-offer-taken p good m c accepted r h reached j i waits lasts

        pub off-offer-refused : (t : RunTime) → (OnOffer (offer_of p (calendar p c) r j i) t.0 → ⊥)
            → (stepped p (calendar p c) r (Start (At t))).answer ≡ Refused refusal.OutsideOffer
        off-offer-refused = demand-3.off-offer-refused p good m c accepted r h reached j i waits lasts

        pub on-offer-in-range : (t : RunTime) → OnOffer (offer_of p (calendar p c) r j i) t.0 → is_time t ≡ true
        on-offer-in-range = demand-3.on-offer-in-range p good m c accepted r h reached j i waits lasts

        -- `start=auto` is taken, at the offer's lower end,
        pub auto-taken : (stepped p (calendar p c) r (Start Auto)).answer ≡ Started j i (offer_of p (calendar p c) r j i).from
        auto-taken = demand-3.auto-taken p good m c accepted r h reached j i waits lasts

        -- and so every start on offer, with every running time between min and max, leads to a run of which the theorems speak
        pub no-run-missing : (t : RunTime) → OnOffer (offer_of p (calendar p c) r j i) t.0
            → (e : ℤ) → (turn p (length h)).min ≤ℤ e → e ≤ℤ (turn p (length h)).max → (r' : Run) × Reached p (calendar p c) r' (ran_for h t.0 e)
        no-run-missing = demand-3.no-run-missing p good m c accepted r h reached j i waits lasts

    -- A run that runs a job since s is at that job's turn; a finish is final exactly if it is between s + min and s + max of the job whose turn it is.
    module _ (j i : ℕ) (s : RunTime) (runs : r.phase ≡ Running j i s) where
      pub runs-at-turn : AtTurn p h j i
      runs-at-turn = demand-3.runs-at-turn p good m c accepted r h reached j i s runs

      pub inside-final : (t : RunTime) → InTimes (turn p (length h)) s.0 t.0 ↔ ((stepped p (calendar p c) r (Finish t)).answer ≡ Final j i t)
      inside-final = demand-3.inside-final p good m c accepted r h reached j i s runs

      pub outside-refused : (t : RunTime) → (InTimes (turn p (length h)) s.0 t.0 → ⊥)
          → (stepped p (calendar p c) r (Finish t)).answer ≡ Refused refusal.OutsideTimes
      outside-refused = demand-3.outside-refused p good m c accepted r h reached j i s runs

  -- and every session's run is such a run, whatever its steps are: those that were refused have left it as it was
  module _ (m : ℕ) (c : Rows) (accepted : outcome p ≡ settled m c) (sts : List Step) where
    pub session-kept : ReachedWith p (calendar p c) (after_steps p (calendar p c) new_run sts)
    session-kept = demand-3.session-reached p (calendar p c) sts

    -- so no session is answered by refusal 11
    pub session-never-11 : (st : Step) → (stepped p (calendar p c) (after_steps p (calendar p c) new_run sts) st).answer ≡ Refused refusal.EmptyOffer → ⊥
    session-never-11 = never-11 m c accepted _ session-kept.history session-kept.reached

    -- and any that is made on values, from `new_run` by `ask`, `start_at`, `start_auto` and `finish_at`: it is inside its limits too, so that `value-step`
    -- speaks of it
    pub values-kept : InsideReached p (calendar p c) (after_values p (calendar p c) new_run sts)
    values-kept = values-from-new p good m c accepted sts

-- 'whose starts were on offer and running times inside limits', of any run: a step leaves run and history as they are, or it is a start that was on offer while
-- the run lasts, or a finish of the job that runs, inside its times
pub step-effect : (p : Plan) (c : Calendar) (r : Run) (h : History) (st : Step)
    → StepEffect p c r h (stepped p c r st).run (history_after r (stepped p c r st).answer h)
step-effect = demand-3.step-effect

-- what a start and a finish that were taken make of any run: it runs since the time of the answer; it waits for the window's next job, or for the next
-- window's first
module _ (p : Plan) (c : Calendar) (r : Run) (j i : ℕ) where
  pub started-runs : (choice : Choice) (t : RunTime) → (stepped p c r (Start choice)).answer ≡ Started j i t
      → (stepped p c r (Start choice)).run.phase ≡ Running j i t
  started-runs = demand-3.started-runs p c r j i

  module _ (s t : RunTime) (runs : r.phase ≡ Running j i s) (final : (stepped p c r (Finish t)).answer ≡ Final j i t) where
    pub then-next-job : i < p.jobs → (stepped p c r (Finish t)).run.phase ≡ Waiting j (i + 1)
    then-next-job = demand-3.then-next-job p c r j i s t runs final

    pub then-next-window : i ≡ p.jobs → (stepped p c r (Finish t)).run.phase ≡ Waiting (j + 1) 1
    then-next-window = demand-3.then-next-window p c r j i s t runs final
