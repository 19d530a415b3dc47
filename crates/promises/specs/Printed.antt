-- From the theorems to the bytes that the two programs print. Of a settled plan the dispatch program prints the answers to the steps after it, each in the
-- run after the steps before it, and the run that a session hands back is the run after the steps that it took. `refused=4,K`, from either
-- program, means that there is no way to choose the starts for K windows and one for every smaller number; `settled=`, from the calendar program, that there is
-- one for every number. That the programs write these bytes is in the contracts (docs/PROMISES.md). Each proof cites where the work was done.
use Rattle.std.specs.Prelude.{ℕ, ◌<◌, ◌≡◌, refl, true, false, List, [], ◌∷◌, ◌++◌, length}
use Rattle.std.proofs.Common.{ap, ◌∙◌, arith}
use Rattle.text.specs.Bytes.{bytes}
use Rattle.plan.specs.declared.Plan.{Plan}
use Rattle.lines.specs.declared.Refusal.{Refusal}
use Rattle.lines.specs.declared.Refusal.TheVariants as refusal
use Rattle.lines.specs.Refusals.{refused_line}
use Rattle.lines.specs.Reading.{Reading, read, refused}
use Rattle.lines.specs.Reading as reading
use Rattle.plan.specs.PlanLines.{plan_alone, plan_head}
use Rattle.plan.specs.PlanLaws.{plan_alone-accepted, plan_head-accepted}
use Rattle.plan.specs.Accepted.{Accepted}
use Rattle.bounds.specs.Tables.{Rows}
use Rattle.rounds.specs.Rounds.{Outcome, settled, outcome}
use Rattle.calendars.specs.declared.Calendar.{Calendar}
use Rattle.calendars.specs.Calendars.{calendar}
use Rattle.calendars.specs.CalendarText.{calendar_output}
use Rattle.calendars.specs.ToldLaws.{ToldNone, calendar-told, calendar-settled}
use Rattle.runs.specs.declared.Run.{Run}
use Rattle.runs.specs.declared.Step.{Step}
use Rattle.runs.specs.Steps.{new_run, stepped, after_steps}
use Rattle.runs.specs.StepEffectLaws.{after_steps-more}
use Rattle.strategy.specs.Strategies.{StrategyFor, StrategyForAll}
use Rattle.session.specs.StepRead.{step_line}
use Rattle.session.specs.AnswerText.{answer_line, ends_session}
use Rattle.session.specs.Sessions.{dispatched, answers, judged_session, session_of, dispatch_output}
use Rattle.session.specs.Taken.{Takes}
use Rattle.session.specs.TakenLaws as taken-laws
use Rattle.session.specs.SessionLaws.{answers-end, answers-refused, answers-last, answers-more, answers-only}
use Rattle.session.specs.PrintedLaws.{dispatch-told}
use Rattle.promises.specs.Demands.{settled-means, no-strategy-means}

-- ---- the answers that a session prints

-- of a settled plan, the answers to the steps after it
pub session-printed : (s : List ℕ) {p : Plan} {t : List ℕ} {n : ℕ} → plan_head s ≡ read p t n → (m : ℕ) (c : Rows) → outcome p ≡ settled m c
    → dispatch_output s ≡ answers p (calendar p c) new_run t n
unfolding session_of judged_session
session-printed s {p} {t} {n} e m c accepted = ap session_of e ∙ ap (λ (o : Outcome). judged_session p o t n) accepted

module _ (p : Plan) (c : Calendar) where
  -- for no steps, nothing
  pub nothing-printed : (r : Run) (n : ℕ) → answers p c r [] n ≡ []
  nothing-printed r n = answers-end p c r [] 0 n (omega arith)

  -- the text from a step on, after the steps before it
  module _ (sts : List Step) (s : List ℕ) (n : ℕ) (some : 0 < length s) where
    module _ (st : Step) (rest : List ℕ) (k : ℕ) (is : step_line s n ≡ read st rest k) where
      -- each step's answer in the run after the steps before it, and then the answers to the steps after it
      pub step-printed : let a = (stepped p c (after_steps p c new_run sts) st).answer in
          ends_session a ≡ false → answers p c (after_steps p c new_run sts) s n ≡ answer_line a ++ answers p c (after_steps p c new_run (sts ++ (st ∷ []))) rest k
      step-printed goes =
          rw (after_steps-more p c new_run sts st)
          (answers-more p c (after_steps p c new_run sts) s n some st rest k (stepped p c (after_steps p c new_run sts) st) is refl goes)

      -- nothing after an answer that ends the session
      pub ending-step-printed : let a = (stepped p c (after_steps p c new_run sts) st).answer in
          ends_session a ≡ true → answers p c (after_steps p c new_run sts) s n ≡ answer_line a
      ending-step-printed ends = answers-last p c (after_steps p c new_run sts) s n some st rest k (stepped p c (after_steps p c new_run sts) st) is refl ends

    -- nor after the last step's, whatever it is
    pub last-step-printed : (st : Step) (k : ℕ) → step_line s n ≡ read st [] k
        → answers p c (after_steps p c new_run sts) s n ≡ answer_line (stepped p c (after_steps p c new_run sts) st).answer
    last-step-printed st k is = answers-only p c (after_steps p c new_run sts) s n some st k (stepped p c (after_steps p c new_run sts) st) is refl

    -- for a line that is no step its refusal, and nothing after it
    pub no-step-printed : (x : Refusal) (part : List ℕ) → step_line s n ≡ refused x part → answers p c (after_steps p c new_run sts) s n ≡ refused_line x
    no-step-printed = answers-refused p c (after_steps p c new_run sts) s n some

-- ---- the run that a session hands back

-- from any run: it is the run after the steps that were taken, and of every text some are
module _ (p : Plan) (c : Calendar) where
  pub session-run : {r : Run} {s : List ℕ} {n : ℕ} {sts : List Step} → Takes p c r s n sts → (dispatched p c r s n).run ≡ after_steps p c r sts
  session-run = taken-laws.takes_run p c

  pub session-takes : (r : Run) (s : List ℕ) (n : ℕ) → (sts : List Step) × Takes p c r s n sts
  session-takes = taken-laws.session-takes p c

-- ---- what `refused=4,K` means

-- of a text that was read as an accepted plan
pub record NoWayFor (m : Reading Plan) (K : ℕ) : Type 0 where
  pub plan : Plan
  pub rest : List ℕ
  pub line : ℕ
  pub read : m ≡ reading.read plan rest line
  pub accepted : Accepted plan
  -- ''No strategy, K': no such way from the beginning for K windows, and one for every smaller number'
  pub none : StrategyFor plan K → ⊥
  pub fewer : (k : ℕ) → k < K → StrategyFor plan k

means : (m : Reading Plan) (K : ℕ) (t : ToldNone m K) → Accepted t.plan → NoWayFor m K
means m K t a =
    let w = no-strategy-means t.plan a K t.none in
    record { plan = t.plan; rest = t.rest; line = t.line; read = t.read; accepted = a; none = w.0; fewer = w.1 }

pub calendar-refused-4 : (s : List ℕ) (K : ℕ) → calendar_output s ≡ refused_line (refusal.NoStrategy K) → NoWayFor (plan_alone s) K
calendar-refused-4 s K e = let t = calendar-told s K e in means (plan_alone s) K t (plan_alone-accepted s t.read)

pub dispatch-refused-4 : (s : List ℕ) (K : ℕ) → dispatch_output s ≡ refused_line (refusal.NoStrategy K) → NoWayFor (plan_head s) K
dispatch-refused-4 s K e = let t = dispatch-told s K e in means (plan_head s) K t (plan_head-accepted s t.read)

-- ---- what `settled=` means

-- of a text that was read as an accepted plan: from the beginning there is a way to choose the starts for every number of windows
pub record WayForAll (m : Reading Plan) : Type 0 where
  pub plan : Plan
  pub rest : List ℕ
  pub line : ℕ
  pub read : m ≡ reading.read plan rest line
  pub accepted : Accepted plan
  pub always : StrategyForAll plan

pub calendar-settled-means : (s t : List ℕ) → calendar_output s ≡ bytes "settled=" ++ t → WayForAll (plan_alone s)
calendar-settled-means s t e =
    let r = calendar-settled s t e in
    let a = plan_alone-accepted s r.read in
    record { plan = r.plan; rest = r.rest; line = r.line; read = r.read; accepted = a; always = settled-means r.plan a r.round r.settled }
