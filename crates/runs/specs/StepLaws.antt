-- Steps, one case after the other, as the code takes them: whose turn it is (`turn_of-made`); a run from its parts (`moved_made`); a finish (`finish-fits`, `finished_on`,
-- `finished-off`); an opening by its phase (`opening-over`, `opening-waiting`, `opening-running`); the answer by the kind of step
-- (`answer-ask`, `answer-start`, `answer-idle`, `answer-finish`). A refusal leaves the run as it was (`stepped-stays`, `step_stays`), and so does an
-- ask (`ask-stays`). Steps on values are
-- in `ValueStepLaws`.
use Rattle.std.specs.Prelude.{ℕ, ◌-◌, ◌≤◌, ◌<◌, ◌≡◌, refl, true, false, List, ℤ, ◌+ℤ◌, get_or, Result, Ok, Err}
use Rattle.std.proofs.Common.{sym, ◌∙◌, SFits}
use Rattle.std.specs.Int.{w64}
use borrow.Author.Tests.{lt-ltb, le-ltb}
use Rattle.whole.specs.Rules.{wholes}
use Rattle.clock.specs.declared.RunTime.{RunTime}
use Rattle.clock.specs.Spans.{NearBeginning}
use Rattle.clock.specs.Clock.{is_between, moved_by}
use Rattle.plan.specs.declared.Job.{Job}
use Rattle.plan.specs.declared.Plan.{Plan}
use Rattle.lines.specs.declared.Refusal.{Refusal}
use Rattle.lines.specs.declared.Refusal.TheVariants as refusal
use Rattle.plan.specs.PlanLines.{no_job}
use Rattle.calendars.specs.declared.Calendar.{Calendar}
use Rattle.calendars.specs.Calendars.{no_terms}
use Rattle.runs.specs.declared.Answer.{Answer}
use Rattle.runs.specs.declared.Answer.TheVariants.{Final, Refused}
use Rattle.runs.specs.declared.Before.{Before}
use Rattle.runs.specs.declared.Phase.{Phase}
use Rattle.runs.specs.declared.Phase.TheVariants.{Waiting, Running}
use Rattle.runs.specs.declared.Run.{Run}
use Rattle.runs.specs.declared.Choice.{Choice}
use Rattle.runs.specs.declared.Step.{Step}
use Rattle.runs.specs.declared.Step.TheVariants.{Ask, Start, Finish}
use Rattle.runs.specs.declared.Opening.{Opening}
use Rattle.runs.specs.Offers.{Turn, turn_of, offer_at, opened, opening_at}
use Rattle.runs.specs.Steps.{asked, started, finished_since, finished, answer_at, moved, stepped, step}
use Rattle.runs.specs.Inside.{FinishInside}

-- ---- whose turn it is, read off a plan and a calendar

pub turn_of-made : (p : Plan) (c : Calendar) (i k : ℕ) (window : ℤ) → window ≡ p.window → k ≡ i - 1
    → ◌≡◌ {A = Turn}
    (record { window = window; last = p.last; jobs = p.jobs; job = get_or p.job k no_job; terms = get_or c.terms k no_terms })
    (turn_of p c i)
turn_of-made p c i k window e f = rw (e, f)

-- ---- a run from its parts, after a move

pub moved_made : (f : Phase) (b : Before) (seen : List ℤ) (r : Run) → f ≡ r.phase → b ≡ r.before → seen ≡ r.seen
    → ◌≡◌ {A = Run} (record { phase = f; before = b; seen = seen }) r
moved_made f b seen r p q e = rw (p, q, e)

-- ---- a finish, where from and to are start + min and start + max

pub finish-fits : {job : Job} {s : RunTime} → FinishInside job s → (c : ℤ) → NearBeginning c → SFits w64 (s.0 +ℤ c)
finish-fits h c n = omega wholes

module _ (job : Job) (j i : ℕ) (s t from to : RunTime) (e : from ≡ moved_by s job.min) (f : to ≡ moved_by s job.max) where
  times : is_between from to t ≡ is_between (moved_by s job.min) (moved_by s job.max) t
  times = rw (e, f)

  pub finished_on : is_between from to t ≡ true → Final j i t ≡ finished_since job j i s t
  finished_on b = rw (sym times ∙ b)

  pub finished-off : is_between from to t ≡ false → Refused refusal.OutsideTimes ≡ finished_since job j i s t
  finished-off b = rw (sym times ∙ b)

-- ---- an opening, by its phase

module _ (d : Turn) (cs ds : List ℤ) (r : Run) (f : Phase) (j i : ℕ) where
  pub opening-over : f ≡ Waiting j i → d.last < j → opening_at d cs ds r f ≡ Err refusal.Over
  unfolding opening_at
  opening-over e h = rw (e, lt-ltb d.last j h)

  pub opening-waiting : f ≡ Waiting j i → j ≤ d.last → opening_at d cs ds r f ≡ opened j i (offer_at d cs ds r j i)
  unfolding opening_at
  opening-waiting e h = rw (e, le-ltb d.last j h)

  pub opening-running : (t : RunTime) → f ≡ Running j i t → opening_at d cs ds r f ≡ Err refusal.Running
  unfolding opening_at
  opening-running t e = rw e

-- ---- the answer, by the kind of step

module _ (d : Turn) (cs ds : List ℤ) (r : Run) (st : Step) where
  pub answer-ask : st ≡ Ask → asked (opening_at d cs ds r r.phase) ≡ answer_at d cs ds r st
  unfolding answer_at
  answer-ask e = rw (e)

  pub answer-start : (choice : Choice) → st ≡ Start choice → started choice (opening_at d cs ds r r.phase) ≡ answer_at d cs ds r st
  unfolding answer_at
  answer-start choice e = rw (e)

  module _ (t : RunTime) (e : st ≡ Finish t) (j i : ℕ) where
    pub answer-idle : r.phase ≡ Waiting j i → Refused refusal.Idle ≡ answer_at d cs ds r st
    unfolding answer_at finished
    answer-idle h = rw (e, h)

    pub answer-finish : (s : RunTime) → r.phase ≡ Running j i s → finished_since d.job j i s t ≡ answer_at d cs ds r st
    unfolding answer_at finished
    answer-finish s h = rw (e, h)

-- ---- 'A refusal moves neither the run ..'

refused-stays : (jobs : ℕ) (r : Run) (a : Answer) (x : Refusal) → a ≡ Refused x → moved jobs r a ≡ r
unfolding moved
refused-stays jobs r a x e = rw e

pub stepped-stays : (p : Plan) (c : Calendar) (r : Run) (st : Step) (x : Refusal) → (stepped p c r st).answer ≡ Refused x → (stepped p c r st).run ≡ r
stepped-stays p c r st x e = refused-stays p.jobs r _ x e

pub step_stays : (p : Plan) (c : Calendar) (r : Run) (st : Step) (x : Refusal) → (step p c r st).answer ≡ Refused x → (step p c r st).run ≡ r
step_stays p c r st x e = refused-stays p.jobs r _ x e

asked-stays : (jobs : ℕ) (r : Run) (at : Result Opening Refusal) → moved jobs r (asked at) ≡ r
unfolding moved asked
asked-stays jobs r (Ok at) = refl
asked-stays jobs r (Err x) = refl

pub ask-stays : (p : Plan) (c : Calendar) (r : Run) → (stepped p c r Ask).run ≡ r
unfolding answer_at
ask-stays p c r = asked-stays p.jobs r _
