-- No two answers meet the promise of a public operation: each promise is an equation, and `only` of the crate `text` says the rest.
use Rattle.std.specs.Prelude.{◌≡◌, List, ℕ, ◌-◌, ℤ}
use Rattle.text.specs.Unique.{only}
use Rattle.clock.specs.declared.RunTime.{RunTime}
use Rattle.plan.specs.declared.Plan.{Plan}
use Rattle.calendars.specs.declared.Calendar.{Calendar}
use Rattle.runs.specs.declared.Phase.{Phase}
use Rattle.runs.specs.declared.Run.{Run}
use Rattle.runs.specs.declared.Choice.TheVariants.{At, Auto}
use Rattle.runs.specs.declared.Step.{Step}
use Rattle.runs.specs.declared.Step.TheVariants.{Ask, Start, Finish}
use Rattle.runs.specs.declared.Answer.{Answer}
use Rattle.runs.specs.declared.Answered.{Answered}
use Rattle.runs.specs.ValueLimits.{job_of_phase}
use Rattle.runs.specs.Offers.{Turn}
use Rattle.runs.specs.Steps.{new_run, answer_at, answer_of, moved, step}

pub new-run-unique : {r q : Run} → r ≡ new_run → q ≡ new_run → r ≡ q
new-run-unique = only

-- ---- a step on values

module _ (p : Plan) (c : Calendar) (run : Run) where
  pub take-step-unique : (st : Step) {r q : Answered} → r ≡ step p c run st → q ≡ step p c run st → r ≡ q
  take-step-unique st = only

  pub ask-unique : {r q : Answered} → r ≡ step p c run Ask → q ≡ step p c run Ask → r ≡ q
  ask-unique = only

  pub start-at-unique : (t : RunTime) {r q : Answered} → r ≡ step p c run (Start (At t)) → q ≡ step p c run (Start (At t)) → r ≡ q
  start-at-unique t = only

  pub start-auto-unique : {r q : Answered} → r ≡ step p c run (Start Auto) → q ≡ step p c run (Start Auto) → r ≡ q
  start-auto-unique = only

  pub finish-at-unique : (t : RunTime) {r q : Answered} → r ≡ step p c run (Finish t) → q ≡ step p c run (Finish t) → r ≡ q
  finish-at-unique t = only

-- ---- what a session steps with

pub jobs-done-unique : (f : Phase) {r q : ℕ} → r ≡ job_of_phase f - 1 → q ≡ job_of_phase f - 1 → r ≡ q
jobs-done-unique f = only

pub answer-step-unique : (p : Plan) (c : Calendar) (run : Run) (st : Step) {r q : Answer}
    → r ≡ answer_of p c run st → q ≡ answer_of p c run st → r ≡ q
answer-step-unique p c run st = only

-- whosever turn it is
pub answer-at-unique : (d : Turn) (least most : List ℤ) (run : Run) (st : Step) {r q : Answer}
    → r ≡ answer_at d least most run st → q ≡ answer_at d least most run st → r ≡ q
answer-at-unique d least most run st = only

pub move-run-unique : (jobs : ℕ) (run : Run) (a : Answer) {r q : Run} → r ≡ moved jobs run a → q ≡ moved jobs run a → r ≡ q
move-run-unique jobs run a = only

pub move-run-seen-unique : (jobs : ℕ) (run : Run) (a : Answer) {s t : List ℤ} → s ≡ (moved jobs run a).seen → t ≡ (moved jobs run a).seen → s ≡ t
move-run-seen-unique jobs run a = only
