-- Laws of reached runs that hold with any plan and calendar: whose turn it is (`turn-job`), what a step does to run and history (`step-effect`), and that the
-- run after any steps is reached (`steps-reached`).
use Rattle.std.specs.Prelude.{ℕ, ◌-◌, ◌<◌, ◌≡◌, refl, length, get_or}
use Rattle.std.proofs.Common.{sym, ap, ◌∙◌, mod-eq_of_lt, arith}
use Rattle.std.proofs.Math.Path.{subst}
use mathlib.Core.List.{List, [], ◌∷◌}
use Rattle.plan.specs.declared.Plan.{Plan}
use Rattle.plan.specs.PlanLines.{no_job}
use Rattle.calendars.specs.declared.Calendar.{Calendar}
use Rattle.runs.specs.declared.Run.{Run}
use Rattle.runs.specs.declared.Step.{Step}
use Rattle.runs.specs.declared.Answer.{Answer}
use Rattle.runs.specs.declared.Answer.TheVariants.{Offered, Started, Final, Refused}
use Rattle.runs.specs.Steps.{new_run, closed, moved, answer_of, stepped, after_steps}
use Rattle.runs.specs.StepEffectLaws.{started-on-offer, final-in-times}
use Rattle.strategy.specs.Histories.{History, turn}
use Rattle.strategy.specs.Reaching.{
  AtTurn,
  with_finish,
  history_after,
  Reached,
  begun,
  more,
  ReachedWith,
  StepEffect,
  nothing,
  start-on-offer,
  finish-inside-times,
}
use Rattle.strategy.proofs.SeenLaws.{turn-seen}

-- ---- whose turn it is

pub turn-job : (p : Plan) (h : History) (j i : ℕ) → AtTurn p h j i → turn p (length h) ≡ get_or p.job (i - 1) no_job
turn-job p h j i a =
    let low : i - 1 < p.jobs = omega (arith, a.job-least, a.job-most) in
    ap (turn p) a.finished ∙ turn-seen p (j - 1) (i - 1) ∙ ap (λ k. get_or p.job k no_job) (mod-eq_of_lt low)

-- ---- what a step does to a run and its history

module _ (p : Plan) (c : Calendar) (r : Run) (h : History) where
  answer-effect : (st : Step) (a : Answer) → answer_of p c r st ≡ a → StepEffect p c r h (moved p.jobs r a) (history_after r a h)
  unfolding moved history_after closed with_finish
  answer-effect st (Offered o) e = nothing
  answer-effect st (Started j i t) e = let k = started-on-offer p c r st j i t e in start-on-offer j i t k.waits k.lasts k.on
  answer-effect st (Final j i t) e =
      let k = final-in-times p c r st j i t e in
      subst (λ f. StepEffect p c r h (closed p.jobs r t f) (with_finish f t h)) (sym k.runs) (finish-inside-times j i k.since t k.runs k.inside)
  answer-effect st (Refused x) e = nothing

  pub step-effect : (st : Step) → StepEffect p c r h (stepped p c r st).run (history_after r (stepped p c r st).answer h)
  step-effect st = answer-effect st (answer_of p c r st) refl

-- ---- the run after any steps

module _ (p : Plan) (c : Calendar) where
  pub step-reached : {r : Run} {h : History} → Reached p c r h → (st : Step) → ReachedWith p c (stepped p c r st).run
  step-reached k st = record { history = _; reached = more k st }

  all-reached : (sts : List Step) {r : Run} → ReachedWith p c r → ReachedWith p c (after_steps p c r sts)
  unfolding after_steps
  all-reached [] k = k
  all-reached (st ∷ sts) k = all-reached sts (step-reached k.reached st)

  pub steps-reached : (sts : List Step) → ReachedWith p c (after_steps p c new_run sts)
  steps-reached sts = all-reached sts (record { history = []; reached = begun })
