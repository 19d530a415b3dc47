-- A step with a plan that is accepted, by what is outside its limits (`accepted_step-..`); and a step on values, whose plan is judged first (`step-refused`,
-- `step-accepted`). A step on values inside their limits is that step of the run (`step-inside`), one whose time is outside is refused (`step-outside`).
use Rattle.std.specs.Prelude.{◌≡◌, refl, Bool, true, false, ◌&&◌, Result, Ok, Err}
use Rattle.std.proofs.Common.{sym, ap, ap₂, ◌∙◌}
use Rattle.plan.specs.declared.Plan.{Plan}
use Rattle.lines.specs.declared.Refusal.{Refusal}
use Rattle.lines.specs.Refusals.{outside_limits}
use Rattle.plan.specs.PlanWritten.{judged_plan}
use Rattle.values.specs.PlanJudged.{judged_answer}
use Rattle.values.specs.JudgedLaws.{judged_answer-none, judged_answer-some, accepted-judged}
use Rattle.calendars.specs.declared.Calendar.{Calendar}
use Rattle.runs.specs.declared.Run.{Run}
use Rattle.runs.specs.declared.Step.{Step}
use Rattle.runs.specs.ValueLimits.{is_run, is_calendar}
use Rattle.runs.specs.Steps.{moved, stepped, is_step, values_refused, unless_refused, values_answer, step}
use Rattle.runs.specs.TestLaws.{and-true}
use Rattle.runs.specs.Inside.{Inside, accepted_step, refused_with}

-- ---- a step with a plan that is accepted

module _ (p : Plan) (c : Calendar) (r : Run) (st : Step) where
  outside : (b : Bool) → (is_run p r && is_calendar p c && is_step st) ≡ b → b ≡ false → refused_with r outside_limits ≡ accepted_step p c r st
  unfolding values_refused unless_refused moved
  outside b e f = rw (e ∙ f)

  pub accepted_step-run : is_run p r ≡ false → refused_with r outside_limits ≡ accepted_step p c r st
  accepted_step-run h = outside _ (ap (λ (x : Bool). x && is_calendar p c && is_step st) h) refl

  pub accepted_step-calendar : is_run p r ≡ true → is_calendar p c ≡ false → refused_with r outside_limits ≡ accepted_step p c r st
  accepted_step-calendar h k = outside _ (ap₂ (λ (x y : Bool). x && y && is_step st) h k) refl

  pub accepted_step-step : is_run p r ≡ true → is_calendar p c ≡ true → is_step st ≡ false → refused_with r outside_limits ≡ accepted_step p c r st
  accepted_step-step h k l = outside _ (ap₂ (λ (x y : Bool). x && y && is_step st) h k ∙ l) refl

  pub accepted_step-inside : is_run p r ≡ true → is_calendar p c ≡ true → is_step st ≡ true → stepped p c r st ≡ accepted_step p c r st
  unfolding values_refused unless_refused
  accepted_step-inside h k l = rw (and-true _ _ (and-true _ _ h k) l)

-- ---- a step on values: the plan is judged first

-- with the answer a to its plan
module _ (p : Plan) (c : Calendar) (r : Run) (st : Step) (a : Result Unit Refusal) (judged : a ≡ judged_answer (judged_plan p)) where
  pub step-refused : (x : Refusal) → a ≡ Err x → refused_with r x ≡ step p c r st
  unfolding values_answer values_refused unless_refused moved
  step-refused x e = rw (judged_answer-some (judged_plan p) x (sym judged ∙ e))

  pub step-accepted : a ≡ Ok tt → accepted_step p c r st ≡ step p c r st
  unfolding values_answer
  step-accepted e = rw (judged_answer-none (judged_plan p) (sym judged ∙ e))

-- ---- a step on values inside their limits is that step of the run; one whose time is outside is refused

pub step-inside : (p : Plan) (c : Calendar) (r : Run) (st : Step) → Inside p c r → is_step st ≡ true → step p c r st ≡ stepped p c r st
unfolding values_answer values_refused unless_refused
step-inside p c r st i e = rw (accepted-judged p i.plan, i.run, i.calendar, e)

pub step-outside : (p : Plan) (c : Calendar) (r : Run) (st : Step) → Inside p c r → is_step st ≡ false → step p c r st ≡ refused_with r outside_limits
unfolding values_answer values_refused unless_refused moved
step-outside p c r st i e = rw (accepted-judged p i.plan, i.run, i.calendar, e)
