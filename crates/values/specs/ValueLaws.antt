-- The laws of a plan as a value. Of one that is judged good the verdict, the calendar, both in one and the text are the plan's (`value-verdict`,
-- `value-calendar`, `value-decision`, `value-text`); one that is refused has its refusal, no calendar and the refusal's line (`refused-verdict`,
-- `refused-calendar`, `refused-decision`, `refused-text`).

use Rattle.std.specs.Prelude.{◌≡◌, Ok, Err}
use Rattle.std.proofs.Math.Path.{sym, ap}
use Rattle.std.proofs.Common.{◌∙◌}
use Rattle.std.proofs.Math.Option.{none, some}
use Rattle.plan.specs.declared.Plan.{Plan}
use Rattle.lines.specs.declared.Refusal.{Refusal}
use Rattle.lines.specs.Refusals.{refused_line}
use Rattle.plan.specs.PlanWritten.{judged_plan}
use Rattle.values.specs.PlanJudged.{judged_answer}
use Rattle.values.specs.JudgedLaws.{judged_answer-none, judged_answer-some}
use Rattle.rounds.specs.declared.Verdict.{Verdict}
use Rattle.rounds.specs.Rounds.{outcome, verdict, verdict_told}
use Rattle.calendars.specs.declared.Calendar.{Calendar}
use Rattle.calendars.specs.Calendars.{no_calendar, made_calendar, decision}
use Rattle.calendars.specs.CalendarText.{outcome_text}
use Rattle.values.specs.Decisions.{value_verdict, value_calendar, value_decision, value_text}

module _ (p : Plan) where
  judged-good : Ok tt ≡ judged_answer (judged_plan p) → judged_plan p ≡ none
  judged-good e = judged_answer-none (judged_plan p) (sym e)

  judged-bad : {x : Refusal} → Err x ≡ judged_answer (judged_plan p) → judged_plan p ≡ some x
  judged-bad {x} e = judged_answer-some (judged_plan p) x (sym e)

  pub value-verdict : Ok tt ≡ judged_answer (judged_plan p) → (v : Verdict) → v ≡ verdict p → verdict_told v ≡ value_verdict p (judged_plan p)
  unfolding value_verdict
  value-verdict e v f = ap verdict_told f ∙ sym (ap (value_verdict p) (judged-good e))

  pub value-calendar : Ok tt ≡ judged_answer (judged_plan p) → (c : Calendar) → c ≡ made_calendar p (outcome p) → c ≡ value_calendar p (judged_plan p)
  unfolding value_calendar
  value-calendar e c f = f ∙ sym (ap (value_calendar p) (judged-good e))

  pub value-decision : Ok tt ≡ judged_answer (judged_plan p) → decision p (outcome p) ≡ value_decision p (judged_plan p)
  unfolding value_verdict value_calendar
  value-decision e = sym (ap (value_decision p) (judged-good e))

  pub value-text : Ok tt ≡ judged_answer (judged_plan p) → outcome_text p (outcome p) ≡ value_text p (judged_plan p)
  unfolding value_text
  value-text e = sym (ap (value_text p) (judged-good e))

  pub refused-verdict : {x : Refusal} → Err x ≡ judged_answer (judged_plan p) → Err x ≡ value_verdict p (judged_plan p)
  unfolding value_verdict
  refused-verdict e = sym (ap (value_verdict p) (judged-bad e))

  pub refused-calendar : {x : Refusal} → Err x ≡ judged_answer (judged_plan p) → no_calendar p ≡ value_calendar p (judged_plan p)
  unfolding value_calendar
  refused-calendar e = sym (ap (value_calendar p) (judged-bad e))

  pub refused-decision : {x : Refusal} → Err x ≡ judged_answer (judged_plan p) → Err x ≡ value_decision p (judged_plan p)
  unfolding value_verdict value_calendar
  refused-decision e = sym (ap (value_decision p) (judged-bad e))

  pub refused-text : {x : Refusal} → Err x ≡ judged_answer (judged_plan p) → refused_line x ≡ value_text p (judged_plan p)
  unfolding value_text
  refused-text e = sym (ap (value_text p) (judged-bad e))
