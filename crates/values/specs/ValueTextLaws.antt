-- 'A plan handed over as a value is judged as its text would be': what is answered to a plan as a value is what the program answers to its text
-- (`value_text-text`), whatever stands in the places beyond its jobs and bounds.
use Rattle.std.specs.Prelude.{◌≡◌, refl}
use Rattle.std.proofs.Common.{sym, ap, ◌∙◌}
use Rattle.std.proofs.Math.Option.{none}
use Rattle.plan.specs.declared.Plan.{Plan}
use Rattle.lines.specs.Reading.{Reading, read, refused}
use Rattle.plan.specs.PlanLines.{plan_alone}
use Rattle.plan.specs.PlanWritten.{trimmed, plan_text, refusal_of, judged_plan}
use Rattle.values.specs.JudgedLines.{HasPlaces}
use Rattle.values.specs.JudgedLaws.{judged_plan-accepted}
use Rattle.values.specs.AgainLaws.{accepted-again}
use Rattle.rounds.specs.Rounds.{outcome}
use Rattle.calendars.specs.CalendarText.{outcome_text, answered, calendar_output}
use Rattle.calendars.specs.TrimmedLaws.{text-trimmed}
use Rattle.values.specs.Decisions.{value_text}

pub value_text-text : (p : Plan) → HasPlaces p → value_text p (judged_plan p) ≡ calendar_output (plan_text p)
unfolding value_text answered refusal_of
value_text-text p placed = of (plan_alone (plan_text p)) refl
  where
    of : (m : Reading Plan) → plan_alone (plan_text p) ≡ m → value_text p (refusal_of m) ≡ answered m
    of (refused x t) e = refl
    of (read q t n) e =
        let good : judged_plan p ≡ none = ap refusal_of e in
        let a = judged_plan-accepted p placed good in
        let again = accepted-again p a in
        let same : trimmed p ≡ q = cc in
        sym (text-trimmed p a) ∙ ap (λ (q : Plan). outcome_text q (outcome q)) same
