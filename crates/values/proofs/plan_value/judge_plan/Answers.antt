-- `judge_plan`: by the types the text is not too long (`plan-fits`), so that the lines decide (`judged_plan-is`).
use mathlib.Core.Path.{sym, ◌∙◌}
use Rattle.values.specs.JudgedLines.{judged_plan-is}
use Rattle.values.specs.JudgedLength.{PlanFits, plan_text-short}
use Rattle.values.specs.JudgedLaws.{judged_answer-accepted}
use Rattle.values.proofs.Told.{plan-fits}
use Rattle.values.proofs.plan_value.judge_plan.Goals as goal

pub returns : goal.returns
returns c =
    let p = c.args.p in
    let fits : PlanFits c.args.p = plan-fits p _ c.well_formed.0.1.1 in
    let value = c.judge_lines.ensures ∙ sym (judged_plan-is p fits.placed (plan_text-short p fits)) in
    record { value = value; accepted = judged_answer-accepted p fits.placed _ value }
