-- `decide_value`: a plan that is judged good is decided (`value-decision`), and one that is refused has its refusal (`refused-decision`).
use Rattle.std.proofs.Common.{◌∙◌}
use Rattle.plan.specs.ReadAtLaws.{passed_on}
use Rattle.values.specs.ValueLaws.{value-decision, refused-decision}
use Rattle.values.proofs.value.decide_value.Goals as goal

pub returns-in_err-judge_plan : goal.returns-in_err-judge_plan
returns-in_err-judge_plan c = passed_on c.from_residual.ensures.1 ∙ refused-decision c.args.p c.in_err-judge_plan.ensures.value

pub returns : goal.returns
returns c = c.decide.ensures ∙ value-decision c.args.p c.in_ok-judge_plan.ensures.value
