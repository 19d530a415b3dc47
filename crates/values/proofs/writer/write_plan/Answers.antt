-- `write_plan`: a plan that is judged good is written as its text is (`written_plan-accepted`), and one that is judged bad is refused by its own refusal
-- (`written_plan-refused`).
use Rattle.std.proofs.Common.{◌∙◌}
use Rattle.plan.specs.ReadAtLaws.{passed_on}
use Rattle.values.specs.WritingLaws.{written_plan-refused, written_plan-accepted}
use Rattle.values.proofs.writer.write_plan.Goals as goal

pub returns-in_err-judge_plan : goal.returns-in_err-judge_plan
returns-in_err-judge_plan c =
    let told = written_plan-refused c.args.p c.args.out.now c.in_err-judge_plan.ensures.value in
    record { value = passed_on c.from_residual.ensures.1 ∙ told.0; out_after = told.1 }

pub returns : goal.returns
returns c =
    let w = c.write.ensures in
    let told = written_plan-accepted c.args.p c.args.out.now c.in_ok-judge_plan.ensures.value (w.value, w.out_after) in
    record { value = told.0; out_after = told.1 }
