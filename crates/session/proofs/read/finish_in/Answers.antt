-- `finish_in`: by `time_step-value` and `time_step-bad`.
use mathlib.Core.Path.{sym, ◌∙◌}
use Rattle.plan.specs.ReadAtLaws.{passed_on}
use Rattle.runs.specs.declared.Step.TheVariants.{Finish}
use Rattle.session.specs.StepRead.{finish_in}
use Rattle.session.specs.StepReadLaws.{time_step-value, time_step-bad}
use Rattle.session.proofs.read.finish_in.Goals as goal

pub returns-in_err-t : goal.returns-in_err-t
unfolding finish_in
returns-in_err-t c =
    rw (passed_on c.from_residual.ensures.1) (sym (time_step-bad Finish c.args.s.now _ (sym c.read_number.ensures ∙ c.in_err-t.was)))

pub returns : goal.returns
unfolding finish_in
returns c = sym (time_step-value Finish c.args.s.now _ (sym c.read_number.ensures ∙ c.in_ok-t.was))
