-- `read_steps`: one law a way, `lines_so_far-..`.
use Rattle.session.specs.SessionReadLaws.{lines_so_far-end, lines_so_far-refused, lines_so_far-more}
use Rattle.plan.specs.ReadAtLaws.{passed_on}
use Rattle.session.proofs.refused.read_steps.Goals as goal

pub loop-step-preserved : goal.loop-step-preserved
loop-step-preserved c = lines_so_far-more _ _ c.loop-step.invariant _ _ (rw c.in_ok-step.was at c.in-Some.ensures.steps)

pub returns-in_err-step : goal.returns-in_err-step
returns-in_err-step c =
    rw (passed_on c.from_residual.ensures.1) (lines_so_far-refused _ _ c.loop-step.invariant _ (rw c.in_err-step.was at c.in-Some.ensures.steps))

pub returns : goal.returns
returns c = lines_so_far-end _ _ c.loop-step.invariant c.in-None.ensures.steps
