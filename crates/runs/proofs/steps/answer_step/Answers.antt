-- `answer_step`: the limits are those of the job that runs.
use Rattle.std.proofs.Common.{◌∙◌, subst, sym, ap}
use Rattle.plan.specs.declared.Job.{Job}
use Rattle.plan.specs.PlanLines.{no_job}
use Rattle.std.specs.Prelude.{get_or}
use Rattle.runs.specs.Inside.{FinishInside}
use Rattle.runs.proofs.steps.answer_step.Goals as goal

pub finished_since-requires : goal.finished_since-requires
finished_since-requires c =
    let limits = c.limits_at-limits.ensures ∙ ap (λ i. get_or c.args.p.now.job i no_job) c.jobs_done.ensures in
    subst (λ (d : Job). FinishInside d c.in-Running.start) (sym limits) (c.requires.running _ _ _ c.in-Running.is)
