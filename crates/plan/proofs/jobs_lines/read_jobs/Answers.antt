use mathlib.Core.Path.{sym, ap, ◌∙◌}
use Rattle.plan.specs.ReadAt.{jobs_told}
use Rattle.plan.specs.ReadAtLaws.{passed_on}
use Rattle.plan.specs.JobsLoop.{JobsPassed-stop, JobsPassed-past, JobsPassed-end}
use Rattle.plan.proofs.jobs_lines.read_jobs.Goals as goal

pub returns-in_err-next_job-clause-s_value : goal.returns-in_err-next_job-clause-s_value
returns-in_err-next_job-clause-s_value c =
    let a = c.args in
    let v = c.loop-i in
    JobsPassed-stop a.s.now a.from a.jobs v.job v.at v.line v.i v.invariant c.loop-i-test.true _ c.in_err-next_job.ensures.line_value
    ∙ ap (jobs_told a.s.now a.jobs) (sym (passed_on c.from_residual.ensures.1))

pub loop-i-preserved : goal.loop-i-preserved
loop-i-preserved c =
    let a = c.args in
    let v = c.loop-i in
    let read = c.in_ok-next_job in
    JobsPassed-past a.s.now a.from a.jobs v.job v.at v.line v.i v.invariant c.loop-i-test.true c.requires.few_jobs read.next_job read.next
    read.ensures.result_in_bounds read.ensures.line_value

pub returns-clause-s_value : goal.returns-clause-s_value
returns-clause-s_value c =
    let a = c.args in
    let v = c.loop-i in
    JobsPassed-end a.s.now a.from a.jobs v.job v.at v.line v.i v.invariant c.loop-i-test.false
