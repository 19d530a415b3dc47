-- `read_jobs`: after i jobs stands `JobsPassed`, with one law a way.
use Rattle.plan.specs.JobsLoop.{JobsPassed}
use Rattle.plan.proofs.jobs_lines.read_jobs.Given as goal

abbrev pub invariant-loop-i : goal.invariant-loop-i
invariant-loop-i l = JobsPassed l.s l.from l.jobs l.job l.at l.line l.i
