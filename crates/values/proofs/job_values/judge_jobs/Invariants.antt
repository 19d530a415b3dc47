-- `judge_jobs`: the jobs that are left are judged as all of them.
use Prim.Native.Nat.{◌+◌, ◌*◌}
use mathlib.Core.Path.{◌≡◌}
use lib.ListN.{drop}
use Rattle.values.specs.PlanJudged.{jobs_judged}
use Rattle.values.proofs.job_values.judge_jobs.Given as goal

abbrev pub invariant-loop-i : goal.invariant-loop-i
invariant-loop-i l = jobs_judged 5 l.jobs ≡ jobs_judged (5 + 4 * l.i) (drop l.i l.jobs)
