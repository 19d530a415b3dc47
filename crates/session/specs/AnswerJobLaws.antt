-- The job that a step's answer names is the one whose turn it is (`answer-job`): an offer is for the job that the run waits for, and a finish for the one
-- that runs. So it has one digit (`answer-job-few`).
use Rattle.std.specs.Prelude.{◌≤◌, ◌≡◌, refl}
use Rattle.std.proofs.Common.{ap, arith}
use Rattle.plan.specs.declared.Plan.{Plan}
use Rattle.plan.specs.Limits.{most_jobs}
use Rattle.calendars.specs.declared.Calendar.{Calendar}
use Rattle.runs.specs.declared.Answer.{Answer}
use Rattle.runs.specs.declared.Answer.TheVariants.{Offered, Started, Final, Refused}
use Rattle.runs.specs.declared.Run.{Run}
use Rattle.runs.specs.declared.Step.{Step}
use Rattle.runs.specs.ValueLimits.{job_of_phase}
use Rattle.runs.specs.Steps.{answer_of}
use Rattle.runs.specs.Inside.{Inside}
use Rattle.runs.specs.InsideLaws.{inside-job}
use Rattle.runs.specs.AnswerLaws.{answer-started, answer-final}
use Rattle.session.specs.AnswerText.{answer_job}

module _ (p : Plan) (c : Calendar) (r : Run) (st : Step) where
  job-by : (a : Answer) → answer_of p c r st ≡ a → answer_job a ≤ job_of_phase r.phase
  job-by (Offered o) e = omega arith
  job-by (Started j i t) e = let w = ap job_of_phase (answer-started _ _ _ r st j i t e).opens.waits in omega arith
  job-by (Final j i t) e = let w = ap job_of_phase (answer-final _ _ _ r st j i t e).runs in omega arith
  job-by (Refused x) e = omega arith

  pub answer-job : answer_job (answer_of p c r st) ≤ job_of_phase r.phase
  answer-job = job-by (answer_of p c r st) refl

  pub answer-job-few : Inside p c r → answer_job (answer_of p c r st) ≤ most_jobs
  answer-job-few i = omega (arith, answer-job, inside-job p c r i)
