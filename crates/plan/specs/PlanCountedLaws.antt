-- Each line of a plan takes a byte at least, so the number of the line after it is at most the count of its bytes (`plan_head-line`).
use Rattle.std.specs.Prelude.{ℕ, zero, suc, ◌+◌, ◌≤◌, ◌≡◌, Bool, true, false, cond, List, [], ◌∷◌, ◌++◌, leb, length}
use Rattle.whole.specs.Clash.{clash}
use Rattle.lines.specs.Refusals.{too_long}
use Rattle.lines.specs.Reading.{longest_text, read, refused}
use Rattle.lines.specs.CountedLaws.{Counted, then-counted, answer-counted, line-counted, count-counted}
use Rattle.plan.specs.declared.Job.{Job}
use Rattle.plan.specs.declared.Bound.{Bound}
use Rattle.plan.specs.declared.Plan.{Plan}
use Rattle.plan.specs.PlanLines.{job_lines, jobs_after, bounds_after, plan_lines, plan_head}

job-counted : Counted job_lines
unfolding job_lines
job-counted =
    then-counted _ _ (line-counted _)
    (λ min. then-counted _ _ (line-counted _)
    (λ max. then-counted _ _ (line-counted _)
    (λ release. then-counted _ _ (line-counted _) (λ deadline. answer-counted _))))

jobs-counted : (done : List Job) (left : ℕ) → Counted (jobs_after done left)
unfolding jobs_after
jobs-counted done zero = answer-counted done
jobs-counted done (suc left) = then-counted _ _ job-counted (λ job. jobs-counted (done ++ (job ∷ [])) left)

bounds-counted : (jobs : ℕ) (given : List Bound) (left : ℕ) → Counted (bounds_after jobs given left)
unfolding bounds_after
bounds-counted jobs given zero = answer-counted given
bounds-counted jobs given (suc left) = then-counted _ _ (line-counted _) (λ b. bounds-counted jobs (given ++ (b ∷ [])) left)

plan-counted : Counted plan_lines
unfolding plan_lines
plan-counted =
    then-counted _ _ (line-counted _)
    (λ window. then-counted _ _ (count-counted _ _ _)
    (λ rounds. then-counted _ _ (count-counted _ _ _)
    (λ last. then-counted _ _ (count-counted _ _ _)
    (λ jobs. then-counted _ _ (jobs-counted _ jobs)
    (λ job. then-counted _ _ (count-counted _ _ _)
    (λ bounds. then-counted _ _ (bounds-counted jobs _ bounds) (λ bound. answer-counted _)))))))

pub plan_head-line : (s : List ℕ) {p : Plan} {t : List ℕ} {k : ℕ} → plan_head s ≡ read p t k → k + length t ≤ 1 + length s
unfolding plan_head
plan_head-line s {p} {t} {k} e = by_length (leb (length s) longest_text) e
  where
    by_length : (b : Bool) → cond b (plan_lines s 1) (refused too_long []) ≡ read p t k → k + length t ≤ 1 + length s
    by_length true d = plan-counted.counts s 1 p t k d
    by_length false d = clash (cc)
