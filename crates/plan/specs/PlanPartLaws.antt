-- The faulty line of a plan's text is a part of the text (`plan_head-tail`, `plan_alone-tail`).
use Rattle.std.specs.Prelude.{Bool, true, false, cond, List, [], ◌∷◌, ◌++◌, ℕ, zero, suc, leb, length}
use Rattle.plan.specs.declared.Job.{Job}
use Rattle.plan.specs.declared.Bound.{Bound}
use Rattle.plan.specs.declared.Plan.{Plan}
use Rattle.lines.specs.Reading.{longest_text, Reading, read, refused}
use Rattle.lines.specs.Refusals.{too_long}
use Rattle.lines.specs.PartLaws.{Tail, tail-self, tail_none, leaves, line-tail, next-tail}
use Rattle.plan.specs.PlanLines.{job_lines, jobs_after, bounds_after, plan_lines, plan_head, nothing_after, plan_alone}

-- ---- a plan

job_lines-tail : (s : List ℕ) (n : ℕ) → Tail s (leaves (job_lines s n))
unfolding job_lines
job_lines-tail s n =
    next-tail _ _ s (line-tail _ s n)
    (λ min s₂ n₂. next-tail _ _ s₂ (line-tail _ s₂ n₂)
    (λ max s₃ n₃. next-tail _ _ s₃ (line-tail _ s₃ n₃)
    (λ release s₄ n₄. next-tail _ _ s₄ (line-tail _ s₄ n₄)
    (λ deadline t k. tail-self t))))

jobs_after-tail : (done : List Job) (left : ℕ) (s : List ℕ) (n : ℕ) → Tail s (leaves (jobs_after done left s n))
unfolding jobs_after
jobs_after-tail done zero s n = tail-self s
jobs_after-tail done (suc left) s n = next-tail _ _ s (job_lines-tail s n) (λ job t k. jobs_after-tail (done ++ (job ∷ [])) left t k)

bounds_after-tail : (jobs : ℕ) (given : List Bound) (left : ℕ) (s : List ℕ) (n : ℕ) → Tail s (leaves (bounds_after jobs given left s n))
unfolding bounds_after
bounds_after-tail jobs given zero s n = tail-self s
bounds_after-tail jobs given (suc left) s n = next-tail _ _ s (line-tail _ s n) (λ d t k. bounds_after-tail jobs (given ++ (d ∷ [])) left t k)

plan_lines-tail : (s : List ℕ) (n : ℕ) → Tail s (leaves (plan_lines s n))
unfolding plan_lines
plan_lines-tail s n =
    next-tail _ _ s (line-tail _ s n)
    (λ window s₂ n₂. next-tail _ _ s₂ (next-tail _ _ s₂ (line-tail _ s₂ n₂) (λ z t k. tail-self t))
    (λ rounds s₃ n₃. next-tail _ _ s₃ (next-tail _ _ s₃ (line-tail _ s₃ n₃) (λ z t k. tail-self t))
    (λ last s₄ n₄. next-tail _ _ s₄ (next-tail _ _ s₄ (line-tail _ s₄ n₄) (λ z t k. tail-self t))
    (λ jobs s₅ n₅. next-tail _ _ s₅ (jobs_after-tail [] jobs s₅ n₅)
    (λ job s₆ n₆. next-tail _ _ s₆ (next-tail _ _ s₆ (line-tail _ s₆ n₆) (λ z t k. tail-self t))
    (λ bounds s₇ n₇. next-tail _ _ s₇ (bounds_after-tail jobs [] bounds s₇ n₇)
    (λ bound t k. tail-self t)))))))

pub plan_head-tail : (s : List ℕ) → Tail s (leaves (plan_head s))
unfolding plan_head
plan_head-tail s = of (leb (length s) longest_text)
  where
    of : (b : Bool) → Tail s (leaves (cond b (plan_lines s 1) (refused too_long [])))
    of true = plan_lines-tail s 1
    of false = tail_none s

nothing_after-tail : (s : List ℕ) (m : Reading Plan) → Tail s (leaves m) → Tail s (leaves (nothing_after m))
unfolding nothing_after
nothing_after-tail s (read p [] n) h = h
nothing_after-tail s (read p (a ∷ t) n) h = h
nothing_after-tail s (refused x t) h = h

pub plan_alone-tail : (s : List ℕ) → Tail s (leaves (plan_alone s))
plan_alone-tail s = nothing_after-tail s (plan_head s) (plan_head-tail s)
