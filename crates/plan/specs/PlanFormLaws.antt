-- A plan's text that is refused as it is read is refused by 1, 2 or 3 (`plan_head-form`, `plan_alone-form`).
use Rattle.std.specs.Prelude.{ℕ, zero, suc, Bool, true, false, cond, List, [], ◌∷◌, ◌++◌, leb, length}
use Rattle.std.proofs.Common.{arith}
use Rattle.text.specs.Bytes.{bytes}
use Rattle.text.specs.Numbers.{is_empty}
use Rattle.lines.specs.declared.Refusal.TheVariants as refusal
use Rattle.lines.specs.Refusals.{too_long}
use Rattle.lines.specs.Reading.{longest_text, Reading, read, refused}
use Rattle.lines.specs.FormLaws.{ByForm, line-form, next-form, count_line-form}
use Rattle.plan.specs.declared.Job.{Job}
use Rattle.plan.specs.declared.Bound.{Bound}
use Rattle.plan.specs.declared.Plan.{Plan}
use Rattle.plan.specs.PlanLines.{job_lines, jobs_after, bounds_after, plan_lines, plan_head, nothing_after, plan_alone}

job_lines-form : (s : List ℕ) (n : ℕ) → ByForm (job_lines s n)
unfolding job_lines
job_lines-form s n =
    next-form _ _ (line-form _ s n)
    (λ a t k. next-form _ _ (line-form _ t k) (λ b t k. next-form _ _ (line-form _ t k) (λ c t k. next-form _ _ (line-form _ t k) (λ d t k. tt))))

jobs_after-form : (done : List Job) (left : ℕ) (s : List ℕ) (n : ℕ) → ByForm (jobs_after done left s n)
unfolding jobs_after
jobs_after-form done zero s n = tt
jobs_after-form done (suc left) s n = next-form _ _ (job_lines-form s n) (λ job t k. jobs_after-form (done ++ (job ∷ [])) left t k)

bounds_after-form : (jobs : ℕ) (given : List Bound) (left : ℕ) (s : List ℕ) (n : ℕ) → ByForm (bounds_after jobs given left s n)
unfolding bounds_after
bounds_after-form jobs given zero s n = tt
bounds_after-form jobs given (suc left) s n = next-form _ _ (line-form _ s n) (λ b t k. bounds_after-form jobs (given ++ (b ∷ [])) left t k)

plan_lines-form : (s : List ℕ) (n : ℕ) → ByForm (plan_lines s n)
unfolding plan_lines
plan_lines-form s n =
    next-form _ _ (line-form _ s n)
    (λ window t k.
    next-form _ _ (count_line-form (bytes "rounds=") _ _ t k)
    (λ rounds t k.
    next-form _ _ (count_line-form (bytes "last=") _ _ t k)
    (λ last t k.
    next-form _ _ (count_line-form (bytes "jobs=") _ _ t k)
    (λ jobs t k.
    next-form _ _ (jobs_after-form [] jobs t k)
    (λ job t k.
    next-form _ _ (count_line-form (bytes "bounds=") _ _ t k)
    (λ bounds t k. next-form _ _ (bounds_after-form jobs [] bounds t k) (λ bound t k. tt)))))))

pub plan_head-form : (s : List ℕ) → ByForm (plan_head s)
unfolding plan_head
plan_head-form s = by (leb (length s) longest_text)
  where
    by : (b : Bool) → ByForm (cond b (plan_lines s 1) (refused too_long []))
    by true = plan_lines-form s 1
    by false = omega arith

nothing_after-form : (m : Reading Plan) → ByForm m → ByForm (nothing_after m)
unfolding nothing_after
nothing_after-form (read p s n) h = by (is_empty s)
  where
    by : (b : Bool) → ByForm (cond b (read p s n) (refused (refusal.Form n) s))
    by true = tt
    by false = omega arith
nothing_after-form (refused r s) h = h

pub plan_alone-form : (s : List ℕ) → ByForm (plan_alone s)
plan_alone-form s = nothing_after-form (plan_head s) (plan_head-form s)
