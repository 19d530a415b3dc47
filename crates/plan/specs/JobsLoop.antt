-- The loop over the jobs' lines: `JobsPassed` is what holds after i jobs, at the beginning (`JobsPassed-start`), after one more (`-past`), at a fault
-- (`-stop`) and at the end (`-end`), where the array is filled (`-filled`).
use Rattle.std.specs.Prelude.{◌≡◌, refl, ℕ, suc, ◌+◌, ◌*◌, ◌-◌, ◌≤◌, ◌<◌, length, drop, set, replicate}
use Rattle.std.proofs.Math.Path.{sym, ap}
use Rattle.std.proofs.Common.{◌∙◌, arith, add-one, take-suc-set}
use mathlib.Core.List.{List, [], ◌∷◌, ◌++◌}
use Rattle.std.proofs.Math.Nat.{sub-zero}
use Rattle.std.proofs.Math.ListN.{take}
use Rattle.plan.specs.declared.Job.{Job}
use Rattle.lines.specs.declared.FaultyLine.{FaultyLine}
use Rattle.plan.specs.Limits.{most_jobs}
use Rattle.lines.specs.Reading.{read, next}
use Rattle.plan.specs.PlanLines.{job_lines, jobs_after, no_job, filled}
use Rattle.lines.specs.ReadAt.{faulty_in}
use Rattle.plan.specs.ListLaws.{Filling, Filling-start, Filling-more, Filling-end}

pub record JobsPassed (s : List ℕ) (from jobs : ℕ) (job : List Job) (at line i : ℕ) : Type 0 where
  pub count : i ≤ jobs
  pub place : at ≤ length s
  pub number : line ≡ 5 + 4 * i
  pub array : Filling most_jobs no_job job i
  pub told : jobs_after [] jobs (drop from s) 5 ≡ jobs_after (take i job) (jobs - i) (drop at s) line

pub JobsPassed-start : (s : List ℕ) (from jobs : ℕ) → from ≤ length s → JobsPassed s from jobs (replicate most_jobs no_job) from 5 0
JobsPassed-start s from jobs h =
    record {
      count = omega arith;
      place = h;
      number = refl;
      array = Filling-start most_jobs no_job;
      told = ap (λ (n : ℕ). jobs_after [] n (drop from s) 5) (sym (sub-zero jobs));
    }

module _ (s : List ℕ) (from jobs : ℕ) (job : List Job) (at line i : ℕ) (p : JobsPassed s from jobs job at line i) where
  one_more : i < jobs → jobs - i ≡ suc (jobs - (i + 1))
  one_more h = omega arith

  pub JobsPassed-stop : i < jobs → (f : FaultyLine) → job_lines (drop at s) line ≡ faulty_in s f → jobs_after [] jobs (drop from s) 5 ≡ faulty_in s f
  unfolding jobs_after next
  JobsPassed-stop h f e = p.told ∙ rw (one_more h, e)

  pub JobsPassed-past : i < jobs → jobs ≤ most_jobs → (j : Job) (to : ℕ) → to ≤ length s → job_lines (drop at s) line ≡ read j (drop to s) (line + 4)
      → JobsPassed s from jobs (set job i j) to (line + 4) (i + 1)
  unfolding jobs_after next
  JobsPassed-past h m j to g e =
      record {
        count = omega arith;
        place = g;
        number = omega (arith, p.number);
        array = Filling-more most_jobs no_job job i p.array (omega arith) j;
        told = p.told ∙ step ∙ ap (λ (done : List Job). jobs_after done (jobs - (i + 1)) (drop to s) (line + 4)) taken;
      }
    where
      taken : take i job ++ (j ∷ []) ≡ take (i + 1) (set job i j)
      taken = sym (rw (add-one i) (take-suc-set job i j (omega (arith, p.array.places))))

      step : jobs_after (take i job) (jobs - i) (drop at s) line ≡ jobs_after (take i job ++ (j ∷ [])) (jobs - (i + 1)) (drop to s) (line + 4)
      step = rw (one_more h, e)

  pub JobsPassed-end : jobs ≤ i → jobs_after [] jobs (drop from s) 5 ≡ read (take jobs job) (drop at s) (5 + 4 * jobs)
  unfolding jobs_after
  JobsPassed-end h =
      p.told
      ∙ ap (λ (n : ℕ). jobs_after (take i job) n (drop at s) line) none_left
      ∙ ap (λ (n : ℕ). read (take n job) (drop at s) line) all
      ∙ ap (λ (n : ℕ). read (take jobs job) (drop at s) n) last
    where
      all : i ≡ jobs
      all = omega (arith, p.count)

      none_left : jobs - i ≡ 0
      none_left = omega arith

      last : line ≡ 5 + 4 * jobs
      last = omega (arith, p.count, p.number)

  pub JobsPassed-filled : jobs ≤ i → jobs ≤ most_jobs → job ≡ filled most_jobs no_job (take jobs job)
  JobsPassed-filled h m = Filling-end most_jobs no_job job i p.array (omega (arith, p.count)) ∙ ap (λ (n : ℕ). filled most_jobs no_job (take n job)) all
    where
      all : i ≡ jobs
      all = omega (arith, p.count)
