-- What an accepted plan is: every number of it in the range of document 01's table, every pair a right one. The crates above cite `Accepted`, and not
-- the reader.
use Rattle.std.specs.Prelude.{◌≡◌, false, ℕ, ◌≤◌, ◌<◌, pos, length, take, get_or, ◌≤ℤ◌}
use Rattle.plan.specs.declared.Job.{Job}
use Rattle.plan.specs.declared.Bound.{Bound}
use Rattle.plan.specs.declared.Plan.{Plan}
use Rattle.plan.specs.Limits.{longest_window, most_rounds, most_windows, most_jobs, longest_running, latest_deadline, most_bounds, least_c, greatest_c}
use Rattle.plan.specs.PlanLines.{is_wrong_pair, no_job, no_bound}

-- '`min=`, `max=` | 0..86,400,000, min <= max', '`release=`, `deadline=` | 0..172,800,000'
pub record JobAccepted (j : Job) : Type 0 where
  pub min-least : pos 0 ≤ℤ j.min
  pub min-most : j.min ≤ℤ j.max
  pub max-most : j.max ≤ℤ longest_running
  pub release-least : pos 0 ≤ℤ j.release
  pub release-most : j.release ≤ℤ latest_deadline
  pub deadline-least : pos 0 ≤ℤ j.deadline
  pub deadline-most : j.deadline ≤ℤ latest_deadline

-- 'c from -1,000,000,000 to 1,000,000,000', and a job digit of neither event 'of 0 or above `jobs`'
pub record BoundAccepted (jobs : ℕ) (d : Bound) : Type 0 where
  pub a-least : 1 ≤ d.a.job
  pub a-most : d.a.job ≤ jobs
  pub b-least : 1 ≤ d.b.job
  pub b-most : d.b.job ≤ jobs
  pub c-least : least_c ≤ℤ d.c
  pub c-most : d.c ≤ℤ greatest_c

-- The jobs are the places below `jobs`, the bounds the places below `bounds`. The pair of a bound is judged after the bounds before it.
pub record Accepted (p : Plan) : Type 0 where
  pub window-least : pos 1 ≤ℤ p.window
  pub window-most : p.window ≤ℤ longest_window
  pub rounds-least : 1 ≤ p.rounds
  pub rounds-most : p.rounds ≤ most_rounds
  pub last-least : 1 ≤ p.last
  pub last-most : p.last ≤ most_windows
  pub jobs-least : 1 ≤ p.jobs
  pub jobs-most : p.jobs ≤ most_jobs
  pub bounds-most : p.bounds ≤ most_bounds
  pub job-places : length p.job ≡ most_jobs
  pub bound-places : length p.bound ≡ most_bounds
  pub job-at : (i : ℕ) → i < p.jobs → JobAccepted (get_or p.job i no_job)
  pub bound_at : (i : ℕ) → i < p.bounds → BoundAccepted p.jobs (get_or p.bound i no_bound)
  pub pair-at : (i : ℕ) → i < p.bounds → is_wrong_pair (get_or p.bound i no_bound).a (get_or p.bound i no_bound).b (take i p.bound) ≡ false
