-- The answers of the code's line readers, as readings of the text that they stand in: a place in the text stands for the text from there on.
use Rattle.std.specs.Prelude.{ℕ, ◌+◌, ◌*◌, ◌≤◌, ◌<◌, ◌≡◌, List, [], Bool, ℤ, pos, length, take, drop, Result, Ok, Err, IfOk}
use Rattle.text.specs.Bytes.{bytes}
use Rattle.text.specs.Lines.{LF, before, after_key, next_line}
use Rattle.lines.specs.declared.Fault.{Fault}
use Rattle.lines.specs.declared.Refusal.TheVariants.{Form}
use Rattle.lines.specs.Refusals.{fault_at}
use Rattle.plan.specs.declared.Job.{Job}
use Rattle.plan.specs.declared.EventName.{EventName}
use Rattle.plan.specs.declared.Bound.{Bound}
use Rattle.plan.specs.declared.Plan.{Plan}
use Rattle.plan.specs.declared.First.{First}
use Rattle.plan.specs.Limits.{most_jobs, most_bounds, most_rounds, most_windows, longest_running, latest_deadline}
use Rattle.plan.specs.PlanLines.{bound_parts, bound_of, bounds_after, no_job, no_bound, filled, plan_of, plan_rest}
use Rattle.lines.specs.Reading.{Reading, Reader, ◌>>=◌, answer, number_line, count_line}
use Rattle.lines.specs.ReadAt.{faulty_in, At, at_told, at_place}

-- what a line for itself answers, at its place of a text: next is where the line after it begins
abbrev pub placed_at : {A : Type 0} → ℕ → ℕ → ℕ → Result A Fault → At A
placed_at at n next (Ok a) = Ok (a, next)
placed_at at n next (Err f) = Err (record { refusal = fault_at n f; at = at })

-- r is the answer to line n of the text s, which begins at a place, where P v says that v may be the answer to a line for itself
pub record LineTaken {A : Type 0} (P : List ℕ → Result A Fault → Type 0) (s : List ℕ) (at n : ℕ) (r : At A) : Type 0 where
  pub bare : length s < next_line s at → r ≡ Err (record { refusal = Form n; at = at })
  pub ended : next_line s at ≤ length s → (v : Result A Fault) × P (before LF (drop at s)) v × (r ≡ placed_at at n (next_line s at) v)

-- x is the answer to line n of the text s, a key and a number, which begins at a place
pub record LineAt (s key : List ℕ) (lo hi : ℤ) (at n : ℕ) (x : At ℤ) : Type 0 where
  pub told : number_line key lo hi (drop at s) n ≡ at_told s (n + 1) x
  pub place : at_place x ≤ length s

-- the first places of an array that was read, which hold what was read there
abbrev pub first_of : {A : Type 0} → ℕ → At (List A) → At (List A)
first_of n (Ok (xs, at)) = Ok (take n xs, at)
first_of n (Err f) = Err f

abbrev pub jobs_told : List ℕ → ℕ → At (List Job) → Reading (List Job)
jobs_told s jobs r = at_told s (5 + 4 * jobs) (first_of jobs r)

-- the places past the jobs that were read hold zeros
abbrev pub JobsFilled : ℕ → At (List Job) → Type 0
JobsFilled jobs r = IfOk r (λ q. q.0 ≡ filled most_jobs no_job (take jobs q.0))

-- a bound line by itself, with the pairs that are wrong after the bounds before it
abbrev pub bound_lined : ℕ → (EventName → EventName → Bool) → List ℕ → Result Bound Fault
bound_lined jobs is_wrong l = bound_of jobs is_wrong (bound_parts (after_key (bytes "bound=") l))

abbrev pub bounds_told : List ℕ → ℕ → ℕ → At (List Bound) → Reading (List Bound)
bounds_told s n bounds r = at_told s (n + bounds) (first_of bounds r)

abbrev pub BoundsFilled : ℕ → At (List Bound) → Type 0
BoundsFilled bounds r = IfOk r (λ q. q.0 ≡ filled most_bounds no_bound (take bounds q.0))

-- ---- what is left of a job's lines, and of a plan's, once the lines before were read

abbrev pub job_from_deadline : ℤ → ℤ → ℤ → Reader Job
job_from_deadline min max release = do
  deadline ← number_line (bytes "deadline=") (pos 0) latest_deadline
  answer (record { min = min; max = max; release = release; deadline = deadline })

abbrev pub job_from_release : ℤ → ℤ → Reader Job
job_from_release min max = do
  release ← number_line (bytes "release=") (pos 0) latest_deadline
  job_from_deadline min max release

abbrev pub job_from_max : ℤ → Reader Job
job_from_max min = do
  max ← number_line (bytes "max=") min longest_running
  job_from_release min max

abbrev pub plan_from_jobs : ℤ → ℕ → ℕ → Reader Plan
plan_from_jobs window rounds last = do
  jobs ← count_line (bytes "jobs=") 1 most_jobs
  plan_rest window rounds last jobs

abbrev pub plan_from_last : ℤ → ℕ → Reader Plan
plan_from_last window rounds = do
  last ← count_line (bytes "last=") 1 most_windows
  plan_from_jobs window rounds last

abbrev pub plan_from_rounds : ℤ → Reader Plan
plan_from_rounds window = do
  rounds ← count_line (bytes "rounds=") 1 most_rounds
  plan_from_last window rounds

abbrev pub plan_from_bounds : ℤ → ℕ → ℕ → ℕ → List Job → ℕ → Reader Plan
plan_from_bounds window rounds last jobs job bounds = do
  bound ← bounds_after jobs [] bounds
  answer (plan_of window rounds last jobs job bounds bound)

abbrev pub plan_from_count : ℤ → ℕ → ℕ → ℕ → List Job → Reader Plan
plan_from_count window rounds last jobs job = do
  bounds ← count_line (bytes "bounds=") 0 most_bounds
  plan_from_bounds window rounds last jobs job bounds

-- ---- the first four lines

-- what is left of the plan's lines after the first four, or their fault
abbrev pub first_rest : List ℕ → At First → Reading Plan
first_rest s (Ok (r, at)) = plan_rest r.window r.rounds r.last r.jobs (drop at s) 5
first_rest s (Err f) = faulty_in s f

pub record FirstTold (s : List ℕ) (m : Reading Plan) (r : At First) : Type 0 where
  pub told : m ≡ first_rest s r
  pub place : at_place r ≤ length s
  pub few : IfOk r (λ q. q.0.jobs ≤ most_jobs)
