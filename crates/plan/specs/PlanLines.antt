-- A plan's text, read (document 01, 'Plan text'). Each reader below is one line of the document's table, or a group of its lines.
use Rattle.std.specs.Prelude.{ℕ, zero, suc, ◌-◌, Bool, false, not, cond, ◌&&◌, ◌||◌, List, [], ◌∷◌, ◌++◌, leb, ℤ, pos, length, replicate, Option, Some, None, Result, Ok, Err}
use Rattle.std.proofs.Math.Option as math
use Rattle.text.specs.Bytes.{bytes}
use Rattle.text.specs.Lines.{comma, before, has, after, after_key}
use Rattle.text.specs.Numbers.{is_number, number_value, within, is_empty}
use Rattle.lines.specs.declared.Fault.{Fault}
use Rattle.lines.specs.declared.Fault.TheVariants as fault
use Rattle.plan.specs.declared.Job.{Job}
use Rattle.plan.specs.declared.Letter.TheVariants.{This}
use Rattle.plan.specs.declared.Kind.TheVariants.{Start}
use Rattle.plan.specs.declared.EventName.{EventName}
use Rattle.plan.specs.declared.Bound.{Bound}
use Rattle.plan.specs.declared.Plan.{Plan}
use Rattle.lines.specs.declared.Refusal.TheVariants.{Form}
use Rattle.lines.specs.Reading.{longest_text, Reading, read, refused, Reader, ◌>>=◌, answer, line, number_line, count_line}
use Rattle.plan.specs.Limits.{longest_window, most_rounds, most_windows, most_jobs, longest_running, latest_deadline, most_bounds, least_c, greatest_c}
use Rattle.lines.specs.Refusals.{too_long}
use Rattle.plan.specs.EventNames.{event_name, same_event, is_next}

-- ---- jobs

-- 'per job, in order: `min=`, `max=`', 'then, same job, `release=`, `deadline=`'. 'A fault in min <= max is a number out of range on the
-- `max` line.' 'A release above its deadline is no fault of form'
unfoldable pub job_lines : Reader Job
job_lines = do
  min ← number_line (bytes "min=") (pos 0) longest_running
  max ← number_line (bytes "max=") min longest_running
  release ← number_line (bytes "release=") (pos 0) latest_deadline
  deadline ← number_line (bytes "deadline=") (pos 0) latest_deadline
  answer (record { min = min; max = max; release = release; deadline = deadline })

-- so many jobs more, after those read before them
unfoldable pub jobs_after : List Job → ℕ → Reader (List Job)
jobs_after done zero = answer done
jobs_after done (suc left) = do
  job ← job_lines
  jobs_after (done ++ (job ∷ [])) left

-- ---- bounds

-- a bound line by its parts: A, B and c
pub record BoundParts : Type 0 where
  pub a : EventName
  pub b : EventName
  pub c : List ℕ

abbrev pub parts_of : Option EventName → Option EventName → List ℕ → Option BoundParts
parts_of None b c = None
parts_of (Some a) None c = None
parts_of (Some a) (Some b) c = cond (is_number c) (Some (record { a = a; b = b; c = c })) None

-- 'that many `bound=A,B,c`': two names and a number, with a comma after each name
unfoldable pub bound_parts : math.Option (List ℕ) → Option BoundParts
bound_parts math.none = None
bound_parts (math.some s) =
    let t = after comma s in
    cond (has comma s && has comma t) (parts_of (event_name (before comma s)) (event_name (before comma t)) (after comma t)) None

-- 'a job digit of 0 or above `jobs`'
abbrev pub is_job : ℕ → ℕ → Bool
is_job jobs i = leb 1 i && leb i jobs

-- whether an ordered pair was given by one of the bounds
unfoldable pub is_given : EventName → EventName → List Bound → Bool
is_given a b [] = false
is_given a b (d ∷ given) = (same_event a d.a && same_event b d.b) || is_given a b given

-- 'Wrong pairs: both events n, the same event twice, or an ordered pair already given. A,B and B,A are two pairs.'
unfoldable pub is_wrong_pair : EventName → EventName → List Bound → Bool
is_wrong_pair a b given = (is_next a.letter && is_next b.letter) || (same_event a b || is_given a b given)

-- 'in a line the order is 1, 2, 3': the numbers of a line that has its form, and then its pair
abbrev pub judged_bound : ℕ → (EventName → EventName → Bool) → Bound → Result Bound Fault
judged_bound jobs is_wrong d =
    cond (not (is_job jobs d.a.job && is_job jobs d.b.job && within least_c greatest_c d.c)) (Err fault.Range)
    (cond (is_wrong d.a d.b) (Err fault.Pair)
    (Ok d))

unfoldable pub bound_of : ℕ → (EventName → EventName → Bool) → Option BoundParts → Result Bound Fault
bound_of jobs is_wrong None = Err fault.Form
bound_of jobs is_wrong (Some q) = judged_bound jobs is_wrong (record { a = q.a; b = q.b; c = number_value q.c })

abbrev pub bound_of_line : ℕ → List Bound → List ℕ → Result Bound Fault
bound_of_line jobs given l = bound_of jobs (λ a b. is_wrong_pair a b given) (bound_parts (after_key (bytes "bound=") l))

-- so many bounds more, after those given before them: 'Bounds keep their order, which is part of the plan.'
unfoldable pub bounds_after : ℕ → List Bound → ℕ → Reader (List Bound)
bounds_after jobs given zero = answer given
bounds_after jobs given (suc left) = do
  b ← line (bound_of_line jobs given)
  bounds_after jobs (given ++ (b ∷ [])) left

-- ---- the plan

-- what the reader leaves in a place that is no part of the plan
abbrev pub no_job : Job
no_job = record { min = pos 0; max = pos 0; release = pos 0; deadline = pos 0 }

abbrev pub no_event : EventName
no_event = record { letter = This; kind = Start; job = 0 }

abbrev pub no_bound : Bound
no_bound = record { a = no_event; b = no_event; c = pos 0 }

-- an array of so many places, with d in those past the list's end
abbrev pub filled : {A : Type 0} → ℕ → A → List A → List A
filled size d xs = xs ++ replicate (size - length xs) d

abbrev pub plan_of : ℤ → ℕ → ℕ → ℕ → List Job → ℕ → List Bound → Plan
plan_of window rounds last jobs job bounds bound =
    record {
      window = window;
      rounds = rounds;
      last = last;
      jobs = jobs;
      job = filled most_jobs no_job job;
      bounds = bounds;
      bound = filled most_bounds no_bound bound;
    }

-- the lines after the first four: the jobs, the count of the bounds, and the bounds
abbrev pub plan_rest : ℤ → ℕ → ℕ → ℕ → Reader Plan
plan_rest window rounds last jobs = do
  job ← jobs_after [] jobs
  bounds ← count_line (bytes "bounds=") 0 most_bounds
  bound ← bounds_after jobs [] bounds
  answer (plan_of window rounds last jobs job bounds bound)

-- 'Key=value lines in this order': the table, line by line
unfoldable pub plan_lines : Reader Plan
plan_lines = do
  window ← number_line (bytes "window=") (pos 1) longest_window
  rounds ← count_line (bytes "rounds=") 1 most_rounds
  last ← count_line (bytes "last=") 1 most_windows
  jobs ← count_line (bytes "jobs=") 1 most_jobs
  plan_rest window rounds last jobs

-- 'Length comes first': a plan at the head of a text, with the steps that may follow it. 'for D = 0 .. that part is empty'
unfoldable pub plan_head : List ℕ → Reading Plan
plan_head s = let r = plan_lines s 1 in cond (leb (length s) longest_text) r (refused too_long [])

-- 'nothing after the last': a plan alone. What follows it is a line too many, which lacks the form of no line at all.
unfoldable pub nothing_after : Reading Plan → Reading Plan
nothing_after (read p s n) = cond (is_empty s) (read p s n) (refused (Form n) s)
nothing_after (refused r s) = refused r s

abbrev pub plan_alone : List ℕ → Reading Plan
plan_alone s = nothing_after (plan_head s)
