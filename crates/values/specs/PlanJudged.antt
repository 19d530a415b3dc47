-- A plan handed over as a value, judged line by line without its text (document 01, 'Plan text': 'A plan handed over as a value is judged as its text would
-- be'). That it is judged as its text would be is `judged_plan-is` in `JudgedLines`.
use Rattle.std.specs.Prelude.{ℕ, Result, Ok, Err, ◌+◌, ◌*◌, Bool, cond, ◌&&◌, List, [], ◌∷◌, ◌++◌, ltb, ℤ, pos}
use Rattle.std.proofs.Math.Option.{Option, none, some}
use Rattle.text.specs.Numbers.{within}
use Rattle.plan.specs.declared.Job.{Job}
use Rattle.plan.specs.declared.EventName.{EventName}
use Rattle.plan.specs.declared.Bound.{Bound}
use Rattle.lines.specs.declared.Fault.{Fault}
use Rattle.plan.specs.declared.Plan.{Plan}
use Rattle.lines.specs.declared.Refusal.{Refusal}
use Rattle.lines.specs.declared.Refusal.TheVariants.{Form, Range}
use Rattle.plan.specs.Limits.{longest_window, most_rounds, most_windows, most_jobs, longest_running, latest_deadline, most_bounds}
use Rattle.lines.specs.Refusals.{fault_at}
use Rattle.plan.specs.PlanLines.{is_wrong_pair, judged_bound}
use Rattle.plan.specs.PlanWritten.{jobs_of, bounds_of}

-- the answer to a plan, of its refusal or of none
abbrev pub judged_answer : Option Refusal → Result Unit Refusal
judged_answer none = Ok tt
judged_answer (some r) = Err r

-- 'the first faulty line decides'
abbrev pub and_then : Result Unit Refusal → Result Unit Refusal → Result Unit Refusal
and_then (Ok u) rest = rest
and_then (Err r) rest = Err r

-- a line that is a number from lo to hi; as it is written out, it has its form
abbrev pub number_judged : ℤ → ℤ → ℤ → ℕ → Result Unit Refusal
number_judged lo hi z n = cond (within lo hi z) (Ok tt) (Err (Range n))

-- a job whose first line has the number n: 'A fault in min <= max is a number out of range on the `max` line.' 'A release above its deadline is no fault of
-- form'
unfoldable pub job_judged : ℕ → Job → Result Unit Refusal
job_judged n j =
    and_then (number_judged (pos 0) longest_running j.min n)
    (and_then (number_judged j.min longest_running j.max (n + 1))
    (and_then (number_judged (pos 0) latest_deadline j.release (n + 2))
    (number_judged (pos 0) latest_deadline j.deadline (n + 3))))

unfoldable pub jobs_judged : ℕ → List Job → Result Unit Refusal
jobs_judged n [] = Ok tt
jobs_judged n (j ∷ js) = and_then (job_judged n j) (jobs_judged (n + 4) js)

-- 'one job digit'
abbrev pub is_one_digit : ℕ → Bool
is_one_digit i = ltb i 10

abbrev pub line_judged : ℕ → Result Bound Fault → Result Unit Refusal
line_judged n (Ok d) = Ok tt
line_judged n (Err f) = Err (fault_at n f)

-- a bound on line n, with the pairs that are wrong after the bounds before it: 'in a line the order is 1, 2, 3'
unfoldable pub bound_judged : ℕ → (EventName → EventName → Bool) → ℕ → Bound → Result Unit Refusal
bound_judged jobs is_wrong n d =
    cond (is_one_digit d.a.job && is_one_digit d.b.job) (line_judged n (judged_bound jobs is_wrong d))
    (Err (Form n))

unfoldable pub bounds_judged : ℕ → List Bound → ℕ → List Bound → Result Unit Refusal
bounds_judged jobs given n [] = Ok tt
bounds_judged jobs given n (d ∷ ds) = and_then (bound_judged jobs (λ a b. is_wrong_pair a b given) n d) (bounds_judged jobs (given ++ (d ∷ [])) (n + 1) ds)

-- the lines in the document's order
unfoldable pub judged_by_lines : Plan → Result Unit Refusal
judged_by_lines p =
    and_then (number_judged (pos 1) longest_window p.window 1)
    (and_then (number_judged (pos 1) (pos most_rounds) (pos p.rounds) 2)
    (and_then (number_judged (pos 1) (pos most_windows) (pos p.last) 3)
    (and_then (number_judged (pos 1) (pos most_jobs) (pos p.jobs) 4)
    (and_then (jobs_judged 5 (jobs_of p))
    (and_then (number_judged (pos 0) (pos most_bounds) (pos p.bounds) (5 + 4 * p.jobs))
    (bounds_judged p.jobs [] (6 + 4 * p.jobs) (bounds_of p)))))))
