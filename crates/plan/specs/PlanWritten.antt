-- A plan's text, written, and a plan as a value judged as its text would be (document 01, 'Plan text').
use Rattle.std.specs.Prelude.{ℕ, List, [], ◌∷◌, ◌++◌, pos, take}
use Rattle.std.proofs.Math.Option.{Option, none, some}
use Rattle.text.specs.Bytes.{bytes}
use Rattle.text.specs.Lines.{LF, comma}
use Rattle.text.specs.Numbers.{decimal}
use Rattle.plan.specs.declared.Job.{Job}
use Rattle.plan.specs.declared.Bound.{Bound}
use Rattle.plan.specs.declared.Plan.{Plan}
use Rattle.lines.specs.declared.Refusal.{Refusal}
use Rattle.lines.specs.Reading.{Reading, read, refused}
use Rattle.lines.specs.Keyed.{keyed}
use Rattle.plan.specs.EventNames.{name_bytes}
use Rattle.plan.specs.PlanLines.{plan_of, plan_alone}

unfoldable pub jobs_text : List Job → List ℕ → List ℕ
jobs_text [] s = s
jobs_text (j ∷ js) s =
    keyed (bytes "min=") j.min
    (keyed (bytes "max=") j.max
    (keyed (bytes "release=") j.release
    (keyed (bytes "deadline=") j.deadline
    (jobs_text js s))))

-- a bound's line, with what follows its number
abbrev pub bound_bytes : Bound → List ℕ → List ℕ
bound_bytes d s = bytes "bound=" ++ (name_bytes d.a ++ (comma ∷ (name_bytes d.b ++ (comma ∷ (decimal d.c ++ s)))))

unfoldable pub bounds_text : List Bound → List ℕ
bounds_text [] = []
bounds_text (d ∷ ds) = bound_bytes d (LF ∷ bounds_text ds)

-- the jobs and the bounds of a plan, without the places beyond them
abbrev pub jobs_of : Plan → List Job
jobs_of p = take p.jobs p.job

abbrev pub bounds_of : Plan → List Bound
bounds_of p = take p.bounds p.bound

-- the same plan with the reader's zeros in the places beyond them
unfoldable pub trimmed : Plan → Plan
trimmed p = plan_of p.window p.rounds p.last p.jobs (jobs_of p) p.bounds (bounds_of p)

-- the plan's lines, in the document's order
unfoldable pub plan_text : Plan → List ℕ
plan_text p =
    keyed (bytes "window=") p.window
    (keyed (bytes "rounds=") (pos p.rounds)
    (keyed (bytes "last=") (pos p.last)
    (keyed (bytes "jobs=") (pos p.jobs)
    (jobs_text (jobs_of p)
    (keyed (bytes "bounds=") (pos p.bounds)
    (bounds_text (bounds_of p)))))))

-- 'A plan handed over as a value is judged as its text would be.'
unfoldable pub refusal_of : Reading Plan → Option Refusal
refusal_of (read p s n) = none
refusal_of (refused r s) = some r

abbrev pub judged_plan : Plan → Option Refusal
judged_plan p = refusal_of (plan_alone (plan_text p))
