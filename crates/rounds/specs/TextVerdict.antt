-- A plan's text judged to its end (document 01, 'Numbers of refusal': 'The verdict follows; in a session it comes before any step is read').
use Rattle.std.specs.Prelude.{ℕ, List, [], Result, Ok, Err}
use Rattle.plan.specs.declared.Plan.{Plan}
use Rattle.lines.specs.declared.Refusal.{Refusal}
use Rattle.lines.specs.Reading.{Reading, read, refused}
use Rattle.plan.specs.PlanLines.{plan_alone, plan_head}
use Rattle.rounds.specs.Rounds.{verdict, verdict_told}

-- 'for 4 and 5 that part is empty'
unfoldable pub or_refused : Result ℕ Refusal → Reading Plan → Reading Plan
or_refused (Ok m) r = r
or_refused (Err x) r = refused x []

unfoldable pub verdict_after : Reading Plan → Reading Plan
verdict_after (read p s n) = or_refused (verdict_told (verdict p)) (read p s n)
verdict_after (refused x part) = refused x part

-- a plan alone, and a plan at the head of a session
abbrev pub settled_alone : List ℕ → Reading Plan
settled_alone s = verdict_after (plan_alone s)

abbrev pub settled_head : List ℕ → Reading Plan
settled_head s = verdict_after (plan_head s)
