-- What the readers of a plan answer, from the reading that the definitions give.
use Rattle.std.specs.Prelude.{ℕ, ◌-◌, List, length, Result, Ok, Err}
use Rattle.lines.specs.declared.FaultyLine.{FaultyLine}
use Rattle.plan.specs.declared.Plan.{Plan}
use Rattle.plan.specs.declared.PlanRead.{PlanRead}
use Rattle.lines.specs.Reading.{Reading, read, refused}

-- the answer to a text s: a place in it follows from how much of the text is left there
unfoldable pub plan_read : List ℕ → Reading Plan → Result PlanRead FaultyLine
plan_read s (read p t n) = Ok (record { plan = p; at = length s - length t; line = n })
plan_read s (refused r t) = Err (record { refusal = r; at = length s - length t })
