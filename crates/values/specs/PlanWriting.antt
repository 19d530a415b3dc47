-- A plan as a value, written out: it is judged before (document 01, 'Plan text': 'A plan handed over as a value is judged as its text would be.').
use Rattle.std.specs.Prelude.{ℕ, List, Result, Err}
use Rattle.std.proofs.Math.Option.{Option, none, some}
use Rattle.text.specs.Lent.{written}
use Rattle.plan.specs.declared.Plan.{Plan}
use Rattle.lines.specs.declared.Refusal.{Refusal}
use Rattle.plan.specs.PlanWritten.{plan_text, judged_plan}
use Rattle.lines.specs.Written.{written_as}

-- a text that is to be written where nothing is refused: what is answered, and what the lent slice holds then. 'none writes to a lent buffer'
unfoldable pub written_where : Option Refusal → List ℕ → List ℕ → Result ℕ Refusal
written_where none t out = written_as t out
written_where (some x) t out = Err x

unfoldable pub bytes_where : Option Refusal → List ℕ → List ℕ → List ℕ
bytes_where none t out = written t out
bytes_where (some x) t out = out

-- the length of the plan's text, or the plan's refusal, or 12
unfoldable pub written_plan : Plan → List ℕ → Result ℕ Refusal
written_plan p out = written_where (judged_plan p) (plan_text p) out

-- the lent slice: the plan's text and what stood after it, or all bytes as they were
unfoldable pub plan_bytes : Plan → List ℕ → List ℕ
plan_bytes p out = bytes_where (judged_plan p) (plan_text p) out

-- how long it is at most
abbrev pub most_plan_bytes : ℕ
most_plan_bytes = 9000
