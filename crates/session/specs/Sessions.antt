-- The dispatch program's output (document 01, 'Offers and runs': 'Dispatch program: standard input is a plan followed by steps').
use Rattle.std.specs.Prelude.{ℕ, zero, suc, ◌+◌, ◌*◌, cond, List, [], ◌∷◌, ◌++◌, length, Result, Ok, Err}
use Rattle.plan.specs.declared.Plan.{Plan}
use Rattle.lines.specs.Reading.{longest_text, Reading, read, refused}
use Rattle.lines.specs.Refusals.{refused_line}
use Rattle.plan.specs.PlanLines.{plan_head}
use Rattle.lines.specs.declared.Refusal.{Refusal}
use Rattle.lines.specs.Written.{written_as}
use Rattle.calendars.specs.declared.Calendar.{Calendar}
use Rattle.rounds.specs.Rounds.{Outcome, outcome, verdict_of, verdict_told}
use Rattle.calendars.specs.Calendars.{made_calendar}
use Rattle.runs.specs.declared.Step.{Step}
use Rattle.runs.specs.declared.Answered.{Answered}
use Rattle.runs.specs.declared.Run.{Run}
use Rattle.runs.specs.Steps.{new_run, stepped}
use Rattle.session.specs.StepRead.{step_line}
use Rattle.session.specs.AnswerText.{answer_line, longest_answer, ends_session}

-- ---- steps

-- the steps of a text, answered: their answer lines, and the run after them
pub record Dispatched : Type 0 where
  pub lines : List ℕ
  pub run : Run

-- one step's answer line, and what follows it from the run after the step
unfoldable pub answered_step : Answered → (Run → Dispatched) → Dispatched
answered_step a later =
    let behind = cond (ends_session a.answer) (record { lines = []; run = a.run }) (later a.run) in
    record { lines = answer_line a.answer ++ behind.lines; run = behind.run }

-- 'A step refused by 1 or 2 ends the program': a line that is no step is its last
unfoldable pub after_step : Plan → Calendar → Run → Reading Step → (Run → List ℕ → ℕ → Dispatched) → Dispatched
after_step p c r (read st s n) later = answered_step (stepped p c r st) (λ r'. later r' s n)
after_step p c r (refused x part) later = record { lines = refused_line x; run = r }

-- the steps of a text whose first line has number n, from a run on. Each step takes a byte at least, so the text's length is more than the count of its steps.
unfoldable pub dispatched_within : Plan → Calendar → ℕ → Run → List ℕ → ℕ → Dispatched
dispatched_within p c zero r s n = record { lines = []; run = r }
dispatched_within p c (suc left) r [] n = record { lines = []; run = r }
dispatched_within p c (suc left) r (b ∷ s) n = after_step p c r (step_line (b ∷ s) n) (dispatched_within p c left)

abbrev pub dispatched : Plan → Calendar → Run → List ℕ → ℕ → Dispatched
dispatched p c r s n = dispatched_within p c (length s) r s n

abbrev pub answers : Plan → Calendar → Run → List ℕ → ℕ → List ℕ
answers p c r s n = (dispatched p c r s n).lines

-- ---- the program: from the bytes of the input to those of the output

-- 'The verdict follows; in a session it comes before any step is read.'
abbrev pub verdict_session : Plan → Result ℕ Refusal → Calendar → List ℕ → ℕ → List ℕ
verdict_session p (Ok m) c s n = answers p c new_run s n
verdict_session p (Err x) c s n = refused_line x

unfoldable pub judged_session : Plan → Outcome → List ℕ → ℕ → List ℕ
judged_session p o s n = verdict_session p (verdict_told (verdict_of p o)) (made_calendar p o) s n

-- 'A refused plan prints its one line.' 'Line numbers count from the plan's first line.'
unfoldable pub session_of : Reading Plan → List ℕ
session_of (read p s n) = judged_session p (outcome p) s n
session_of (refused x part) = refused_line x

abbrev pub dispatch_output : List ℕ → List ℕ
dispatch_output s = session_of (plan_head s)

-- ---- how long it is: a step has at least 8 bytes

abbrev pub most_session_bytes : ℕ
most_session_bytes = 7 * longest_text + longest_answer

-- the answer to a session text and a lent slice
abbrev pub session_answer : List ℕ → List ℕ → Result ℕ Refusal
session_answer s out = written_as (dispatch_output s) out
