-- The steps that a session takes from its text, line by line (document 01, 'Offers and runs': 'A step refused by 1 or 2 ends the program; other refusals go
-- on.').
use Rattle.std.specs.Prelude.{ℕ, ◌<◌, ◌≡◌, true, false, List, [], ◌∷◌, length}
use Rattle.plan.specs.declared.Plan.{Plan}
use Rattle.lines.specs.declared.Refusal.{Refusal}
use Rattle.lines.specs.Reading.{read, refused}
use Rattle.calendars.specs.declared.Calendar.{Calendar}
use Rattle.runs.specs.declared.Run.{Run}
use Rattle.runs.specs.declared.Step.{Step}
use Rattle.runs.specs.Steps.{stepped}
use Rattle.session.specs.StepRead.{step_line}
use Rattle.session.specs.AnswerText.{ends_session}

-- from the run r and the text s, whose first line has number n, just these steps are taken
pub data Takes (p : Plan) (c : Calendar) : Run → List ℕ → ℕ → List Step → Type 0 where
  -- the text is at its end
  end : {r : Run} {n : ℕ} → Takes p c r [] n []
  -- its line is no step
  no_step : {r : Run} {s part : List ℕ} {n : ℕ} {x : Refusal} → 0 < length s → step_line s n ≡ refused x part → Takes p c r s n []
  -- the answer to its step ends the session
  last : {r : Run} {s t : List ℕ} {n m : ℕ} {st : Step} → 0 < length s → step_line s n ≡ read st t m → ends_session (stepped p c r st).answer ≡ true
      → Takes p c r s n (st ∷ [])
  -- other steps follow, from the run after it
  then : {r : Run} {s t : List ℕ} {n m : ℕ} {st : Step} {sts : List Step} → 0 < length s → step_line s n ≡ read st t m
      → ends_session (stepped p c r st).answer ≡ false → Takes p c (stepped p c r st).run t m sts → Takes p c r s n (st ∷ sts)
