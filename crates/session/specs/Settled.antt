-- A session whose plan is settled: what is known of it, and what it prints.
use Rattle.std.specs.Prelude.{◌≡◌, List, ℕ, drop, Result, MatchResult}
use Rattle.plan.specs.declared.Plan.{Plan}
use Rattle.lines.specs.declared.FaultyLine.{FaultyLine}
use Rattle.lines.specs.Reading.{read}
use Rattle.lines.specs.ReadAt.{faulty_in}
use Rattle.rounds.specs.Rounds.{outcome}
use Rattle.rounds.specs.TextVerdict.{settled_head}
use Rattle.calendars.specs.declared.Calendar.{Calendar}
use Rattle.calendars.specs.Calendars.{made_calendar}
use Rattle.runs.specs.declared.Run.{Run}
use Rattle.runs.specs.Steps.{new_run}
use Rattle.session.specs.declared.StepLines.{StepLines}
use Rattle.session.specs.declared.Session.{Session}
use Rattle.session.specs.Sessions.{Dispatched, dispatched}

-- the steps of the lines l, answered from a run on
abbrev pub lines_dispatched : Plan → Calendar → Run → StepLines → Dispatched
lines_dispatched p c r l = dispatched p c r (drop l.at l.text.now) l.line

-- the answers to the steps of a session
abbrev pub session_lines : Session → List ℕ
session_lines h = (lines_dispatched h.plan h.calendar new_run h.lines).lines

-- the session h is that of the text s
pub record SettledAs (s : List ℕ) (h : Session) : Type 0 where
  pub text : h.lines.text.now ≡ s
  pub reads : settled_head s ≡ read h.plan (drop h.lines.at s) h.lines.line
  pub calendar : h.calendar ≡ made_calendar h.plan (outcome h.plan)

-- the plan of the text s was read and decided
abbrev pub HeadSettled : List ℕ → Result Session FaultyLine → Type 0
HeadSettled s r = MatchResult r (λ h. SettledAs s h) (λ f. settled_head s ≡ faulty_in s f)
