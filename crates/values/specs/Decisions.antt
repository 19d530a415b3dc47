-- What is decided of a plan that was handed over as a value: its verdict, its calendar, and the text that reports them.
use Rattle.std.specs.Prelude.{ℕ, List, Result, Err}
use Rattle.std.proofs.Math.Option.{Option, none, some}
use Rattle.plan.specs.declared.Plan.{Plan}
use Rattle.lines.specs.declared.Refusal.{Refusal}
use Rattle.lines.specs.Refusals.{refused_line}
use Rattle.rounds.specs.Rounds.{outcome, verdict, verdict_told}
use Rattle.calendars.specs.declared.Calendar.{Calendar}
use Rattle.calendars.specs.declared.Decision.{Decision}
use Rattle.calendars.specs.Calendars.{no_calendar, made_calendar, with_calendar}
use Rattle.calendars.specs.CalendarText.{outcome_text}

-- 'A plan handed over as a value is judged as its text would be.' 'The verdict follows'; by the plan's judgement: its verdict, its calendar, and the text that
-- reports them
unfoldable pub value_verdict : Plan → Option Refusal → Result ℕ Refusal
value_verdict p none = verdict_told (verdict p)
value_verdict p (some x) = Err x

unfoldable pub value_calendar : Plan → Option Refusal → Calendar
value_calendar p none = made_calendar p (outcome p)
value_calendar p (some x) = no_calendar p

-- both in one: the round and the calendar of a settled plan, or the refusal
abbrev pub value_decision : Plan → Option Refusal → Result Decision Refusal
value_decision p o = with_calendar (value_verdict p o) (value_calendar p o)

unfoldable pub value_text : Plan → Option Refusal → List ℕ
value_text p none = outcome_text p (outcome p)
value_text p (some x) = refused_line x
