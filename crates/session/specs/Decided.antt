-- A plan that was judged: its verdict and, where it is settled, its calendar.
use Rattle.std.specs.Prelude.{◌≡◌, true, ℕ}
use Rattle.plan.specs.declared.Plan.{Plan}
use Rattle.plan.specs.Accepted.{Accepted}
use Rattle.bounds.specs.Tables.{Rows}
use Rattle.rounds.specs.declared.Verdict.{Verdict}
use Rattle.calendars.specs.declared.Calendar.{Calendar}
use Rattle.rounds.specs.Rounds.{settled, outcome, verdict}
use Rattle.calendars.specs.Calendars.{made_calendar}
use Rattle.runs.specs.ValueLimits.{is_calendar}

pub record PlanDecided (p : Plan) (v : Verdict) (c : Calendar) : Type 0 where
  pub accepted : Accepted p
  pub verdict : v ≡ verdict p
  pub calendar : c ≡ made_calendar p (outcome p)
  pub inside : (m : ℕ) (t : Rows) → outcome p ≡ settled m t → is_calendar p c ≡ true
