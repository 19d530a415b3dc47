-- No two answers meet the promise of a public operation: each promise is an equation, and `only` of the crate `text` says the rest.
use Rattle.std.specs.Prelude.{ℕ, ◌≡◌, List, length, take, Result}
use Rattle.text.specs.Unique.{only}
use Rattle.text.specs.Lent.{written}
use Rattle.plan.specs.declared.Plan.{Plan}
use Rattle.lines.specs.declared.Refusal.{Refusal}
use Rattle.lines.specs.Written.{written_as, written_whole}
use Rattle.lines.specs.declared.FaultyPart.{FaultyPart}
use Rattle.lines.specs.Reading.{refused_number, refused_value, faulty_part}
use Rattle.lines.specs.Answers.{part_told, reported}
use Rattle.rounds.specs.Rounds.{outcome}
use Rattle.rounds.specs.TextVerdict.{settled_alone}
use Rattle.calendars.specs.declared.Calendar.{Calendar}
use Rattle.calendars.specs.declared.Decision.{Decision}
use Rattle.calendars.specs.Calendars.{no_calendar, decision}
use Rattle.calendars.specs.CalendarText.{decision_text, calendar_output}
use Rattle.lines.specs.Unique.{whole_unique}

-- ---- the calendar

pub empty-calendar-unique : (p : Plan) {r q : Calendar} → r ≡ no_calendar p → q ≡ no_calendar p → r ≡ q
empty-calendar-unique p = only

-- ---- what is decided

pub decide-unique : (p : Plan) {r q : Result Decision Refusal} → r ≡ decision p (outcome p) → q ≡ decision p (outcome p) → r ≡ q
decide-unique p = only

pub write-decision-unique : (jobs : ℕ) (d : Result Decision Refusal) (out : List ℕ) {r q : Result ℕ Refusal} → r ≡ written_as (decision_text jobs d) out
    → q ≡ written_as (decision_text jobs d) out
    → r ≡ q
write-decision-unique jobs d out = only

pub write-decision-bytes-unique : (jobs : ℕ) (d : Result Decision Refusal) (out : List ℕ) {o p : List ℕ} → o ≡ written (decision_text jobs d) out
    → p ≡ written (decision_text jobs d) out
    → o ≡ p
write-decision-bytes-unique jobs d out = only

pub answer-unique : (s out : List ℕ) {r q : Result ℕ Refusal} → r ≡ written_as (calendar_output s) out → q ≡ written_as (calendar_output s) out → r ≡ q
answer-unique s out = only

pub answer-bytes-unique : (s out : List ℕ) {o p : List ℕ} → o ≡ written (calendar_output s) out → p ≡ written (calendar_output s) out → o ≡ p
answer-bytes-unique s out = only

pub answer-read-unique : (s : List ℕ) (n : ℕ) (out : List ℕ) {r q : ℕ} {o p : List ℕ}
    → (r ≡ length (calendar_output (take n s))) × (o ≡ written_whole (calendar_output (take n s)) out)
    → (q ≡ length (calendar_output (take n s))) × (p ≡ written_whole (calendar_output (take n s)) out)
    → (r ≡ q) × (o ≡ p)
answer-read-unique s n out = whole_unique (calendar_output (take n s)) out

-- ---- the refusal of a plan's text: nothing, or the refusal and the bytes of the line

pub refused-in-plan-unique : (s : List ℕ) (r q : Result Unit FaultyPart) → part_told r ≡ reported (settled_alone s) → part_told q ≡ reported (settled_alone s)
    → part_told r ≡ part_told q
refused-in-plan-unique s r q = only

-- and of its parts: the bytes of the line, and the two numbers
module _ (s : List ℕ) where
  pub refused-in-plan-part-unique : {r q : List ℕ} → r ≡ faulty_part (settled_alone s) → q ≡ faulty_part (settled_alone s) → r ≡ q
  refused-in-plan-part-unique = only

  pub refused-in-plan-number-unique : {n m : ℕ} → n ≡ refused_number (settled_alone s) → m ≡ refused_number (settled_alone s) → n ≡ m
  refused-in-plan-number-unique = only

  pub refused-in-plan-value-unique : {n m : ℕ} → n ≡ refused_value (settled_alone s) → m ≡ refused_value (settled_alone s) → n ≡ m
  refused-in-plan-value-unique = only
