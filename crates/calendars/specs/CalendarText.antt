-- The calendar program's output (document 01, 'Offers and runs': 'Calendar program: standard input is a plan; it prints ..').
use Rattle.std.specs.Prelude.{ℕ, zero, suc, ◌+◌, ◌*◌, ◌-◌, ◌/◌, ◌%◌, cond, List, [], ◌∷◌, ◌++◌, eqb, ltb, ℤ, pos, get_or, Result, Ok, Err}
use Rattle.text.specs.Bytes.{bytes}
use Rattle.text.specs.Lines.{LF, comma}
use Rattle.text.specs.Numbers.{decimal, digits}
use Rattle.plan.specs.declared.Plan.{Plan}
use Rattle.lines.specs.Refusals.{refused_line}
use Rattle.lines.specs.Reading.{Reading, read, refused}
use Rattle.plan.specs.PlanLines.{plan_alone}
use Rattle.lines.specs.Keyed.{keyed}
use Rattle.calendars.specs.declared.Terms.{Terms}
use Rattle.calendars.specs.declared.Calendar.{Calendar}
use Rattle.calendars.specs.declared.Decision.{Decision}
use Rattle.lines.specs.declared.Refusal.{Refusal}
use Rattle.rounds.specs.Rounds.{Outcome, outcome}
use Rattle.events.specs.Bits.{bits_of, has_event, most_events}
use Rattle.calendars.specs.Calendars.{events_ahead, no_terms, decision}

-- ---- the events' names: 'p events (previous window) before t events, by job, s before f'. jobs is the plan's count of jobs.

abbrev pub event_letter : ℕ → ℕ → ℕ
event_letter jobs e = cond (ltb e (2 * jobs)) 112 116

abbrev pub event_kind : ℕ → ℕ
event_kind e = cond (eqb (e % 2) 0) 115 102

-- the job of an event, from 1
abbrev pub event_job : ℕ → ℕ → ℕ
event_job jobs e = cond (ltb e (2 * jobs)) (e / 2) ((e - 2 * jobs) / 2) + 1

abbrev pub event_bytes : ℕ → ℕ → List ℕ
event_bytes jobs e = event_letter jobs e ∷ event_kind e ∷ digits (event_job jobs e)

-- ---- lines

-- '`atleast=E,c` (start >= E + c) and `atmost=E,c` (start <= E + c) lines'
abbrev pub term_line : ℕ → List ℕ → ℕ → ℤ → List ℕ
term_line jobs key e c = key ++ (event_bytes jobs e ++ (comma ∷ (decimal c ++ (LF ∷ []))))

-- those of a set of events, of count events from event e on; cs are all c of the side, and row is the first place of the job's row
unfoldable pub term_lines : ℕ → List ℕ → ℕ → List ℤ → ℕ → ℕ → ℕ → List ℕ
term_lines jobs key set cs row e zero = []
term_lines jobs key set cs row e (suc count) =
    cond (has_event e set) (term_line jobs key e (get_or cs (row + e) (pos 0))) [] ++ term_lines jobs key set cs row (suc e) count

-- 'then for each job `job=`, `low=`, `high=` (own window clock)': the job at place i
abbrev pub job_head : ℕ → Terms → List ℕ
job_head i t = keyed (bytes "job=") (pos (i + 1)) (keyed (bytes "low=") t.low.0 (keyed (bytes "high=") t.high.0 []))

-- 'then `atleast=E,c` .. and `atmost=E,c` .. lines'
unfoldable pub job_text : ℕ → ℕ → Terms → List ℤ → List ℤ → List ℕ
job_text jobs i t least most =
    job_head i t
    ++ (term_lines jobs (bytes "atleast=") (bits_of t.below) least (i * most_events) 0 (events_ahead jobs i)
    ++ term_lines jobs (bytes "atmost=") (bits_of t.above) most (i * most_events) 0 (events_ahead jobs i))

-- count jobs from the one at place i on
unfoldable pub job_texts : ℕ → Calendar → ℕ → ℕ → List ℕ
job_texts jobs c i zero = []
job_texts jobs c i (suc count) =
    job_text jobs i (get_or c.terms i no_terms) c.at_least c.at_most ++ job_texts jobs c (suc i) count

-- 'it prints `settled=`, then for each job ..'
unfoldable pub calendar_text : ℕ → ℕ → Calendar → List ℕ
calendar_text jobs m c = keyed (bytes "settled=") (pos m) (job_texts jobs c 0 jobs)

-- ---- how long it is

-- a line of at most 8 bytes of key, 20 of number and the LF; and one with the name of an event, of at most 22 bytes, and a comma before the number
abbrev pub most_line_bytes : ℕ
most_line_bytes = 8 + 20 + 1

abbrev pub most_term_bytes : ℕ
most_term_bytes = 8 + 22 + 1 + 20 + 1

-- a job has three lines, and on either side a line for each event before its start: at most all events of two windows but the last job's two
abbrev pub most_head_bytes : ℕ
most_head_bytes = 3 * most_line_bytes

abbrev pub most_job_bytes : ℕ
most_job_bytes = most_head_bytes + 2 * (most_term_bytes * (most_events - 2))

-- a round number that is enough for the line of the round and all jobs, as the contract of `put_calendar` says
abbrev pub most_calendar_bytes : ℕ
most_calendar_bytes = 32768

-- ---- the program: from the bytes of the input to those of the output

-- the text of what is decided, for so many jobs: 'it prints `settled=`, then for each job ..', or 'refused=N,D'
abbrev pub decision_text : ℕ → Result Decision Refusal → List ℕ
decision_text jobs (Ok d) = calendar_text jobs d.round d.calendar
decision_text jobs (Err x) = refused_line x

unfoldable pub outcome_text : Plan → Outcome → List ℕ
outcome_text p o = decision_text p.jobs (decision p o)

unfoldable pub answered : Reading Plan → List ℕ
answered (read p s n) = outcome_text p (outcome p)
answered (refused r part) = refused_line r

abbrev pub calendar_output : List ℕ → List ℕ
calendar_output s = answered (plan_alone s)
