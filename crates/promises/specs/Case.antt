-- A case: a program, its standard input and its whole standard output, as quoted texts.
use Rattle.std.specs.Prelude.{ℕ, ◌≡◌, List, map}
use Prim.Native.String.{String}
use Rattle.text.specs.Bytes.{bytes}
use Rattle.text.specs.Lines.{len_to, after_key}
use Rattle.text.specs.Numbers.{all_digits, is_positive, is_number, digits_value, number_value, number_in, number_of, digits_before, decimal}
use Rattle.lines.specs.Refusals.{refused_line}
use Rattle.lines.specs.Reading.{next, lined, line, lined_number}
use Rattle.plan.specs.EventNames.{event_name, same_event}
use Rattle.plan.specs.PlanLines.{job_lines, jobs_after, bound_parts, is_given, is_wrong_pair, bound_of, bounds_after, plan_lines, plan_head, nothing_after}
use Rattle.bounds.specs.Events.{job_at, shift, earliest, latest, node_of, event_of}
use Rattle.bounds.specs.Judgements.{judged}
use Rattle.bounds.specs.Tables.{lesser_cell, plus, join, at, listed, least_of, judgement, any_below, contradicts, kept_rows, judged_set}
use Rattle.bounds.specs.Elimination.{finish_cell, start_cell, then_set, without_place, eliminated}
use Rattle.rounds.specs.Given.{given_bounds, ranges, orders, own_bounds, between_bounds}
use Rattle.rounds.specs.Rounds.{C0, on_next, joined, round, same_cell, same_row, same_rows, fails_alone, decided, rounds_from, outcome_from, outcome}
use Rattle.events.specs.Bits.{has_event, event_set, members_from}
use Rattle.calendars.specs.Calendars.{then_tables, before_starts, terms_of, least_cs, most_cs, all_terms, all_cs, calendar_of, calendar}
use Rattle.calendars.specs.CalendarText.{term_lines, job_text, job_texts, calendar_text, outcome_text, answered, calendar_output}
use Rattle.runs.specs.Seen.{job_seen, front_from}
use Rattle.runs.specs.Offers.{lower_terms, upper_terms, greatest, opening_at}
use Rattle.runs.specs.Offers as offers
use Rattle.runs.specs.Steps.{asked, started, finished, answer_at, closed, moved}
use Rattle.session.specs.StepRead.{time_step, finish_in, finish_step, start_in, start_step, step_in, step_line}
use Rattle.session.specs.AnswerText.{answer_line, ends_session}
use Rattle.session.specs.Sessions.{answered_step, after_step, dispatched_within, judged_session, session_of, dispatch_output}

pub data Program : Type 0 where
  Calendar : Program
  Dispatch : Program

pub record Case : Type 0 where
  pub program : Program
  pub input : String
  pub output : String

-- what a program prints
abbrev pub printed : Program → List ℕ → List ℕ
printed Calendar s = calendar_output s
printed Dispatch s = dispatch_output s

abbrev pub case_answer : Case → List ℕ
case_answer c = printed c.program (bytes c.input)

abbrev pub expected : Case → List ℕ
expected c = bytes c.output

-- each case's program prints just its output
abbrev pub Right : List Case → Type 0
Right cases = map case_answer cases ≡ map expected cases

-- Naming one of these on an `unfolding` line opens the definitions of a subject.

-- a plan's text, read
unfoldable pub reading : Type 0
unfolding bytes len_to after_key all_digits is_positive is_number digits_value number_value number_in number_of digits_before decimal refused_line next lined line
reading = Unit {0}

unfoldable pub reading_plans : Type 0
unfolding lined_number event_name same_event job_lines jobs_after bound_parts is_given is_wrong_pair bound_of bounds_after plan_lines plan_head nothing_after
reading_plans = Unit {0}

-- judgement and elimination
unfoldable pub eliminating : Type 0
unfolding job_at shift earliest latest node_of event_of judged lesser_cell plus join at listed least_of judgement any_below contradicts kept_rows judged_set
eliminating = Unit {0}

-- rounds and the verdict
unfoldable pub settling : Type 0
unfolding finish_cell start_cell then_set without_place eliminated given_bounds ranges orders own_bounds between_bounds C0 on_next joined round same_cell same_row
settling = Unit {0}

unfoldable pub deciding : Type 0
unfolding same_rows fails_alone decided rounds_from outcome_from outcome has_event event_set then_tables before_starts terms_of least_cs most_cs all_terms all_cs
deciding = Unit {0}

-- the calendar and its text
unfoldable pub printing : Type 0
unfolding calendar_of calendar term_lines job_text job_texts calendar_text outcome_text answered
printing = Unit {0}

-- offers and steps
unfoldable pub dispatching : Type 0
unfolding members_from lower_terms upper_terms greatest offers.least opening_at asked started closed finished answer_at job_seen front_from moved
dispatching = Unit {0}

-- a session's text: its steps, read, and their answers
unfoldable pub reading_steps : Type 0
unfolding time_step finish_in finish_step start_in start_step step_in step_line
reading_steps = Unit {0}

unfoldable pub answering : Type 0
unfolding answer_line ends_session answered_step after_step dispatched_within judged_session session_of
answering = Unit {0}

-- all of them: every definition between the input's bytes and the output's
unfoldable pub computing : Type 0
unfolding reading reading_plans eliminating settling deciding printing dispatching reading_steps answering
computing = Unit {0}
