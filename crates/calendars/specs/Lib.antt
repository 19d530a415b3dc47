-- The calendar, as document 01 has it. In reading order: the calendar, and the calendar program's output; then how the code reads one side of a start.
-- These files are definitions alone. The laws: of the calendar, of its text, of what is decided; and places beyond a plan's jobs and bounds do not matter.
-- ---- document 01
pub mod Calendars
pub mod CalendarText
-- ---- what the code works with
pub mod Recorded
-- ---- laws
pub mod CalendarTextLaws
pub mod RecordedLaws
pub mod CalendarsLaws
pub mod DecisionsLaws
pub mod ToldLaws
pub mod RefusedLaws
pub mod TrimmedLaws
pub mod Unique
