-- A plan as a value. Three files are definitions alone: PlanJudged, the judgement line by line, without the text; PlanWriting, the plan judged and then
-- written; and Decisions, what is decided of it. Then the laws: that the judgement is that of the text, which is never too long; that a plan is judged good
-- exactly where it is accepted, and is then read again from its text; how the loops go; how a plan's text is written piece by piece; and that what is decided
-- is what the calendar program answers to its text.
-- ---- document 01
pub mod PlanWriting
pub mod Decisions
-- ---- what the code works with
pub mod PlanJudged
-- ---- laws
pub mod PlanWrittenLaws
pub mod JudgedLines
pub mod JudgedLength
pub mod JudgedLaws
pub mod JudgedWays
pub mod AgainLaws
pub mod WritingLaws
pub mod ValueLaws
pub mod ValueTextLaws
pub mod Unique
