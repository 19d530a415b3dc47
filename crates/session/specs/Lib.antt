-- Sessions, as document 01 has them. In reading order: steps read, answers printed, the dispatch program's output, and what ends a session. These files are
-- definitions alone; the laws stand after them.
-- ---- document 01
pub mod StepRead
pub mod AnswerText
pub mod Sessions
pub mod SessionRead
pub mod Taken
-- ---- what the code works with
pub mod StepAt
pub mod Settled
pub mod Decided
-- ---- laws
pub mod StepReadLaws
pub mod AnswerTextLaws
pub mod AnswerJobLaws
pub mod EndLaws
pub mod SessionLaws
pub mod TakenLaws
pub mod SessionReadLaws
pub mod AnswersLaws
pub mod PrintedLaws
pub mod DecidedLaws
pub mod SettledLaws
pub mod Unique
