-- What all texts share, as document 01 has it. In reading order: the refusals with their numbers and printed lines, how a line is read and refused, a line
-- that is a key and a number, what is reported from an answer, and what a written slice holds. ReadAt is where the code's readers stand. These files are
-- definitions alone; the laws stand after them.
-- ---- document 01
pub mod Refusals
pub mod Reading
pub mod Keyed
pub mod Written
-- ---- what the code works with
pub mod Answers
pub mod ReadAt
-- ---- laws
pub mod RefusalLaws
pub mod ReadingLaws
pub mod ReadAtLaws
pub mod FormLaws
pub mod CountedLaws
pub mod PartLaws
pub mod KeyedLaws
pub mod WrittenLaws
pub mod Unique
