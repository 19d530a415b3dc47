-- What the export answers, and what the lent slice then holds: definitions alone. Then the laws: how that follows from a session's answer, and that no other
-- answer meets the promise.
-- ---- document 01
pub mod Entry
-- ---- laws
pub mod EntryLaws
pub mod Unique
