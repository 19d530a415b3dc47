-- Sets of events, as document 01 has them: their definitions, and then their laws.
-- ---- document 01
pub mod Bits
-- ---- laws
pub mod BitsLaws
pub mod Unique
