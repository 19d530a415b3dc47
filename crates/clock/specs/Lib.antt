-- The two clocks and the way from one to the other, and the ranges in which the code takes it.
-- ---- document 01
pub mod Clock
-- ---- what the code works with
pub mod Spans
-- ---- laws
pub mod ClockLaws
