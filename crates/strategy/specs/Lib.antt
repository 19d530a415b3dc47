-- What a way to choose the starts is, from first principles. In reading order: histories, what a strategy is, and which runs are reached. These three are
-- definitions alone; then read `Theorems` of proofs/, where the laws stand: a wrong definition is refused by the proofs of them.
-- ---- documents 01 and 002
pub mod Histories
pub mod Strategies
pub mod Reaching
