-- Whole numbers. The code has them as i32 and i64, a contract as the kit's ℤ (`lib.IntN`, ordered in `lib.Signed`), and `omega` reads neither. This crate makes
-- it read ℤ: a whole number is split into two naturals, and rules turn what is said of whole numbers into what is said of those. Nothing here is code.
-- `Split` has the two parts, and `SplitLaws` each operation, order and test in terms of them. `Shape` says what a rule is, for sums and differences of any
-- shape, and `ShapeLaws` that every rule holds. `RuleTable` spells out the rules of the shapes that are common. `Rules` is what other crates use: the two sets
-- of them, `whole` and `wholes`, and how to call `omega` with them. `Order` has what the rules do not reach by themselves, `Widths` what an i32 is at 64 bits,
-- and `Examples` what to copy. `Clash` is the law that two constructors differ.
-- ---- what the code works with
pub mod Split
pub mod Shape
-- ---- laws
pub mod Clash
pub mod SplitLaws
pub mod ShapeLaws
pub mod RuleTable
pub mod Rules
pub mod Order
pub mod Widths
pub mod Examples
