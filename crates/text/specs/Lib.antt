-- Texts are lists of bytes. In reading order: quoted texts as bytes, lines and their parts, numbers, digits as the code reads them, and what a
-- lent slice holds after something was written into it. These files are definitions alone; the laws follow them.
-- ---- document 01
pub mod Bytes
pub mod Lines
pub mod Numbers
-- ---- what the code works with
pub mod DigitsRead
pub mod Lent
-- ---- laws
pub mod LineLaws
pub mod DigitLaws
pub mod NumberLaws
pub mod DigitsReadLaws
pub mod LentLaws
pub mod LeftLaws
pub mod Unique
