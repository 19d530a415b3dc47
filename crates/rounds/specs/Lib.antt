-- Rounds and the verdict, as document 01 has them. In reading order: the bounds before judging, the rounds and the verdict, a text judged to its end; then
-- what the code works with: how it puts a window's own bounds, how it puts a carried set on the next window, and what it keeps of the rounds. These files
-- are definitions alone. The laws: two tables that compare as the same are the same; how the bounds are put; which node a name means; what the arrays of a
-- round hold; the weights of the rounds' tables are in range; one round as the code runs it; places beyond a plan's jobs and bounds do not matter.
-- ---- document 01
pub mod Given
pub mod Rounds
pub mod TextVerdict
-- ---- what the code works with
pub mod Put
pub mod Next
pub mod Settling
-- ---- laws
pub mod TextVerdictLaws
pub mod SameLaws
pub mod PutLaws
pub mod GivenLaws
pub mod NamedLaws
pub mod JoinedLaws
pub mod CarriedLaws
pub mod SettleLaws
pub mod PutGivenLaws
pub mod OnNextLaws
pub mod NextLaws
pub mod TrimmedLaws
