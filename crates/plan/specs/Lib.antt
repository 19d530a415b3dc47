-- Plans, as document 01 has them. In reading order: the limits of the plan's numbers, the names of events, a plan's text read, a plan's text written, and
-- what an accepted plan is. These files are definitions alone; the laws stand after them. Refusals and lines are of the crate `lines`.
-- ---- document 01
pub mod Limits
pub mod EventNames
pub mod PlanLines
pub mod PlanWritten
pub mod Accepted
-- ---- what the code works with
pub mod Pairs
pub mod BoundNames
pub mod PlanAnswers
pub mod ReadAt
-- ---- laws
pub mod EventNameLaws
pub mod ListLaws
pub mod PairLaws
pub mod BoundLaws
pub mod PlanLaws
pub mod PlanFormLaws
pub mod PlanPartLaws
pub mod PlanCountedLaws
pub mod NarrowLaws
pub mod ReadAtLaws
pub mod JobsLoop
pub mod BoundsLoop
pub mod HeadLaws
pub mod Unique
