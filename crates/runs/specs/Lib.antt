-- Runs, as document 01 has them: what a run has seen, the limits of what is passed in as a value, the offer, and the steps with the order of their
-- refusals. Then what the code works with: an end by picking, and the ranges in which nothing wraps. These files are definitions alone; the laws stand
-- after them.
-- ---- document 01
pub mod Seen
pub mod ValueLimits
pub mod Offers
pub mod Steps
-- ---- what the code works with
pub mod Ends
pub mod Inside
-- ---- laws
pub mod TestLaws
pub mod SeenLaws
pub mod EndLaws
pub mod LimitLaws
pub mod StepLaws
pub mod ValueStepLaws
pub mod InsideLaws
pub mod AnswerLaws
pub mod StepEffectLaws
pub mod OfferLaws
pub mod KeepsLaws
pub mod MadeLaws
pub mod Unique
