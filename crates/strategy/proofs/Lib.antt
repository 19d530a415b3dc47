-- That the verdict and the offers of document 01 answer exactly what specs/ says of a way to choose the starts. Read `Theorems` first.
-- ---- laws
-- what the laws use of an accepted plan
pub mod AcceptedLaws
-- times that keep a set of bounds: cells, judgements, judged sets, and the two lemmas of 002
pub mod Keeping
pub mod CellLaws
pub mod JudgementLaws
pub mod SetLaws
pub mod EliminationLaws
-- games, and elimination as a game
pub mod HistoryLaws
pub mod PlaceLaws
-- the plan's bounds: as lists, on one window and the next, over a history
pub mod GivenLaws
pub mod WindowLaws
pub mod SeenLaws
pub mod KeptLaws
-- rounds
pub mod JoinedLaws
pub mod RoundLaws
-- from the beginning: one window alone, and the verdict
pub mod BeginLaws
pub mod AloneLaws
pub mod FirstLaws
pub mod VerdictLaws
-- offers and runs
pub mod StageLaws
pub mod OfferLaws
pub mod GameLaws
pub mod RunLaws
pub mod TimeLaws
pub mod ReachingLaws
pub mod WinningLaws
pub mod ShowsLaws
pub mod ReachedLaws
-- what is to be read first
pub mod Theorems
