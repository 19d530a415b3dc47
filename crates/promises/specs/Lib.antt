-- The front page of the proofs. In reading order: a case, the worked examples of document 01 as one list with one theorem, the readings of the
-- document where it leaves room, plans that tell right from nearly right, the table of refusals, faulty lines, and steps on values, as closed
-- cases; then what is promised of every plan and every run, what the printed bytes mean, and what ends a session.
-- ---- document 01
pub mod Case
pub mod Examples
pub mod Readings
pub mod NearlyRight
pub mod RefusalTable
pub mod FaultyLines
pub mod OnValues
-- ---- laws
pub mod ValueRuns
pub mod Demands
pub mod Printed
pub mod Worked
pub mod Endings
pub mod Uniqueness
