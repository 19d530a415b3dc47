-- Elimination, as document 01 has it. In reading order: events with their earliest and latest, the judgement of a bound, tables of bounds, the
-- elimination of one event; then what the code works with: times and tables in arrays. These files are definitions alone, and the laws follow.
-- ---- document 01
pub mod Events
pub mod Judgements
pub mod Tables
pub mod Elimination
-- ---- what the code works with
pub mod Spans
pub mod Flat
pub mod Held
-- ---- laws
pub mod BuildLaws
pub mod EventsLaws
pub mod JudgementsLaws
pub mod TablesLaws
pub mod SpansLaws
pub mod FlatLaws
pub mod PutLaws
pub mod StartLaws
pub mod FinishLaws
pub mod JudgedTableLaws
pub mod TimesHeldLaws
pub mod PlacesLaws
pub mod TableHeldLaws
pub mod LeadsToLaws
pub mod BoundsLaws
pub mod FillLaws
pub mod EventTimesLaws
