-- The tables on which the code works: every bound in them was judged and is kept, and each event has its two bounds with the origin, which
-- only fall. So every weight lies in range.
use Rattle.std.specs.Prelude.{ℕ, ◌+◌, ◌≤◌, ◌<◌, ◌≡◌, ℤ, neg_ℤ, ◌≤ℤ◌, List, length}
use Rattle.plan.specs.declared.Plan.{Plan}
use Rattle.plan.specs.Accepted.{Accepted}
use Rattle.bounds.specs.declared.Judgement.TheVariants.{Kept}
use Rattle.bounds.specs.Events.{earliest, latest, event_of, nodes}
use Rattle.bounds.specs.Judgements.{judged}
use Rattle.bounds.specs.Tables.{Cell, upto, Rows, at}
use Rattle.bounds.specs.Spans.{Times}
use Rattle.bounds.specs.Flat.{AllTimesInRange, rows_of, cells}

-- a cell that holds a bound of at most w
pub record CellAtMost (c : Cell) (w : ℤ) : Type 0 where
  pub weight : ℤ
  pub held : c ≡ upto weight
  pub most : weight ≤ℤ w

-- a table on k nodes
pub record JudgedTable (p : Plan) (k : ℕ) (t : Rows) : Type 0 where
  pub kept : (y z : ℕ) (w : ℤ) → y < k → z < k → at t y z ≡ upto w → judged p (event_of y) (event_of z) w ≡ Kept
  pub above : (y : ℕ) → 0 < y → y < k → CellAtMost (at t 0 y) (latest p (event_of y))
  pub below : (y : ℕ) → 0 < y → y < k → CellAtMost (at t y 0) (neg_ℤ (earliest p (event_of y)))

-- two arrays that hold the times of an accepted plan, of both windows
pub record TimesHeld (p : Plan) (early late : List ℤ) : Type 0 where
  pub accepted : Accepted p
  pub times : Times p (nodes (p.jobs + p.jobs)) early late
  pub timed : AllTimesInRange early late

-- with these, an array that holds a table on so many of the plan's nodes: what the elimination of its last events rests on
pub record TableHeldFor (p : Plan) (early late : List ℤ) (k : ℕ) (ws : List ℤ) : Type 0 where
  pub times-held : TimesHeld p early late
  pub room : k ≤ nodes (p.jobs + p.jobs)
  pub size : length ws ≡ cells
  pub fit : JudgedTable p k (rows_of k ws)

-- and the same of some plan
pub record TableHeld (early late : List ℤ) (k : ℕ) (ws : List ℤ) : Type 0 where
  pub plan : Plan
  pub stands : TableHeldFor plan early late k ws
