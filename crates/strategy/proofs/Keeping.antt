-- When times keep a set of bounds. Times are a history's, read by event and by node; a set is its cells. These definitions serve the laws.
use Rattle.std.specs.Prelude.{ℕ, ◌+◌, ◌≤◌, ◌<◌, ◌≡◌, Bool, cond, ℤ, pos, neg_ℤ, ◌-ℤ◌, ◌≤ℤ◌, length}
use Rattle.plan.specs.declared.Job.{Job}
use Rattle.plan.specs.declared.Plan.{Plan}
use Rattle.bounds.specs.declared.Event.{Event}
use Rattle.bounds.specs.declared.Event.TheVariants.{Origin, Start, Finish}
use Rattle.bounds.specs.Events.{earliest, latest, event_of, nodes}
use Rattle.bounds.specs.Tables.{Cell, off, upto}
use Rattle.strategy.specs.Histories.{Ran, History, turn}
use Rattle.strategy.specs.Strategies.{ran_in}

-- ---- bounds z - y <= w

-- the difference x keeps the bound of a cell
abbrev pub Holds : Cell → ℤ → Type 0
Holds off x = Unit {0}
Holds (upto w) x = x ≤ℤ w

-- when an event was; the origin is time 0
abbrev pub when : History → Event → ℤ
when u Origin = pos 0
when u (Start k) = (ran_in u k).start
when u (Finish k) = (ran_in u k).finish

abbrev pub gap : History → ℕ → ℕ → ℤ
gap u y z = when u (event_of z) -ℤ when u (event_of y)

-- the times of u keep the cells f on the nodes below k
abbrev pub Keeps : ℕ → (ℕ → ℕ → Cell) → History → Type 0
Keeps k f u = (y z : ℕ) → y < k → z < k → Holds (f y z) (gap u y z)

-- ---- ranges

-- a running time between min and max
pub record RunsWithin (job : Job) (r : Ran) : Type 0 where
  pub least : job.min ≤ℤ (r.finish -ℤ r.start)
  pub most : (r.finish -ℤ r.start) ≤ℤ job.max

-- every running time of u is between min and max
abbrev pub RunsInside : Plan → History → Type 0
RunsInside p u = (k : ℕ) → k < length u → RunsWithin (turn p k) (ran_in u k)

-- the longest running time of a job, or the shortest
abbrev pub long_or_short : Bool → Job → ℤ
long_or_short long job = cond long job.max job.min

-- every job of u ran as long as it can, or every job as short
abbrev pub LongOrShort : Plan → Bool → History → Type 0
LongOrShort p long u = (k : ℕ) → k < length u → (ran_in u k).finish -ℤ (ran_in u k).start ≡ long_or_short long (turn p k)

-- an event lies between earliest and latest
pub record EventInRange (p : Plan) (u : History) (e : Event) : Type 0 where
  pub early : earliest p e ≤ℤ when u e
  pub late : when u e ≤ℤ latest p e

-- the bounds to and from the origin say at least that
pub record OriginBounded (p : Plan) (k : ℕ) (f : ℕ → ℕ → Cell) : Type 0 where
  pub above : (y : ℕ) → y < k → 0 < y → (x : ℤ) → Holds (f 0 y) x → x ≤ℤ latest p (event_of y)
  pub below : (y : ℕ) → y < k → 0 < y → (x : ℤ) → Holds (f y 0) x → x ≤ℤ neg_ℤ (earliest p (event_of y))

-- the nodes below k are of jobs that u has seen, in two windows
pub record NodesSeen (p : Plan) (k : ℕ) (u : History) : Type 0 where
  pub seen : k ≤ nodes (length u)
  pub two : k ≤ nodes (p.jobs + p.jobs)
