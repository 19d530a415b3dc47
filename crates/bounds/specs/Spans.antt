-- The judgement of a bound from numbers alone, as the code has them: the earliest and the latest of each node stand in two arrays.
use Rattle.std.specs.Prelude.{ℕ, ◌<◌, ◌≡◌, cond, List, eqb, ℤ, pos, neg_ℤ, ◌+ℤ◌, ◌-ℤ◌, ◌≤ℤ◌, get_or}
use Rattle.plan.specs.declared.Plan.{Plan}
use Rattle.plan.specs.Limits.{longest_window, longest_running, latest_deadline}
use Rattle.bounds.specs.declared.Event.{Event}
use Rattle.bounds.specs.declared.Event.TheVariants.{Origin, Start, Finish}
use Rattle.bounds.specs.declared.Judgement.{Judgement}
use Rattle.bounds.specs.Events.{earliest, latest, event_of, most_nodes}
use Rattle.bounds.specs.Judgements.{judged_same, at_least, from_origin, apart}

-- The judgement of z - y <= w by four differences: low is earliest(z) - latest(y), high is latest(z) - earliest(y), late is
-- latest(z) - latest(y), and early is earliest(z) - earliest(y). From a job's start to its finish late is max, and from its finish to its
-- start early is -min.
unfoldable pub judged_by : ℤ → ℤ → ℤ → ℤ → Event → Event → ℤ → Judgement
judged_by low high late early Origin Origin w = judged_same w
judged_by low high late early Origin (Start k) w = from_origin low w
judged_by low high late early Origin (Finish k) w = from_origin low w
judged_by low high late early (Start j) Origin w = from_origin low w
judged_by low high late early (Start j) (Start k) w = cond (eqb j k) (judged_same w) (apart low high w)
judged_by low high late early (Start j) (Finish k) w = cond (eqb j k) (at_least late w) (apart low high w)
judged_by low high late early (Finish j) Origin w = from_origin low w
judged_by low high late early (Finish j) (Start k) w = cond (eqb j k) (at_least early w) (apart low high w)
judged_by low high late early (Finish j) (Finish k) w = cond (eqb j k) (judged_same w) (apart low high w)

-- the time of a node in an array
abbrev pub time_of_node : List ℤ → ℕ → ℤ
time_of_node ts y = get_or ts y (pos 0)

-- the judgement of the bound z - y <= w between two nodes, by the arrays of earliest and latest
unfoldable pub judged_at : List ℤ → List ℤ → ℕ → ℕ → ℤ → Judgement
judged_at early late y z w =
    judged_by
    (time_of_node early z -ℤ time_of_node late y)
    (time_of_node late z -ℤ time_of_node early y)
    (time_of_node late z -ℤ time_of_node late y)
    (time_of_node early z -ℤ time_of_node early y)
    (event_of y)
    (event_of z)
    w

-- the arrays hold a plan's times, of the first k nodes
pub record Times (p : Plan) (k : ℕ) (early late : List ℤ) : Type 0 where
  pub earliest-at : (y : ℕ) → y < k → time_of_node early y ≡ earliest p (event_of y)
  pub latest-at : (y : ℕ) → y < k → time_of_node late y ≡ latest p (event_of y)

-- no earliest and no latest is farther from 0: the sums that make them have a release or a deadline, a running time, and the window of the next window's events
abbrev pub farthest_time : ℤ
farthest_time = (latest_deadline +ℤ longest_running) +ℤ longest_window

-- the times of an accepted plan's events lie in this range
pub record InRange (t : ℤ) : Type 0 where
  pub least : neg_ℤ farthest_time ≤ℤ t
  pub greatest : t ≤ℤ farthest_time

-- what it takes to judge a bound between two nodes
pub record TimesInRange (early late : List ℤ) (y : ℕ) : Type 0 where
  pub node : y < most_nodes
  pub early-in : InRange (time_of_node early y)
  pub late-in : InRange (time_of_node late y)
