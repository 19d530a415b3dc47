-- A table as the code has it: one array, in which the cell of z - y <= w stands at y * side + z, and a mark stands where there is no bound.
-- What the code does to it, cell by cell, in the code's order.
use Rattle.std.specs.Prelude.{ℕ, zero, suc, ◌+◌, ◌*◌, ◌<◌, ◌≡◌, Bool, true, false, cond, not, List, [], ◌∷◌, ℤ, pos, neg_ℤ, ◌+ℤ◌, ◌≤ℤ◌, get_or, set, replicate}
use Rattle.std.specs.Int.Signed.{le_z}
use Rattle.std.specs.Int.{w32}
use Rattle.std.proofs.Common.{SFits}
use Rattle.whole.specs.Split.{eq_z}
use Rattle.plan.specs.Limits.{longest_window, longest_running, latest_deadline}
use Rattle.events.specs.declared.Events.{Events}
use Rattle.events.specs.Bits.{bits_of, has_event, event_set}
use Rattle.bounds.specs.declared.Judgement.{Judgement}
use Rattle.bounds.specs.declared.Judgement.TheVariants.{Contradiction, LeftOut, Kept}
use Rattle.bounds.specs.Events.{node_of, most_nodes}
use Rattle.bounds.specs.Tables.{Cell, off, upto, Rows, listed, build, Between, Set, contradiction, bounds}
use Rattle.bounds.specs.Spans.{judged_at, TimesInRange}

-- ---- the rows that an array holds

-- a row has a cell for each node, and a table a row
abbrev pub side : ℕ
side = most_nodes

abbrev pub cells : ℕ
cells = side * side

-- the mark for no bound: the greatest number that an i32 holds, which no bound comes near
abbrev pub mark_number : ℕ
mark_number = 2147483647

abbrev pub no_bound_mark : ℤ
no_bound_mark = pos mark_number

abbrev pub place : ℕ → ℕ → ℕ
place y z = y * side + z

abbrev pub weight_at : List ℤ → ℕ → ℕ → ℤ
weight_at ws y z = get_or ws (place y z) (pos 0)

unfoldable pub cell_of : ℤ → Cell
cell_of w = cond (eq_z w no_bound_mark) off (upto w)

abbrev pub cell_at : List ℤ → ℕ → ℕ → Cell
cell_at ws y z = cell_of (weight_at ws y z)

-- the rows of the first k nodes
abbrev pub rows_of : ℕ → List ℤ → Rows
rows_of k ws = build k (cell_at ws)

-- the set that an array holds on k nodes, where no contradiction was found
abbrev pub set_in : ℕ → Bool → List ℤ → Set
set_in k found ws = cond found contradiction (bounds (rows_of k ws))

-- ---- one bound put into an array

-- an array, and whether a contradiction was found
pub record Flat : Type 0 where
  pub found : Bool
  pub weights : List ℤ

abbrev pub flat : Bool → List ℤ → Flat
flat found ws = record { found = found; weights = ws }

abbrev pub stored : Judgement → ℕ → ℤ → List ℤ → Flat
stored Contradiction i w ws = flat true ws
stored LeftOut i w ws = flat false (set ws i no_bound_mark)
stored Kept i w ws = flat false (set ws i w)

-- z - y <= w, where that is less than what stands there
unfoldable pub kept_at : List ℤ → List ℤ → ℕ → ℕ → ℤ → List ℤ → Flat
kept_at early late y z w ws = cond (le_z (weight_at ws y z) w) (flat false ws) (stored (judged_at early late y z w) (place y z) w ws)

-- a bound v, where there is one, moved by a and put at z - y
unfoldable pub put_at : List ℤ → List ℤ → ℕ → ℕ → ℤ → ℤ → List ℤ → Flat
put_at early late y z v a ws = cond (eq_z v no_bound_mark) (flat false ws) (kept_at early late y z (v +ℤ a) ws)

-- what it takes to put a bound: a sum that fits
abbrev pub SumFits : ℤ → ℤ → Type 0
SumFits v a = eq_z v no_bound_mark ≡ false → SFits w32 (v +ℤ a)

-- what follows an array in which no contradiction was found
abbrev pub then_flat : Flat → (List ℤ → Flat) → Flat
then_flat r f = let rest = f r.weights in cond r.found r rest

-- a step at each of so many nodes from node y on, as long as no contradiction is found
unfoldable pub each_node : (ℕ → List ℤ → Flat) → ℕ → ℕ → List ℤ → Flat
each_node step y zero ws = flat false ws
each_node step y (suc count) ws = then_flat (step y ws) (each_node step (y + 1) count)

-- a list of bounds put one after the other
unfoldable pub put_bounds : List ℤ → List ℤ → List Between → List ℤ → Flat
put_bounds early late [] ws = flat false ws
put_bounds early late (b ∷ bs) ws =
    then_flat (put_at early late (node_of b.y) (node_of b.z) b.w (pos 0) ws) (put_bounds early late bs)

-- the array without a bound
abbrev pub no_bounds : List ℤ
no_bounds = replicate cells no_bound_mark

-- ---- a start s eliminated

-- the bound z - s, where s - y <= w, put at z - y
abbrev pub joined_at : List ℤ → List ℤ → ℕ → ℕ → ℤ → ℕ → List ℤ → Flat
joined_at early late s y w z ws = put_at early late y z (weight_at ws s z) w ws

abbrev pub joined_cells : List ℤ → List ℤ → ℕ → ℕ → ℤ → List ℤ → Flat
joined_cells early late s y w = each_node (joined_at early late s y w) 0 s

abbrev pub is_bound : ℤ → Bool
is_bound w = not (eq_z w no_bound_mark)

abbrev pub is_bounded : List ℤ → ℕ → ℕ → Bool
is_bounded ws s z = is_bound (weight_at ws s z)

-- the nodes z before s for which z - s has a bound; and that a set has of the nodes before s just these
abbrev pub bounded_nodes : List ℤ → ℕ → ℕ
bounded_nodes ws s = event_set (listed s (is_bounded ws s))

abbrev pub HasBounded : List ℤ → ℕ → Events → Type 0
HasBounded ws s set = (z : ℕ) → z < s → has_event z (bits_of set) ≡ is_bounded ws s z

-- the bounds through s of row y, where s - y has a bound
unfoldable pub joined_row : List ℤ → List ℤ → ℕ → ℕ → List ℤ → Flat
joined_row early late s y ws =
    let w = weight_at ws y s in
    cond (eq_z w no_bound_mark) (flat false ws) (joined_cells early late s y w ws)

abbrev pub joined_rows : List ℤ → List ℤ → ℕ → List ℤ → Flat
joined_rows early late s = each_node (joined_row early late s) 0 s

-- ---- a finish f eliminated, whose start is s

-- its bounds with node y: f - y moved by less, which is -max, and y - f moved by more, which is min
unfoldable pub moved_at : List ℤ → List ℤ → ℕ → ℕ → ℤ → ℤ → ℕ → List ℤ → Flat
moved_at early late s f less more y ws =
    then_flat (put_at early late y s (weight_at ws y f) less ws) (λ us. put_at early late s y (weight_at us f y) more us)

abbrev pub moved_rows : List ℤ → List ℤ → ℕ → ℕ → ℤ → ℤ → List ℤ → Flat
moved_rows early late s f less more = each_node (moved_at early late s f less more) 0 f

-- ---- what the sums of a table's weights rest on

-- no bound that is kept is greater: it is at most latest(z) - earliest(y), and the latest is at most a deadline of the next window
abbrev pub greatest_weight : ℤ
greatest_weight = latest_deadline +ℤ longest_window

-- a weight is the mark, or lies in this range
pub record WeightInRange (w : ℤ) : Type 0 where
  pub least : eq_z w no_bound_mark ≡ false → neg_ℤ greatest_weight ≤ℤ w
  pub greatest : eq_z w no_bound_mark ≡ false → w ≤ℤ greatest_weight

-- by how much bounds move: those of a finish by a running time, and those that are put on the next window by a window, which is at most as long
pub record MoveInRange (a : ℤ) : Type 0 where
  pub least : neg_ℤ longest_running ≤ℤ a
  pub greatest : a ≤ℤ longest_running

abbrev pub AllTimesInRange : List ℤ → List ℤ → Type 0
AllTimesInRange early late = (y : ℕ) → y < most_nodes → TimesInRange early late y

-- what each function of the elimination of the start s rests on: times in range, and weights in range in row s and in column s
pub record JoinsCells (early late : List ℤ) (s : ℕ) (set : Events) (y : ℕ) (w : ℤ) (ws : List ℤ) : Type 0 where
  pub times : AllTimesInRange early late
  pub node : s < most_nodes
  pub before : y < s
  pub bounded : HasBounded ws s set
  pub on : eq_z w no_bound_mark ≡ false
  pub weighed : WeightInRange w
  pub row : (z : ℕ) → z < s → WeightInRange (weight_at ws s z)

pub record JoinsRow (early late : List ℤ) (s : ℕ) (set : Events) (y : ℕ) (ws : List ℤ) : Type 0 where
  pub times : AllTimesInRange early late
  pub node : s < most_nodes
  pub before : y < s
  pub bounded : HasBounded ws s set
  pub weighed : WeightInRange (weight_at ws y s)
  pub row : (z : ℕ) → z < s → WeightInRange (weight_at ws s z)

pub record JoinsRows (early late : List ℤ) (s : ℕ) (ws : List ℤ) : Type 0 where
  pub times : AllTimesInRange early late
  pub node : s < most_nodes
  pub column : (y : ℕ) → y < s → WeightInRange (weight_at ws y s)
  pub row : (z : ℕ) → z < s → WeightInRange (weight_at ws s z)

-- and the same of the finish f of the start s
pub record MovesAt (early late : List ℤ) (s f : ℕ) (less more : ℤ) (y : ℕ) (ws : List ℤ) : Type 0 where
  pub times : AllTimesInRange early late
  pub node : f < most_nodes
  pub order : s < f
  pub before : y < f
  pub less_moves : MoveInRange less
  pub more-moves : MoveInRange more
  pub column : WeightInRange (weight_at ws y f)
  pub row : WeightInRange (weight_at ws f y)

pub record MovesRows (early late : List ℤ) (s f : ℕ) (less more : ℤ) (ws : List ℤ) : Type 0 where
  pub times : AllTimesInRange early late
  pub node : f < most_nodes
  pub order : s < f
  pub less_moves : MoveInRange less
  pub more-moves : MoveInRange more
  pub column : (y : ℕ) → y < f → WeightInRange (weight_at ws y f)
  pub row : (z : ℕ) → z < f → WeightInRange (weight_at ws f z)
