-- Sets of bounds as tables (document 01, 'Elimination': 'Every bound has the form z - y <= w'; 'For a pair (y, z) only the least w is
-- kept'). A table has a row for each node y and in it a cell for each node z.
use Rattle.std.specs.Prelude.{ℕ, zero, suc, Bool, true, false, cond, ◌&&◌, ◌||◌, List, [], ◌∷◌, eqb, ℤ, ◌+ℤ◌, get_or}
use Rattle.std.specs.Int.Signed.{le_z}
use Rattle.plan.specs.declared.Plan.{Plan}
use Rattle.bounds.specs.declared.Event.{Event}
use Rattle.bounds.specs.declared.Judgement.{Judgement}
use Rattle.bounds.specs.declared.Judgement.TheVariants.{Contradiction, LeftOut, Kept}
use Rattle.bounds.specs.Events.{event_of, node_of}
use Rattle.bounds.specs.Judgements.{judged}

-- ---- cells: no bound on the pair, or the least weight of it

pub data Cell : Type 0 where
  off : Cell
  upto : ℤ → Cell

-- 'only the least w is kept'
unfoldable pub lesser_cell : Cell → Cell → Cell
lesser_cell off d = d
lesser_cell (upto w) off = upto w
lesser_cell (upto w) (upto v) = cond (le_z w v) (upto w) (upto v)

-- a bound moved by a number
unfoldable pub plus : Cell → ℤ → Cell
plus off a = off
plus (upto w) a = upto (w +ℤ a)

-- two bounds in a row
unfoldable pub join : Cell → Cell → Cell
join off d = off
join (upto w) off = off
join (upto w) (upto v) = upto (w +ℤ v)

-- ---- tables

abbrev pub Rows : Type 0
Rows = List (List Cell)

-- the cell of z - y <= w
unfoldable pub at : Rows → ℕ → ℕ → Cell
at t y z = get_or (get_or t y []) z off

-- f 0 to f (k - 1)
unfoldable pub listed : {A : Type 0} → ℕ → (ℕ → A) → List A
listed zero f = []
listed (suc k) f = f 0 ∷ listed k (λ i. f (suc i))

-- the table on k nodes with the given cells
abbrev pub build : ℕ → (ℕ → ℕ → Cell) → Rows
build k f = listed k (λ y. listed k (λ z. f y z))

-- ---- bounds one by one

-- z - y <= w
pub record Between : Type 0 where
  pub y : Event
  pub z : Event
  pub w : ℤ

-- the least weight that a list of bounds gives to a pair of nodes
unfoldable pub least_of : List Between → ℕ → ℕ → Cell
least_of [] y z = off
least_of (b ∷ bs) y z =
    let others = least_of bs y z in
    cond (eqb (node_of b.y) y && eqb (node_of b.z) z) (lesser_cell (upto b.w) others) others

-- ---- judging: 'Every bound, given or made, is judged'

-- Of two bounds on one pair the lesser decides: where it is left out so is the greater, and where the greater is a contradiction so is
-- the lesser. So a cell is judged once, by its least weight.
unfoldable pub judgement : Plan → ℕ → ℕ → Cell → Judgement
judgement p y z off = LeftOut
judgement p y z (upto w) = judged p (event_of y) (event_of z) w

abbrev pub is_contradiction : Judgement → Bool
is_contradiction Contradiction = true
is_contradiction LeftOut = false
is_contradiction Kept = false

abbrev pub kept_cell : Judgement → Cell → Cell
kept_cell Contradiction c = off
kept_cell LeftOut c = off
kept_cell Kept c = c

-- whether a test holds of some number below k
unfoldable pub any_below : ℕ → (ℕ → Bool) → Bool
any_below zero f = false
any_below (suc k) f = f 0 || any_below k (λ i. f (suc i))

-- a set of bounds, judged: a contradiction, or the table of the bounds that are kept
pub data Set : Type 0 where
  contradiction : Set
  bounds : Rows → Set

unfoldable pub contradicts : Plan → ℕ → Rows → Bool
contradicts p k t = any_below k (λ y. any_below k (λ z. is_contradiction (judgement p y z (at t y z))))

unfoldable pub kept_rows : Plan → ℕ → Rows → Rows
kept_rows p k t = build k (λ y z. kept_cell (judgement p y z (at t y z)) (at t y z))

abbrev pub judged_rows : Plan → ℕ → Rows → Set
judged_rows p k t = cond (contradicts p k t) contradiction (bounds (kept_rows p k t))

unfoldable pub judged_set : Plan → ℕ → (ℕ → ℕ → Cell) → Set
judged_set p k f = judged_rows p k (build k f)
