-- A carried set as the code puts it on the next window, cell by cell: `on_next` from the side of the carried table.
use Rattle.std.specs.Prelude.{ℕ, ◌+◌, ◌*◌, ◌≤◌, ◌<◌, cond, List, eqb, ℤ, pos, ◌-ℤ◌, ◌≤ℤ◌}
use Rattle.plan.specs.Limits.{longest_window, most_jobs}
use Rattle.bounds.specs.Events.{nodes}
use Rattle.bounds.specs.Flat.{weight_at, Flat, put_at, each_node, AllTimesInRange, WeightInRange}
use Rattle.rounds.specs.Rounds.{shift_by}

-- the node on the next window of a node of one window; the origin stays
unfoldable pub onto : ℕ → ℕ → ℕ
onto jobs y = cond (eqb y 0) 0 (y + 2 * jobs)

-- 'Where a set is put on the next window, its bounds to and from the origin move by `window` too.'
abbrev pub next_at : List ℤ → List ℤ → ℕ → ℤ → List ℤ → ℕ → ℕ → List ℤ → Flat
next_at early late jobs window ts y z ws = put_at early late (onto jobs y) (onto jobs z) (weight_at ts y z) (shift_by window z -ℤ shift_by window y) ws

abbrev pub next_row : List ℤ → List ℤ → ℕ → ℤ → List ℤ → ℕ → List ℤ → Flat
next_row early late jobs window ts y = each_node (next_at early late jobs window ts y) 0 (nodes jobs)

abbrev pub next_rows : List ℤ → List ℤ → ℕ → ℤ → List ℤ → List ℤ → Flat
next_rows early late jobs window ts = each_node (next_row early late jobs window ts) 0 (nodes jobs)

-- what it takes: times in range, a window, and a carried table with its weights in range
pub record Nexts (early late : List ℤ) (jobs : ℕ) (window : ℤ) (ts : List ℤ) : Type 0 where
  pub times : AllTimesInRange early late
  pub jobs-most : jobs ≤ most_jobs
  pub window-least : pos 0 ≤ℤ window
  pub window-most : window ≤ℤ longest_window
  pub weighed : (y z : ℕ) → y < nodes jobs → z < nodes jobs → WeightInRange (weight_at ts y z)
