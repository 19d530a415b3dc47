-- The elimination of one event (document 01, 'Elimination'). The event is the last node of its table, and what remains is a table on the
-- nodes before it.
use Rattle.std.specs.Prelude.{ℕ, zero, suc, ◌+◌, Bool, true, false, eqb, neg_ℤ}
use Rattle.plan.specs.declared.Plan.{Plan}
use Rattle.bounds.specs.Events.{job_at, start_node, finish_node}
use Rattle.bounds.specs.Tables.{Cell, off, lesser_cell, plus, join, Rows, at, Set, contradiction, bounds, judged_set}

-- a made bound, where its pair is the one asked for
abbrev pub only_if : Bool → Cell → Cell
only_if true c = c
only_if false c = off

-- 'Eliminating a finish f of a job with start s: f - y <= w becomes s - y <= w - max; z - f <= w becomes z - s <= w + min.'
unfoldable pub finish_cell : Plan → ℕ → Rows → ℕ → ℕ → Cell
finish_cell p k t y z =
    let s = start_node k in
    let f = finish_node k in
    lesser_cell (at t y z)
    (lesser_cell (only_if (eqb z s) (plus (at t y f) (neg_ℤ (job_at p k).max)))
    (only_if (eqb y s) (plus (at t f z) (job_at p k).min)))

abbrev pub without_finish : Plan → ℕ → Rows → Set
without_finish p k t = judged_set p (finish_node k) (finish_cell p k t)

-- 'Eliminating a start s: each s - y <= w and z - s <= v give z - y <= w + v.'
unfoldable pub start_cell : ℕ → Rows → ℕ → ℕ → Cell
start_cell k t y z =
    let s = start_node k in
    lesser_cell (at t y z) (join (at t y s) (at t s z))

abbrev pub without_start : Plan → ℕ → Rows → Set
without_start p k t = judged_set p (start_node k) (start_cell k t)

-- ---- several events in a row

-- a contradiction stays one; of a table, what the next step makes of it
unfoldable pub then_set : Set → (Rows → Set) → Set
then_set contradiction f = contradiction
then_set (bounds t) f = f t

-- 'last job first, each finish before its start': the job at the last place
unfoldable pub without_place : Plan → ℕ → Rows → Set
without_place p k t = then_set (without_finish p k t) (without_start p k)

-- the last count places, of those from place low on
unfoldable pub eliminated : Plan → ℕ → ℕ → Rows → Set
eliminated p low zero t = bounds t
eliminated p low (suc count) t = then_set (without_place p (low + count) t) (eliminated p low count)
