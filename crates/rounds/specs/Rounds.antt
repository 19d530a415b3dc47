-- Rounds and the verdict (document 01, 'Elimination').
use Rattle.std.specs.Prelude.{ℕ, zero, suc, ◌+◌, ◌*◌, ◌-◌, Bool, true, false, cond, ◌&&◌, ◌||◌, List, [], ◌∷◌, eqb, leb, ℤ, pos, ◌-ℤ◌, Result, Ok, Err}
use Rattle.whole.specs.Split.{eq_z}
use Rattle.plan.specs.declared.Plan.{Plan}
use Rattle.lines.specs.declared.Refusal.{Refusal}
use Rattle.lines.specs.declared.Refusal.TheVariants as refusal
use Rattle.bounds.specs.Events.{nodes}
use Rattle.bounds.specs.Tables.{Cell, off, upto, lesser_cell, plus, Rows, at, least_of, Set, contradiction, bounds, judged_set}
use Rattle.bounds.specs.Elimination.{then_set, eliminated}
use Rattle.rounds.specs.declared.Verdict.{Verdict}
use Rattle.rounds.specs.declared.Verdict.TheVariants.{Settled, NoStrategy, Unsettled}
use Rattle.rounds.specs.Given.{own_bounds, between_bounds}

-- ---- one round

-- 'C(0) is one window's own bounds.'
unfoldable pub C0 : Plan → Set
C0 p = judged_set p (nodes p.jobs) (least_of (own_bounds p))

-- the nodes of this window's events; the next window's follow
abbrev pub own_nodes : Plan → ℕ
own_nodes p = 2 * p.jobs

abbrev pub is_own : Plan → ℕ → Bool
is_own p y = leb 1 y && leb y (own_nodes p)

-- by how much an event moves where its set is put on the next window; the origin stays
abbrev pub shift_by : ℤ → ℕ → ℤ
shift_by window y = cond (eqb y 0) (pos 0) window

abbrev pub shift_of : Plan → ℕ → ℤ
shift_of p = shift_by p.window

-- 'Where a set is put on the next window, its bounds to and from the origin move by `window` too.'
unfoldable pub on_next : Plan → Rows → ℕ → ℕ → Cell
on_next p t y z =
    let c = at t (y - own_nodes p) (z - own_nodes p) in
    cond (is_own p y || is_own p z) off (plus c (shift_of p z -ℤ shift_of p y))

-- 'put C(m-1) on the next window, C(0) on this one, add the bounds between'
unfoldable pub joined : Plan → Rows → Rows → Set
joined p c0 t =
    judged_set p (nodes (p.jobs + p.jobs)) (λ y z. lesser_cell (at c0 y z) (lesser_cell (on_next p t y z) (least_of (between_bounds p) y z)))

-- 'eliminate the next window's events, last job first, each finish before its start. C(m) is what remains on this window.'
unfoldable pub round : Plan → Rows → Rows → Set
round p c0 t = then_set (joined p c0 t) (eliminated p p.jobs p.jobs)

-- ---- the verdict

unfoldable pub same_cell : Cell → Cell → Bool
same_cell off off = true
same_cell off (upto v) = false
same_cell (upto w) off = false
same_cell (upto w) (upto v) = eq_z w v

unfoldable pub same_row : List Cell → List Cell → Bool
same_row [] [] = true
same_row [] (d ∷ ds) = false
same_row (c ∷ cs) [] = false
same_row (c ∷ cs) (d ∷ ds) = same_cell c d && same_row cs ds

-- 'C(m) = C(m-1)', as sets of bounds
unfoldable pub same_rows : Rows → Rows → Bool
same_rows [] [] = true
same_rows [] (d ∷ ds) = false
same_rows (c ∷ cs) [] = false
same_rows (c ∷ cs) (d ∷ ds) = same_row c d && same_rows cs ds

abbrev pub is_contradictory : Set → Bool
is_contradictory contradiction = true
is_contradictory (bounds t) = false

-- 'one window alone, with C(m-1), gives a contradiction when it is eliminated'
unfoldable pub fails_alone : Plan → Rows → Bool
fails_alone p t = is_contradictory (eliminated p 0 p.jobs t)

-- the verdict, with the settled set where there is one
pub data Outcome : Type 0 where
  settled : ℕ → Rows → Outcome
  no_strategy : ℕ → Outcome
  unsettled : Outcome

-- what one round decides: 'The least m with C(m) = C(m-1): settled=m'; 'First contradiction in round m: .. K = m, else K = m + 1'; or the
-- rounds after it
unfoldable pub decided : Plan → ℕ → Rows → Set → (Rows → Outcome) → Outcome
decided p m t contradiction later = no_strategy (cond (fails_alone p t) m (m + 1))
decided p m t (bounds u) later = let rest = later u in cond (same_rows t u) (settled m u) rest

-- so many rounds from round m on, with C(m-1); 'Neither in rounds 1 to `rounds`: unsettled.'
unfoldable pub rounds_from : Plan → Rows → ℕ → ℕ → Rows → Outcome
rounds_from p c0 m zero t = unsettled
rounds_from p c0 m (suc left) t = decided p m t (round p c0 t) (rounds_from p c0 (m + 1) left)

-- 'A contradiction in C(0) itself is K = 1.'
unfoldable pub outcome_from : Plan → Set → Outcome
outcome_from p contradiction = no_strategy 1
outcome_from p (bounds t) = rounds_from p t 1 p.rounds t

unfoldable pub outcome : Plan → Outcome
outcome p = outcome_from p (C0 p)

abbrev pub verdict_of : Plan → Outcome → Verdict
verdict_of p (settled m t) = Settled m
verdict_of p (no_strategy K) = NoStrategy K
verdict_of p unsettled = Unsettled p.rounds

abbrev pub verdict : Plan → Verdict
verdict p = verdict_of p (outcome p)

-- '4 | no strategy | K', '5 | unsettled | rounds'; so every answer states a verdict
abbrev pub verdict_told : Verdict → Result ℕ Refusal
verdict_told (Settled m) = Ok m
verdict_told (NoStrategy K) = Err (refusal.NoStrategy K)
verdict_told (Unsettled rounds) = Err (refusal.Unsettled rounds)
