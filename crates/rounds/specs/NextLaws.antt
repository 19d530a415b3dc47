-- Put cell by cell, a carried table leads to the set that is judged with `on_next`.
use Rattle.std.specs.Prelude.{ℕ, ◌+◌, ◌-◌, ◌≤◌, ◌<◌, ◌≡◌, refl, ◌⊎◌, Bool, true, false, cond, List, eqb, ltb, ℤ, pos, ◌-ℤ◌, ◌≤ℤ◌}
use Rattle.std.proofs.Common.{sym, ap, ap₂, ◌∙◌, inl, inr, ⊎_elim, arith, lt-ltb, le-ltb, ltb-true, ltb-false}
use Rattle.whole.specs.Rules.{wholes}
use Rattle.plan.specs.declared.Plan.{Plan}
use Rattle.plan.specs.Limits.{longest_window}
use Rattle.plan.specs.Accepted.{Accepted}
use Rattle.bounds.specs.Events.{nodes}
use Rattle.bounds.specs.Tables.{Cell, off, lesser_cell, plus, Set, contradiction, bounds}
use Rattle.bounds.specs.BuildLaws.{at-build}
use Rattle.bounds.specs.TablesLaws.{lesser_cell-off, judged_set-ext}
use Rattle.bounds.specs.Spans.{Times}
use Rattle.bounds.specs.Flat.{place, weight_at, cell_of, cell_at, rows_of, MoveInRange, WeightInRange}
use Rattle.bounds.specs.FlatLaws.{FlatOutcome, each_node-outcome}
use Rattle.bounds.specs.StartLaws.{place-one}
use Rattle.bounds.specs.LeadsToLaws.{LeadsTo, put_at-leads-to, leads-to-end}
use Rattle.bounds.specs.FinishLaws.{moved-low}
use Rattle.bounds.specs.JudgedTableLaws.{ShiftInRange}
use Rattle.bounds.specs.TimesHeldLaws.{nodes-room}
use Rattle.rounds.specs.Rounds.{own_nodes, is_own, shift_by, on_next}
use Rattle.rounds.specs.Next.{onto, next_at, next_row, next_rows}
use Rattle.rounds.specs.OnNextLaws.{onto-below, onto-back, on_next-onto, on_next-own, own-or-next}

-- ---- by how much a bound moves

-- a node moves by 0 or by a window
pub shift_by-in : (window : ℤ) (y : ℕ) → pos 0 ≤ℤ window → window ≤ℤ longest_window → ShiftInRange (shift_by window y)
shift_by-in window y h l = by (eqb y 0)
  where
    by : (b : Bool) → ShiftInRange (cond b (pos 0) window)
    by true = record { least = omega wholes; greatest = omega wholes }
    by false = record { least = h; greatest = l }

pub shift-moving : (a b : ℤ) → ShiftInRange a → ShiftInRange b → MoveInRange (a -ℤ b)
shift-moving a b h l = record { least = omega wholes; greatest = omega wholes }

-- ---- cell by cell

module _ (p : Plan) (early late : List ℤ) (times : Times p (nodes (p.jobs + p.jobs)) early late) (accepted : Accepted p) (set : Set) (ts : List ℤ)
    (weighed : (y z : ℕ) → y < nodes p.jobs → z < nodes p.jobs → WeightInRange (weight_at ts y z)) where
  -- what is still to be put, once the cells before place n of the carried table are
  abbrev rest_from : ℕ → ℕ → ℕ → Cell
  rest_from n u x = cond (ltb (place (u - own_nodes p) (x - own_nodes p)) n) off (on_next p (rows_of (nodes p.jobs) ts) u x)

  abbrev Stage : ℕ → List ℤ → Type 0
  Stage n us = LeadsTo p (nodes (p.jobs + p.jobs)) (rest_from n) set us

  put-off : (n u x : ℕ) → place (u - own_nodes p) (x - own_nodes p) < n → rest_from n u x ≡ off
  put-off n u x h = rw (lt-ltb (place (u - own_nodes p) (x - own_nodes p)) n h)

  put_on : (n u x : ℕ) → n ≤ place (u - own_nodes p) (x - own_nodes p) → rest_from n u x ≡ on_next p (rows_of (nodes p.jobs) ts) u x
  put_on n u x h = rw (le-ltb (place (u - own_nodes p) (x - own_nodes p)) n h)

  own-off : (n u x : ℕ) → (is_own p u ≡ true) ⊎ (is_own p x ≡ true) → rest_from n u x ≡ off
  own-off n u x h = by (ltb (place (u - own_nodes p) (x - own_nodes p)) n)
    where
      by : (b : Bool) → cond b off (on_next p (rows_of (nodes p.jobs) ts) u x) ≡ off
      by true = refl
      by false = on_next-own p (rows_of (nodes p.jobs) ts) u x h

  -- the cell of (y, z) is the only one that the step from its place to the next changes
  elsewhere : (y z : ℕ) → z < nodes p.jobs → (u x : ℕ) → x < nodes (p.jobs + p.jobs)
      → (place u x ≡ place (onto p.jobs y) (onto p.jobs z) → ⊥)
      → rest_from (place y z) u x ≡ rest_from (place y (z + 1)) u x
  elsewhere y z l u x h n =
      ⊎_elim (λ a. own-off (place y z) u x (inl a) ∙ sym (own-off (place y (z + 1)) u x (inl a)))
      (λ a.
      ⊎_elim (λ b. own-off (place y z) u x (inr b) ∙ sym (own-off (place y (z + 1)) u x (inr b)))
      (λ b. by a b (ltb (place (u - own_nodes p) (x - own_nodes p)) (place y z)) refl (ltb (place (u - own_nodes p) (x - own_nodes p)) (place y (z + 1))) refl)
      (own-or-next p x))
      (own-or-next p u)
    where
      by : u ≡ onto p.jobs (u - own_nodes p) → x ≡ onto p.jobs (x - own_nodes p)
          → (b : Bool) → ltb (place (u - own_nodes p) (x - own_nodes p)) (place y z) ≡ b
          → (c : Bool) → ltb (place (u - own_nodes p) (x - own_nodes p)) (place y (z + 1)) ≡ c
          → rest_from (place y z) u x ≡ rest_from (place y (z + 1)) u x
      by a b true e c f =
          let low : place (u - own_nodes p) (x - own_nodes p) < place y z = ltb-true _ _ e in
          put-off (place y z) u x low ∙ sym (put-off (place y (z + 1)) u x (omega arith))
      by a b false e false f = put_on (place y z) u x (ltb-false _ _ e) ∙ sym (put_on (place y (z + 1)) u x (ltb-false _ _ f))
      by a b false e true f =
          let low : place y z ≤ place (u - own_nodes p) (x - own_nodes p) = ltb-false _ _ e in
          let high : place (u - own_nodes p) (x - own_nodes p) < place y (z + 1) = ltb-true _ _ f in
          let room = nodes-room accepted in
          let one = place-one (u - own_nodes p) (x - own_nodes p) y z (omega arith) (omega arith) (omega arith) in
          absurd (n (ap₂ place (a ∙ ap (onto p.jobs) one.0) (b ∙ ap (onto p.jobs) one.1)))

  cell-stage : (y z : ℕ) → y < nodes p.jobs → z < nodes p.jobs → (us : List ℤ) → Stage (place y z) us
      → FlatOutcome (Stage (place y (z + 1))) (set ≡ contradiction) (next_at early late p.jobs p.window ts y z us)
  cell-stage y z h l us g =
      let room = nodes-room accepted in
      let a = shift_by p.window z -ℤ shift_by p.window y in
      let least-window = accepted.window-least in
      let most-window = accepted.window-most in
      let moves : MoveInRange a = shift-moving (shift_by p.window z) (shift_by p.window y) (shift_by-in p.window z (omega wholes) (omega wholes))
      (shift_by-in p.window y (omega wholes) (omega wholes)) in
      let same : place (onto p.jobs y - own_nodes p) (onto p.jobs z - own_nodes p) ≡ place y z = ap₂ place (onto-back p y) (onto-back p z) in
      let cell = plus (cell_of (weight_at ts y z)) a in
      put_at-leads-to p (nodes (p.jobs + p.jobs)) early late times room set us (rest_from (place y (z + 1))) (rest_from (place y z)) g (onto p.jobs y)
      (onto p.jobs z)
      (onto-below p.jobs y (nodes (p.jobs + p.jobs)) (omega arith))
      (onto-below p.jobs z (nodes (p.jobs + p.jobs)) (omega arith))
      (weight_at ts y z)
      a
      (moved-low (weight_at ts y z) a (weighed y z h l) moves)
      (put_on (place y z) (onto p.jobs y) (onto p.jobs z) (omega (arith, same))
      ∙ on_next-onto p (rows_of (nodes p.jobs) ts) y z
      ∙ ap (λ c. plus c a) (at-build (nodes p.jobs) (cell_at ts) y z h l)
      ∙ sym (ap (lesser_cell cell) (put-off (place y (z + 1)) (onto p.jobs y) (onto p.jobs z) (omega (arith, same))) ∙ lesser_cell-off cell))
      (λ u x m q n. elsewhere y z l u x q n)

  -- where the same is left, an array leads to the same set
  stage-same : (n m : ℕ) (us : List ℤ) → ((u x : ℕ) → u < nodes (p.jobs + p.jobs) → x < nodes (p.jobs + p.jobs) → rest_from n u x ≡ rest_from m u x)
      → Stage n us → Stage m us
  stage-same n m us e g =
      record {
        len = g.len;
        kept = g.kept;
        leads = g.leads ∙ judged_set-ext p (nodes (p.jobs + p.jobs)) _ _ (λ u x a b. ap (lesser_cell (cell_at us u x)) (e u x a b));
      }

  row-end : (y u x : ℕ) → x < nodes (p.jobs + p.jobs) → rest_from (place y (nodes p.jobs)) u x ≡ rest_from (place (y + 1) 0) u x
  row-end y u x h = by (ltb (place (u - own_nodes p) (x - own_nodes p)) (place y (nodes p.jobs))) refl
    where
      by : (b : Bool) → ltb (place (u - own_nodes p) (x - own_nodes p)) (place y (nodes p.jobs)) ≡ b
          → rest_from (place y (nodes p.jobs)) u x ≡ rest_from (place (y + 1) 0) u x
      by true e =
          let room = nodes-room accepted in
          let low : place (u - own_nodes p) (x - own_nodes p) < place y (nodes p.jobs) = ltb-true _ _ e in
          put-off (place y (nodes p.jobs)) u x low ∙ sym (put-off (place (y + 1) 0) u x (omega arith))
      by false e =
          let room = nodes-room accepted in
          let low : place y (nodes p.jobs) ≤ place (u - own_nodes p) (x - own_nodes p) = ltb-false _ _ e in
          put_on (place y (nodes p.jobs)) u x low ∙ sym (put_on (place (y + 1) 0) u x (omega arith))

  row-stage : (y : ℕ) (us : List ℤ) → y < nodes p.jobs → Stage (place y 0) us
      → FlatOutcome (Stage (place (y + 1) 0)) (set ≡ contradiction) (next_row early late p.jobs p.window ts y us)
  row-stage y us h g =
      let o = each_node-outcome (next_at early late p.jobs p.window ts y) (nodes p.jobs) (λ z us. Stage (place y z) us) (set ≡ contradiction)
      (λ z us l g. cell-stage y z h l us g)
      0
      (nodes p.jobs)
      (omega arith)
      us
      g in
      record { fails = o.fails; keeps = λ f. stage-same (place y (nodes p.jobs)) (place (y + 1) 0) _ (λ u x a b. row-end y u x b) (o.keeps f) }

  pub next_rows-outcome : (ws : List ℤ) → LeadsTo p (nodes (p.jobs + p.jobs)) (on_next p (rows_of (nodes p.jobs) ts)) set ws
      → FlatOutcome (λ us. set ≡ bounds (rows_of (nodes (p.jobs + p.jobs)) us)) (set ≡ contradiction) (next_rows early late p.jobs p.window ts ws)
  next_rows-outcome ws t =
      let room = nodes-room accepted in
      let o = each_node-outcome (next_row early late p.jobs p.window ts) (nodes p.jobs) (λ y us. Stage (place y 0) us) (set ≡ contradiction)
      (λ y us h g. row-stage y us h g)
      0
      (nodes p.jobs)
      (omega arith)
      ws
      (record {
        len = t.len;
        kept = t.kept;
        leads =
            t.leads
            ∙ judged_set-ext p (nodes (p.jobs + p.jobs)) _ _ (λ u x a b. ap (lesser_cell (cell_at ws u x)) (sym (put_on (place 0 0) u x (omega arith))));
      }) in
      record {
        fails = o.fails;
        keeps = λ f.
            leads-to-end p (nodes (p.jobs + p.jobs)) early late times room set _ (rest_from (place (nodes p.jobs) 0))
            (λ u x a b. put-off (place (nodes p.jobs) 0) u x (omega arith))
            (o.keeps f);
      }
