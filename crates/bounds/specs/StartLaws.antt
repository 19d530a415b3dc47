-- The elimination of a start in an array is its elimination in the table that the array holds. The cells are written in the order of their places,
-- and each is made of cells that are not written yet: so up to a place every cell is what is left of its made cell, and from there on nothing has
-- changed.
use Rattle.std.specs.Prelude.{ℕ, suc, ◌+◌, ◌≤◌, ◌<◌, ◌≡◌, refl, ◌⊎◌, Bool, true, cond, List, ℤ, pos, ◌+ℤ◌, ◌≤ℤ◌, ◌<ℤ◌, ltb, length, get_or}
use Rattle.std.proofs.Common.{sym, ap, ap₂, subst₂, ◌∙◌, inl, inr, ⊎_elim, arith, ltb-true, ltb-false}
use Rattle.std.proofs.Math.Path.{subst}
use Rattle.std.proofs.Math.Bool.{false}
use Rattle.whole.specs.Clash.{clash}
use Rattle.whole.specs.Split.{eq_z}
use Rattle.whole.specs.Rules.{wholes}
use Rattle.plan.specs.declared.Plan.{Plan}
use Rattle.bounds.specs.Events.{start_node, most_nodes}
use Rattle.bounds.specs.Tables.{Cell, lesser_cell, plus, join, at, contradiction, bounds, judgement, is_contradiction, judged_set}
use Rattle.bounds.specs.Elimination.{start_cell, without_start}
use Rattle.bounds.specs.BuildLaws.{at-build}
use Rattle.bounds.specs.TablesLaws.{
  lesser_cell-off,
  join-off,
  join-plus,
  JudgedCell,
  KeptCell,
  judged-again,
  Contradicted,
  judged_set-none,
  judged_set-kept,
  judged_set-ext,
}
use Rattle.bounds.specs.Spans.{Times}
use Rattle.bounds.specs.SpansLaws.{judged_at-is}
use Rattle.bounds.specs.Flat.{
  no_bound_mark,
  place,
  weight_at,
  cell_of,
  cell_at,
  rows_of,
  greatest_weight,
  WeightInRange,
  Flat,
  flat,
  joined_at,
  joined_cells,
  joined_row,
  joined_rows,
  cells,
}
use Rattle.bounds.specs.FlatLaws.{put_at-same, put_at-length, FlatOutcome, each_node-outcome}
use Rattle.bounds.specs.PutLaws.{cell_of-mark, cell_of-on, put_at-left}

-- ---- places

-- a place is of one pair alone
pub place-one : (y z u x : ℕ) → z < most_nodes → x < most_nodes → place y z ≡ place u x → (y ≡ u) × (z ≡ x)
place-one y z u x a b e = (omega arith, omega arith)

pub less-or-same : (a n : ℕ) → a < n + 1 → (a < n) ⊎ (a ≡ n)
less-or-same a n h = by (ltb a n) refl
  where
    by : (b : Bool) → ltb a n ≡ b → (a < n) ⊎ (a ≡ n)
    by true e = inl (ltb-true a n e)
    by false e = let low : n ≤ a = ltb-false a n e in inr (omega arith)

-- ---- an array answers a judged set

module _ (p : Plan) (k : ℕ) (f : ℕ → ℕ → Cell) where
  answer-by : (r : Flat) (b : Bool) → r.found ≡ b
      → FlatOutcome (λ us. (y z : ℕ) → y < k → z < k → JudgedCell p y z (f y z) (cell_at us y z)) (Contradicted p k f) r
      → cond b contradiction (bounds (rows_of k r.weights)) ≡ judged_set p k f
  answer-by r true e o = sym (judged_set-none p k f (o.fails e))
  answer-by r false e o = sym (judged_set-kept p k f (cell_at r.weights) (o.keeps e))

  pub answer-is : (r : Flat) → FlatOutcome (λ us. (y z : ℕ) → y < k → z < k → JudgedCell p y z (f y z) (cell_at us y z)) (Contradicted p k f) r
      → cond r.found contradiction (bounds (rows_of k r.weights)) ≡ judged_set p k f
  answer-is r o = answer-by r r.found refl o

-- ---- sums

sum_low : (v w : ℤ) → v ≤ℤ greatest_weight → w ≤ℤ greatest_weight → (v +ℤ w) <ℤ no_bound_mark
sum_low v w a b = omega wholes

weighed-low : (v w : ℤ) → WeightInRange v → WeightInRange w → eq_z w no_bound_mark ≡ false → eq_z v no_bound_mark ≡ false → (v +ℤ w) <ℤ no_bound_mark
weighed-low v w a b on e = sum_low v w (a.greatest e) (b.greatest on)

-- ---- the start s

module _ (p : Plan) (early late : List ℤ) (s : ℕ) (ws : List ℤ)
    (times : Times p (suc s) early late)
    (node : s < most_nodes)
    (size : length ws ≡ cells)
    (kept : (y z : ℕ) → y < suc s → z < suc s → KeptCell p y z (cell_at ws y z))
    (weighed : (y z : ℕ) → y < suc s → z < suc s → WeightInRange (weight_at ws y z)) where
  -- the made cell
  abbrev made : ℕ → ℕ → Cell
  made y z = lesser_cell (cell_at ws y z) (join (cell_at ws y s) (cell_at ws s z))

  record Stage (n : ℕ) (us : List ℤ) : Type 0 where
    len : length us ≡ cells
    done : (y z : ℕ) → y < s → z < s → place y z < n → JudgedCell p y z (made y z) (cell_at us y z)
    rest : (i : ℕ) → n ≤ i → get_or us i (pos 0) ≡ get_or ws i (pos 0)

  cell-stage : (y : ℕ) → y < s → eq_z (weight_at ws y s) no_bound_mark ≡ false → (z : ℕ) (us : List ℤ) → z < s → Stage (place y z) us
      → FlatOutcome (Stage (place y (z + 1))) (Contradicted p s made) (joined_at early late s y (weight_at ws y s) z us)
  cell-stage y h on z us l g =
      let w = weight_at ws y s in
      let here : cell_at us y z ≡ cell_at ws y z = ap cell_of (g.rest (place y z) (omega arith)) in
      let there : weight_at us s z ≡ weight_at ws s z = g.rest (place s z) (omega arith) in
      let cell : lesser_cell (cell_at us y z) (plus (cell_of (weight_at us s z)) w) ≡ made y z
      = ap₂ lesser_cell here (ap (λ v. plus (cell_of v) w) there ∙ sym (join-plus w (cell_at ws s z)) ∙ ap (λ c. join c (cell_at ws s z)) (sym (cell_of-on w on))) in
      let o = subst (λ c. FlatOutcome (λ us. JudgedCell p y z c (cell_at us y z)) (is_contradiction (judgement p y z c) ≡ true) (joined_at early late s y w z us))
      cell
      (put_at-left p early late y z us (judged_at-is p (suc s) early late times y z (omega arith) (omega arith))
      (omega (arith, g.len))
      (subst (λ c. KeptCell p y z c) (sym here) (kept y z (omega arith) (omega arith)))
      (weight_at us s z)
      w
      (λ e. weighed-low (weight_at us s z) w (subst WeightInRange (sym there) (weighed s z (omega arith) (omega arith)))
      (weighed y s (omega arith) (omega arith)) on
      e)) in
      let same : (i : ℕ) → (i ≡ place y z → ⊥) → get_or (joined_at early late s y w z us).weights i (pos 0) ≡ get_or us i (pos 0)
      = λ i n. put_at-same early late y z (weight_at us s z) w us i (pos 0) n in
      record {
        fails = λ f. record { y = y; z = z; y-node = h; z-node = l; found = o.fails f };
        keeps = λ f.
            record {
              len = put_at-length early late y z (weight_at us s z) w us ∙ g.len;
              done = λ u x a b q.
                  ⊎_elim
                  (λ lower.
                  subst (λ c. JudgedCell p u x (made u x) c) (sym (ap cell_of (same (place u x) (λ e. omega arith)))) (g.done u x a b lower))
                  (λ e.
                  let one = place-one u x y z (omega arith) (omega arith) e in
                  subst₂ (λ u x. JudgedCell p u x (made u x) (cell_at (joined_at early late s y w z us).weights u x)) (sym one.0) (sym one.1) (o.keeps f))
                  (less-or-same (place u x) (place y z) (omega arith));
              rest = λ i q. same i (λ e. omega arith) ∙ g.rest i (omega arith);
            };
      }

  -- a row without a bound on s stays
  row-none : (y : ℕ) (us : List ℤ) → y < s → eq_z (weight_at ws y s) no_bound_mark ≡ true → Stage (place y 0) us → Stage (place (y + 1) 0) us
  row-none y us h e g =
      record {
        len = g.len;
        done =
            λ u x a b q.
            ⊎_elim (λ lower. g.done u x a b (omega arith))
            (λ same.
            let cell : made u x ≡ cell_at ws u x
            = ap (λ c. lesser_cell (cell_at ws u x) (join c (cell_at ws s x))) (ap (λ u. cell_at ws u s) same ∙ cell_of-mark (weight_at ws y s) e)
            ∙ ap (lesser_cell (cell_at ws u x)) (join-off (cell_at ws s x))
            ∙ lesser_cell-off (cell_at ws u x) in
            let here : cell_at us u x ≡ cell_at ws u x = ap cell_of (g.rest (place u x) (omega arith)) in
            subst₂ (λ c d. JudgedCell p u x c d) (sym cell) (sym here) (judged-again p u x (cell_at ws u x) (kept u x (omega arith) (omega arith))))
            (less-or-same u y (omega arith));
        rest = λ i q. g.rest i (omega arith);
      }

  row-end : (y : ℕ) {us : List ℤ} → Stage (place y s) us → Stage (place (y + 1) 0) us
  row-end y g =
      record { len = g.len; done = λ u x a b q. g.done u x a b (omega arith); rest = λ i q. g.rest i (omega arith) }

  row_by : (y : ℕ) (us : List ℤ) → y < s → Stage (place y 0) us → (b : Bool) → eq_z (weight_at ws y s) no_bound_mark ≡ b
      → FlatOutcome (Stage (place (y + 1) 0)) (Contradicted p s made) (cond b (flat false us) (joined_cells early late s y (weight_at ws y s) us))
  row_by y us h g true e = record { fails = λ f. clash (cc); keeps = λ f. row-none y us h e g }
  row_by y us h g false e =
      let o = each_node-outcome (joined_at early late s y (weight_at ws y s)) s (λ z us. Stage (place y z) us) (Contradicted p s made)
      (λ z us l g. cell-stage y h e z us l g)
      0
      s
      (omega arith)
      us
      g in
      record { fails = o.fails; keeps = λ f. row-end y (o.keeps f) }

  row-stage : (y : ℕ) (us : List ℤ) → y < s → Stage (place y 0) us → FlatOutcome (Stage (place (y + 1) 0)) (Contradicted p s made) (joined_row early late s y us)
  unfolding joined_row
  row-stage y us h g =
      let there : weight_at us y s ≡ weight_at ws y s = g.rest (place y s) (omega arith) in
      subst (λ w. FlatOutcome (Stage (place (y + 1) 0)) (Contradicted p s made) (cond (eq_z w no_bound_mark) (flat false us) (joined_cells early late s y w us)))
      (sym there)
      (row_by y us h g (eq_z (weight_at ws y s) no_bound_mark) refl)

  rows-outcome : FlatOutcome (Stage (place s 0)) (Contradicted p s made) (joined_rows early late s ws)
  rows-outcome =
      each_node-outcome (joined_row early late s) s (λ y us. Stage (place y 0) us) (Contradicted p s made) (λ y us h g. row-stage y us h g) 0 s (omega arith)
      ws
      (record { len = size; done = λ u x a b q. absurd (omega arith); rest = λ i q. refl })

  joined_rows-is : cond (joined_rows early late s ws).found contradiction (bounds (rows_of s (joined_rows early late s ws).weights)) ≡ judged_set p s made
  joined_rows-is =
      answer-is p s made (joined_rows early late s ws)
      (record { fails = rows-outcome.fails; keeps = λ f y z a b. (rows-outcome.keeps f).done y z a b (omega arith) })

-- ---- the start at place k

pub without_start-is : (p : Plan) (early late : List ℤ) (k : ℕ) (ws : List ℤ)
    → Times p (suc (start_node k)) early late
    → start_node k < most_nodes
    → length ws ≡ cells
    → ((y z : ℕ) → y < suc (start_node k) → z < suc (start_node k) → KeptCell p y z (cell_at ws y z))
    → ((y z : ℕ) → y < suc (start_node k) → z < suc (start_node k) → WeightInRange (weight_at ws y z))
    → let r = joined_rows early late (start_node k) ws in
    cond r.found contradiction (bounds (rows_of (start_node k) r.weights)) ≡ without_start p k (rows_of (suc (start_node k)) ws)
unfolding start_cell
without_start-is p early late k ws times node size kept weighed =
    let s = start_node k in
    joined_rows-is p early late s ws times node size kept weighed
    ∙ judged_set-ext p s _ _
    (λ y z a b.
    let same : (y z : ℕ) → y < suc s → z < suc s → at (rows_of (suc s) ws) y z ≡ cell_at ws y z = at-build (suc s) (cell_at ws) in
    sym (ap₂ lesser_cell (same y z (omega arith) (omega arith)) (ap₂ join (same y s (omega arith) (omega arith)) (same s z (omega arith) (omega arith)))))
