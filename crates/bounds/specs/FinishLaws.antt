-- The elimination of a finish in an array is its elimination in the table that the array holds. At node y two cells are written, (y, s) and (s, y), of
-- which neither is written again, and both are made of cells of the finish, which are never written.
use Rattle.std.specs.Prelude.{ℕ, suc, ◌+◌, ◌≤◌, ◌<◌, ◌≡◌, refl, Bool, cond, List, eqb, ℤ, pos, neg_ℤ, ◌+ℤ◌, ◌<ℤ◌, length}
use Rattle.std.proofs.Math.Path.{sym, ap, subst}
use Rattle.std.proofs.Common.{ap₂, subst₂, ◌∙◌, ⊎_elim, arith, SFits}
use Rattle.std.proofs.Math.Bool.{true, false}
use borrow.Author.Tests.{eqb-true, eqb-false, eq-eqb, ne_eqb}
use Rattle.std.specs.Int.{w32}
use Rattle.whole.specs.Clash.{clash}
use Rattle.whole.specs.Split.{eq_z}
use Rattle.whole.specs.Rules.{wholes}
use Rattle.plan.specs.declared.Plan.{Plan}
use Rattle.bounds.specs.declared.Judgement.TheVariants.{Kept}
use Rattle.bounds.specs.Events.{start_node, finish_node, event_of, job_at, most_nodes}
use Rattle.bounds.specs.Judgements.{judged}
use Rattle.bounds.specs.JudgementsLaws.{judged-running, judged-reverse}
use Rattle.bounds.specs.Tables.{Cell, off, upto, lesser_cell, plus, at, contradiction, bounds, judgement, is_contradiction, judged_set}
use Rattle.bounds.specs.Elimination.{only_if, finish_cell, without_finish}
use Rattle.bounds.specs.BuildLaws.{at-build, event_of-start, event_of-finish}
use Rattle.bounds.specs.TablesLaws.{lesser_cell-off, off-least, plus-off, JudgedCell, KeptCell, judged-again, Contradicted, judged_set-ext}
use Rattle.bounds.specs.Spans.{Times}
use Rattle.bounds.specs.SpansLaws.{judged_at-is}
use Rattle.bounds.specs.Flat.{
  no_bound_mark,
  place,
  weight_at,
  cell_of,
  cell_at,
  rows_of,
  WeightInRange,
  MoveInRange,
  flat,
  put_at,
  then_flat,
  moved_at,
  moved_rows,
  cells,
}
use Rattle.bounds.specs.FlatLaws.{put_at-none, put_at-same, put_at-length, FlatOutcome, then_flat-outcome, each_node-outcome}
use Rattle.bounds.specs.PutLaws.{mark-of-off, put_at-left}
use Rattle.bounds.specs.StartLaws.{place-one, less-or-same, answer-is}

-- ---- the two bounds of a job with itself are never kept

never_on : (p : Plan) (y z : ℕ) (c : Cell) → KeptCell p y z c → ((w : ℤ) → judged p (event_of y) (event_of z) w ≡ Kept → ⊥) → c ≡ off
never_on p y z off k n = refl
never_on p y z (upto w) k n = absurd (n w (k.kept w refl))

running-off : (p : Plan) (k : ℕ) (c : Cell) → KeptCell p (start_node k) (finish_node k) c → c ≡ off
running-off p k c h =
    never_on p (start_node k) (finish_node k) c h
    (λ w e. judged-running p k w (ap₂ (λ a b. judged p a b w) (sym (event_of-start k)) (sym (event_of-finish k)) ∙ e))

reverse-off : (p : Plan) (k : ℕ) (c : Cell) → KeptCell p (finish_node k) (start_node k) c → c ≡ off
reverse-off p k c h =
    never_on p (finish_node k) (start_node k) c h
    (λ w e. judged-reverse p k w (ap₂ (λ a b. judged p a b w) (sym (event_of-finish k)) (sym (event_of-start k)) ∙ e))

-- ---- sums

-- a weight that is moved stays below the mark, and fits
pub moved-low : (v a : ℤ) → WeightInRange v → MoveInRange a → eq_z v no_bound_mark ≡ false → (v +ℤ a) <ℤ no_bound_mark
moved-low v a h m e = let most = h.greatest e in omega wholes

pub moved_sum : (v a : ℤ) → WeightInRange v → MoveInRange a → eq_z v no_bound_mark ≡ false → SFits w32 (v +ℤ a)
moved_sum v a h m e = let lesser_cell = h.least e in let most = h.greatest e in omega wholes

-- ---- places of two rows, or of two columns

row_apart : (u x y z : ℕ) → x < most_nodes → z < most_nodes → (u ≡ y → ⊥) → place u x ≡ place y z → ⊥
row_apart u x y z a b n e = n (place-one u x y z a b e).0

column_apart : (u x y z : ℕ) → x < most_nodes → z < most_nodes → (x ≡ z → ⊥) → place u x ≡ place y z → ⊥
column_apart u x y z a b n e = n (place-one u x y z a b e).1

-- ---- the finish f of the start s

module _ (p : Plan) (early late : List ℤ) (s f : ℕ) (less more : ℤ) (ws : List ℤ)
    (times : Times p (suc f) early late)
    (node : f < most_nodes)
    (order : s < f)
    (size : length ws ≡ cells)
    (kept : (y z : ℕ) → y < suc f → z < suc f → KeptCell p y z (cell_at ws y z))
    (weighed : (y z : ℕ) → y < suc f → z < suc f → WeightInRange (weight_at ws y z))
    (running : cell_at ws s f ≡ off)
    (reverse : cell_at ws f s ≡ off)
    (less_moves : MoveInRange less)
    (more-moves : MoveInRange more) where
  -- the made cell
  abbrev made : ℕ → ℕ → Cell
  made y z =
      lesser_cell (cell_at ws y z) (lesser_cell (only_if (eqb z s) (plus (cell_at ws y f) less)) (only_if (eqb y s) (plus (cell_at ws f z) more)))

  made-column : (y : ℕ) → (y ≡ s → ⊥) → made y s ≡ lesser_cell (cell_at ws y s) (plus (cell_at ws y f) less)
  made-column y n = rw (eq-eqb s s refl, ne_eqb y s n) (ap (lesser_cell (cell_at ws y s)) (lesser_cell-off (plus (cell_at ws y f) less)))

  made_row : (z : ℕ) → (z ≡ s → ⊥) → made s z ≡ lesser_cell (cell_at ws s z) (plus (cell_at ws f z) more)
  made_row z n = rw (eq-eqb s s refl, ne_eqb z s n) (ap (lesser_cell (cell_at ws s z)) (off-least (plus (cell_at ws f z) more)))

  made-start : made s s ≡ cell_at ws s s
  made-start =
      rw (eq-eqb s s refl, running, reverse)
      (ap₂ (λ c d. lesser_cell (cell_at ws s s) (lesser_cell c d)) (plus-off less) (plus-off more) ∙ ap (lesser_cell (cell_at ws s s)) (off-least off)
      ∙ lesser_cell-off (cell_at ws s s))

  made_other : (y z : ℕ) → (y ≡ s → ⊥) → (z ≡ s → ⊥) → made y z ≡ cell_at ws y z
  made_other y z m n = rw (ne_eqb y s m, ne_eqb z s n) (ap (lesser_cell (cell_at ws y z)) (off-least off) ∙ lesser_cell-off (cell_at ws y z))

  record Stage (y : ℕ) (us : List ℤ) : Type 0 where
    len : length us ≡ cells
    column : (u : ℕ) → u < y → JudgedCell p u s (made u s) (cell_at us u s)
    row : (x : ℕ) → x < y → JudgedCell p s x (made s x) (cell_at us s x)
    rest-column : (u : ℕ) → y ≤ u → u < suc f → weight_at us u s ≡ weight_at ws u s
    rest-row : (x : ℕ) → y ≤ x → x < suc f → weight_at us s x ≡ weight_at ws s x
    other : (u x : ℕ) → (u ≡ s → ⊥) → (x ≡ s → ⊥) → x < most_nodes → weight_at us u x ≡ weight_at ws u x

  -- at the start itself there is nothing to move
  stage-start : (us : List ℤ) → Stage s us → Stage (s + 1) us
  stage-start us g =
      let here : cell_at us s s ≡ cell_at ws s s = ap cell_of (g.rest-column s (omega arith) (omega arith)) in
      let same : JudgedCell p s s (made s s) (cell_at us s s)
      = subst₂ (λ c d. JudgedCell p s s c d) (sym made-start) (sym here) (judged-again p s s (cell_at ws s s) (kept s s (omega arith) (omega arith))) in
      record {
        len = g.len;
        column = λ u h. ⊎_elim (λ l. g.column u l) (λ e. subst (λ u. JudgedCell p u s (made u s) (cell_at us u s)) (sym e) same) (less-or-same u s h);
        row = λ x h. ⊎_elim (λ l. g.row x l) (λ e. subst (λ x. JudgedCell p s x (made s x) (cell_at us s x)) (sym e) same) (less-or-same x s h);
        rest-column = λ u h k. g.rest-column u (omega arith) k;
        rest-row = λ x h k. g.rest-row x (omega arith) k;
        other = g.other;
      }

  -- A cell (y, z) is put where it, and the cell (a, b) that moves by m, are still as at the beginning: the made cell is judged.
  put-moved : (y z a b : ℕ) (m : ℤ) (us : List ℤ)
      → y < f
      → z < f
      → a < suc f
      → b < suc f
      → MoveInRange m
      → length us ≡ cells
      → cell_at us y z ≡ cell_at ws y z
      → weight_at us a b ≡ weight_at ws a b
      → made y z ≡ lesser_cell (cell_at ws y z) (plus (cell_at ws a b) m)
      → FlatOutcome (λ vs. JudgedCell p y z (made y z) (cell_at vs y z)) (is_contradiction (judgement p y z (made y z)) ≡ true)
      (put_at early late y z (weight_at us a b) m us)
  put-moved y z a b m us i j k l moves len here there cell =
      subst
      (λ c.
      FlatOutcome (λ vs. JudgedCell p y z c (cell_at vs y z)) (is_contradiction (judgement p y z c) ≡ true) (put_at early late y z (weight_at us a b) m us))
      (ap₂ lesser_cell here (ap (λ v. plus (cell_of v) m) there) ∙ sym cell)
      (put_at-left p early late y z us (judged_at-is p (suc f) early late times y z (omega arith) (omega arith))
      (omega (arith, len))
      (subst (λ c. KeptCell p y z c) (sym here) (kept y z (omega arith) (omega arith)))
      (weight_at us a b)
      m
      (moved-low (weight_at us a b) m (subst WeightInRange (sym there) (weighed a b k l)) moves))

  -- between the two cells of node y: the first is written
  record Half (y : ℕ) (us vs : List ℤ) : Type 0 where
    len : length vs ≡ cells
    first : JudgedCell p y s (made y s) (cell_at vs y s)
    same : (u x : ℕ) → x < most_nodes → (place u x ≡ place y s → ⊥) → weight_at vs u x ≡ weight_at us u x

  first-half : (y : ℕ) (us : List ℤ) → y < f → (y ≡ s → ⊥) → Stage y us
      → FlatOutcome (Half y us) (Contradicted p f made) (put_at early late y s (weight_at us y f) less us)
  first-half y us l n g =
      let o =
      put-moved y s y f less us l order (omega arith) (omega arith) less_moves g.len
      (ap cell_of (g.rest-column y (omega arith) (omega arith)))
      (g.other y f n (λ e. omega arith) node)
      (made-column y n) in
      record {
        fails = λ q. record { y = y; z = s; y-node = l; z-node = order; found = o.fails q };
        keeps = λ q.
            record {
              len = put_at-length early late y s (weight_at us y f) less us ∙ g.len;
              first = o.keeps q;
              same = λ u x a d. put_at-same early late y s (weight_at us y f) less us (place u x) (pos 0) d;
            };
      }

  second-half : (y : ℕ) (us vs : List ℤ) → y < f → (y ≡ s → ⊥) → Stage y us → Half y us vs
      → FlatOutcome (Stage (y + 1)) (Contradicted p f made) (put_at early late s y (weight_at vs f y) more vs)
  second-half y us vs l n g h =
      let low : y < most_nodes = omega arith in
      let start-low : s < most_nodes = omega arith in
      let f≢s : f ≡ s → ⊥ = λ e. omega arith in
      let s≢y : s ≡ y → ⊥ = λ e. n (sym e) in
      let r = put_at early late s y (weight_at vs f y) more vs in
      let o =
      put-moved s y f y more vs order l (omega arith) (omega arith) more-moves h.len
      (ap cell_of (h.same s y low (row_apart s y y s low start-low s≢y) ∙ g.rest-row y (omega arith) (omega arith)))
      (h.same f y low (column_apart f y y s low start-low n) ∙ g.other f y f≢s n low)
      (made_row y n) in
      let same : (u x : ℕ) → (place u x ≡ place s y → ⊥) → weight_at r.weights u x ≡ weight_at vs u x
      = λ u x d. put_at-same early late s y (weight_at vs f y) more vs (place u x) (pos 0) d in
      let in-column : (u : ℕ) → weight_at r.weights u s ≡ weight_at vs u s
      = λ u. same u s (column_apart u s s y start-low low s≢y) in
      record {
        fails = λ q. record { y = s; z = y; y-node = order; z-node = l; found = o.fails q };
        keeps = λ q.
            record {
              len = put_at-length early late s y (weight_at vs f y) more vs ∙ h.len;
              column = λ u k.
                  subst (λ c. JudgedCell p u s (made u s) c) (sym (ap cell_of (in-column u)))
                  (⊎_elim
                  (λ a. subst (λ c. JudgedCell p u s (made u s) c) (sym (ap cell_of
                  (h.same u s start-low (row_apart u s y s start-low start-low (λ e. omega arith))))) (g.column u a))
                  (λ e. subst (λ u. JudgedCell p u s (made u s) (cell_at vs u s)) (sym e) h.first)
                  (less-or-same u y k));
              row = λ x k.
                  ⊎_elim
                  (λ a.
                  subst (λ c. JudgedCell p s x (made s x) c)
                  (sym (ap cell_of (same s x (column_apart s x s y (omega arith) low (λ e. omega arith))
                  ∙ h.same s x (omega arith) (row_apart s x y s (omega arith) start-low s≢y))))
                  (g.row x a))
                  (λ e. subst (λ x. JudgedCell p s x (made s x) (cell_at r.weights s x)) (sym e) (o.keeps q))
                  (less-or-same x y k);
              rest-column = λ u a b.
                  in-column u ∙ h.same u s start-low (row_apart u s y s start-low start-low (λ e. omega arith)) ∙ g.rest-column u (omega arith) b;
              rest-row = λ x a b.
                  same s x (column_apart s x s y (omega arith) low (λ e. omega arith))
                  ∙ h.same s x (omega arith) (row_apart s x y s (omega arith) start-low s≢y)
                  ∙ g.rest-row x (omega arith) b;
              other = λ u x a b d.
                  same u x (row_apart u x s y d low a) ∙ h.same u x d (column_apart u x y s d start-low b) ∙ g.other u x a b d;
            };
      }

  -- at the start itself nothing is moved
  nothing-moved : (us : List ℤ) → Stage s us → moved_at early late s f less more s us ≡ flat false us
  unfolding moved_at
  nothing-moved us g =
      let ahead : eq_z (weight_at us s f) no_bound_mark ≡ true
      = ap (λ w. eq_z w no_bound_mark) (g.rest-row f (omega arith) (omega arith)) ∙ mark-of-off (weight_at ws s f) running in
      let back : eq_z (weight_at us f s) no_bound_mark ≡ true
      = ap (λ w. eq_z w no_bound_mark) (g.rest-column f (omega arith) (omega arith)) ∙ mark-of-off (weight_at ws f s) reverse in
      ap (λ r. then_flat r (λ us. put_at early late s s (weight_at us f s) more us)) (sym (put_at-none early late s s (weight_at us s f) less us ahead))
      ∙ sym (put_at-none early late s s (weight_at us f s) more us back)

  node_by : (y : ℕ) (us : List ℤ) → y < f → Stage y us → (b : Bool) → eqb y s ≡ b
      → FlatOutcome (Stage (y + 1)) (Contradicted p f made) (moved_at early late s f less more y us)
  unfolding moved_at
  node_by y us l g true e =
      let same : y ≡ s = eqb-true y s e in
      subst (λ y. Stage y us → FlatOutcome (Stage (y + 1)) (Contradicted p f made) (moved_at early late s f less more y us)) (sym same)
      (λ g.
      subst (λ r. FlatOutcome (Stage (s + 1)) (Contradicted p f made) r) (sym (nothing-moved us g))
      (record { fails = λ q. clash (cc); keeps = λ q. stage-start us g }))
      g
  node_by y us l g false e =
      let n : y ≡ s → ⊥ = eqb-false y s e in
      then_flat-outcome (Half y us) (Stage (y + 1)) (Contradicted p f made) (put_at early late y s (weight_at us y f) less us)
      (λ vs. put_at early late s y (weight_at vs f y) more vs)
      (first-half y us l n g)
      (λ vs h. second-half y us vs l n g h)

  rows-outcome : FlatOutcome (Stage f) (Contradicted p f made) (moved_rows early late s f less more ws)
  rows-outcome =
      each_node-outcome (moved_at early late s f less more) f Stage (Contradicted p f made) (λ y us l g. node_by y us l g (eqb y s) refl) 0 f (omega arith) ws
      (record {
        len = size;
        column = λ u h. absurd (omega arith);
        row = λ x h. absurd (omega arith);
        rest-column = λ u a b. refl;
        rest-row = λ x a b. refl;
        other = λ u x a b d. refl;
      })

  all_done : (us : List ℤ) → Stage f us → (y z : ℕ) → y < f → z < f → (b : Bool) → eqb y s ≡ b → (d : Bool) → eqb z s ≡ d
      → JudgedCell p y z (made y z) (cell_at us y z)
  all_done us g y z h k true e d q =
      subst (λ y. JudgedCell p y z (made y z) (cell_at us y z)) (sym (eqb-true y s e)) (g.row z k)
  all_done us g y z h k false e true q =
      subst (λ z. JudgedCell p y z (made y z) (cell_at us y z)) (sym (eqb-true z s q)) (g.column y h)
  all_done us g y z h k false e false q =
      let m : y ≡ s → ⊥ = eqb-false y s e in
      let n : z ≡ s → ⊥ = eqb-false z s q in
      subst₂ (λ c d. JudgedCell p y z c d) (sym (made_other y z m n)) (sym (ap cell_of (g.other y z m n (omega arith))))
      (judged-again p y z (cell_at ws y z) (kept y z (omega arith) (omega arith)))

  moved_rows-is : let r = moved_rows early late s f less more ws in
      cond r.found contradiction (bounds (rows_of f r.weights)) ≡ judged_set p f made
  moved_rows-is =
      answer-is p f made (moved_rows early late s f less more ws)
      (record { fails = rows-outcome.fails; keeps = λ q y z a b. all_done _ (rows-outcome.keeps q) y z a b (eqb y s) refl (eqb z s) refl })

-- ---- the finish at place k

pub without_finish-is : (p : Plan) (early late : List ℤ) (k : ℕ) (ws : List ℤ)
    → Times p (suc (finish_node k)) early late
    → finish_node k < most_nodes
    → length ws ≡ cells
    → ((y z : ℕ) → y < suc (finish_node k) → z < suc (finish_node k) → KeptCell p y z (cell_at ws y z))
    → ((y z : ℕ) → y < suc (finish_node k) → z < suc (finish_node k) → WeightInRange (weight_at ws y z))
    → MoveInRange (neg_ℤ (job_at p k).max)
    → MoveInRange (job_at p k).min
    → let r = moved_rows early late (start_node k) (finish_node k) (neg_ℤ (job_at p k).max) (job_at p k).min ws in
    cond r.found contradiction (bounds (rows_of (finish_node k) r.weights)) ≡ without_finish p k (rows_of (suc (finish_node k)) ws)
unfolding finish_cell
without_finish-is p early late k ws times node size kept weighed less_moves more-moves =
    let s = start_node k in
    let f = finish_node k in
    let same : (y z : ℕ) → y < suc f → z < suc f → at (rows_of (suc f) ws) y z ≡ cell_at ws y z = at-build (suc f) (cell_at ws) in
    moved_rows-is p early late s f (neg_ℤ (job_at p k).max) (job_at p k).min ws times node (omega arith) size kept weighed
    (running-off p k (cell_at ws s f) (kept s f (omega arith) (omega arith)))
    (reverse-off p k (cell_at ws f s) (kept f s (omega arith) (omega arith)))
    less_moves
    more-moves
    ∙ judged_set-ext p f _ _
    (λ y z a b.
    sym
    (ap₂ lesser_cell (same y z (omega arith) (omega arith))
    (ap₂ (λ c d. lesser_cell (only_if (eqb z s) (plus c (neg_ℤ (job_at p k).max))) (only_if (eqb y s) (plus d (job_at p k).min)))
    (same y f (omega arith) (omega arith))
    (same f z (omega arith) (omega arith)))))
