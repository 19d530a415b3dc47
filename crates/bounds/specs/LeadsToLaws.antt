-- Bounds put one after the other lead to a judged set. An array with judged cells, and the cells that are still to be put, stand for the set that is
-- judged of both together. A put moves one bound from the one to the other, and the set stays the same.
use Rattle.std.specs.Prelude.{ℕ, ◌≤◌, ◌<◌, ◌≡◌, refl, Bool, true, false, cond, List, eqb, ℤ, pos, ◌+ℤ◌, ◌<ℤ◌, length}
use Rattle.std.proofs.Common.{sym, ap, ap₂, subst, subst₂, ◌∙◌, arith, eqb-true}
use Rattle.std.specs.Int.Signed.{le_z}
use Rattle.std.proofs.lemmas.Bool.{eqb-false}
use Rattle.whole.specs.Clash.{clash}
use Rattle.whole.specs.Split.{eq_z}
use Rattle.whole.specs.Rules.{whole}
use Rattle.plan.specs.declared.Plan.{Plan}
use Rattle.bounds.specs.declared.Judgement.{Judgement}
use Rattle.bounds.specs.declared.Judgement.TheVariants.{Contradiction, LeftOut, Kept}
use Rattle.bounds.specs.Events.{event_of, most_nodes}
use Rattle.bounds.specs.Judgements.{judged}
use Rattle.bounds.specs.JudgementsLaws.{judged-left-out, judged-none}
use Rattle.bounds.specs.Tables.{
  Cell,
  off,
  upto,
  lesser_cell,
  plus,
  at,
  build,
  judgement,
  is_contradiction,
  kept_cell,
  Set,
  contradiction,
  bounds,
  contradicts,
  kept_rows,
  judged_set,
}
use Rattle.bounds.specs.BuildLaws.{at-build}
use Rattle.bounds.specs.TablesLaws.{
  lesser_cell-off,
  any_below-ext,
  build-ext,
  JudgedCell,
  KeptCell,
  judged-again,
  judged-kept,
  judged_set-none,
  judged_set-kept,
}
use Rattle.bounds.specs.Spans.{Times}
use Rattle.bounds.specs.SpansLaws.{judged_at-is}
use Rattle.bounds.specs.Flat.{no_bound_mark, place, cell_of, cell_at, rows_of, put_at, cells}
use Rattle.bounds.specs.FlatLaws.{put_at-same, put_at-length, FlatOutcome}
use Rattle.bounds.specs.PutLaws.{put_at-left}
use Rattle.bounds.specs.StartLaws.{place-one}

-- ---- the lesser of three

lesser-of-three : (w v u : ℤ) (a b : Bool) → le_z w v ≡ a → le_z v u ≡ b
    → lesser_cell (cond a (upto w) (upto v)) (upto u) ≡ lesser_cell (upto w) (cond b (upto v) (upto u))
unfolding lesser_cell
lesser-of-three w v u true true e f = let top : le_z w u ≡ true = omega whole in rw (e, top)
lesser-of-three w v u true false e f = refl
lesser-of-three w v u false true e f = rw (e, f)
lesser-of-three w v u false false e f = let top : le_z w u ≡ false = omega whole in rw (f, top)

pub least-assoc : (c d e : Cell) → lesser_cell (lesser_cell c d) e ≡ lesser_cell c (lesser_cell d e)
unfolding lesser_cell
least-assoc off d e = refl
least-assoc (upto w) off e = refl
least-assoc (upto w) (upto v) off = by (le_z w v)
  where
    by : (b : Bool) → lesser_cell (cond b (upto w) (upto v)) off ≡ cond b (upto w) (upto v)
    by true = refl
    by false = refl
least-assoc (upto w) (upto v) (upto u) = lesser-of-three w v u (le_z w v) (le_z v u) refl refl

pub least-comm : (c d : Cell) → lesser_cell c d ≡ lesser_cell d c
unfolding lesser_cell
least-comm off off = refl
least-comm off (upto v) = refl
least-comm (upto w) off = refl
least-comm (upto w) (upto v) = by (le_z w v) refl (le_z v w) refl
  where
    by : (a : Bool) → le_z w v ≡ a → (b : Bool) → le_z v w ≡ b → cond a (upto w) (upto v) ≡ cond b (upto v) (upto w)
    by true e true f = let same : w ≡ v = omega whole in ap upto same
    by true e false f = refl
    by false e true f = refl
    by false e false f = absurd (omega whole)

-- ---- cells of which the same is left

record SameLeft (p : Plan) (y z : ℕ) (c d : Cell) : Type 0 where
  sound : is_contradiction (judgement p y z c) ≡ is_contradiction (judgement p y z d)
  left : kept_cell (judgement p y z c) c ≡ kept_cell (judgement p y z d) d

same_left : (p : Plan) (y z : ℕ) {c d : Cell} → c ≡ d → SameLeft p y z c d
same_left p y z e = record { sound = ap (λ c. is_contradiction (judgement p y z c)) e; left = ap (λ c. kept_cell (judgement p y z c) c) e }

judged_set-same : (p : Plan) (k : ℕ) (f g : ℕ → ℕ → Cell) → ((y z : ℕ) → y < k → z < k → SameLeft p y z (f y z) (g y z)) → judged_set p k f ≡ judged_set p k g
unfolding judged_set contradicts kept_rows
judged_set-same p k f g h =
    let in_f : (y z : ℕ) → y < k → z < k → at (build k f) y z ≡ f y z = at-build k f in
    let in_g : (y z : ℕ) → y < k → z < k → at (build k g) y z ≡ g y z = at-build k g in
    ap₂ (λ b t. cond b contradiction (bounds t))
    (any_below-ext k _ _
    (λ y a.
    any_below-ext k _ _
    (λ z b.
    ap (λ c. is_contradiction (judgement p y z c)) (in_f y z a b)
    ∙ (h y z a b).sound
    ∙ ap (λ c. is_contradiction (judgement p y z c)) (sym (in_g y z a b)))))
    (build-ext k _ _
    (λ y z a b.
    ap (λ c. kept_cell (judgement p y z c) c) (in_f y z a b)
    ∙ (h y z a b).left
    ∙ ap (λ c. kept_cell (judgement p y z c) c) (sym (in_g y z a b))))

-- ---- what is left of a cell does for the cell

-- a bound that is left out, beside another
beside-left-out : (p : Plan) (y z : ℕ) (w : ℤ) (e : Cell) → judged p (event_of y) (event_of z) w ≡ LeftOut → SameLeft p y z (lesser_cell (upto w) e) e
unfolding lesser_cell judgement
beside-left-out p y z w off h = record { sound = ap is_contradiction h; left = ap (λ j. kept_cell j (upto w)) h }
beside-left-out p y z w (upto v) h = by (le_z w v) refl
  where
    by : (b : Bool) → le_z w v ≡ b → SameLeft p y z (cond b (upto w) (upto v)) (upto v)
    by true q =
        let g = judged-left-out p (event_of y) (event_of z) w v (omega whole) h in
        record { sound = ap is_contradiction (h ∙ sym g); left = ap (λ j. kept_cell j (upto w)) h ∙ sym (ap (λ j. kept_cell j (upto v)) g) }
    by false q = same_left p y z refl

-- a contradiction, beside another bound
beside_none : (p : Plan) (y z : ℕ) (w : ℤ) (e : Cell) → judged p (event_of y) (event_of z) w ≡ Contradiction
    → is_contradiction (judgement p y z (lesser_cell (upto w) e)) ≡ true
unfolding lesser_cell judgement
beside_none p y z w off h = ap is_contradiction h
beside_none p y z w (upto v) h = by (le_z w v) refl
  where
    by : (b : Bool) → le_z w v ≡ b → is_contradiction (judgement p y z (cond b (upto w) (upto v))) ≡ true
    by true q = ap is_contradiction h
    by false q = ap is_contradiction (judged-none p (event_of y) (event_of z) w v (omega whole) h)

left-does-by : (p : Plan) (y z : ℕ) (w : ℤ) (e : Cell) (j : Judgement) → judged p (event_of y) (event_of z) w ≡ j → is_contradiction j ≡ false
    → SameLeft p y z (lesser_cell (upto w) e) (lesser_cell (kept_cell j (upto w)) e)
unfolding lesser_cell
left-does-by p y z w e Contradiction h s = clash (cc)
left-does-by p y z w e LeftOut h s = beside-left-out p y z w e h
left-does-by p y z w e Kept h s = same_left p y z refl

left-does-cell : (p : Plan) (y z : ℕ) (c e : Cell) → is_contradiction (judgement p y z c) ≡ false
    → SameLeft p y z (lesser_cell c e) (lesser_cell (kept_cell (judgement p y z c) c) e)
unfolding judgement
left-does-cell p y z off e s = same_left p y z refl
left-does-cell p y z (upto w) e s = left-does-by p y z w e (judged p (event_of y) (event_of z) w) refl s

left-does : (p : Plan) (y z : ℕ) {c d : Cell} (e : Cell) → JudgedCell p y z c d → SameLeft p y z (lesser_cell c e) (lesser_cell d e)
left-does p y z {c} e j = subst (λ d. SameLeft p y z (lesser_cell c e) (lesser_cell d e)) (sym j.left) (left-does-cell p y z c e j.sound)

none-by : (p : Plan) (y z : ℕ) (w : ℤ) (e : Cell) (j : Judgement) → judged p (event_of y) (event_of z) w ≡ j → is_contradiction j ≡ true
    → is_contradiction (judgement p y z (lesser_cell (upto w) e)) ≡ true
none-by p y z w e Contradiction h s = beside_none p y z w e h
none-by p y z w e LeftOut h s = clash (cc)
none-by p y z w e Kept h s = clash (cc)

none_stays : (p : Plan) (y z : ℕ) (c e : Cell) → is_contradiction (judgement p y z c) ≡ true → is_contradiction (judgement p y z (lesser_cell c e)) ≡ true
unfolding judgement
none_stays p y z off e s = clash (cc)
none_stays p y z (upto w) e s = none-by p y z w e (judged p (event_of y) (event_of z) w) refl s

-- ---- at one place, or at another

at-place-by : (P : ℕ → ℕ → Type 0) (u x y z : ℕ) → x < most_nodes → z < most_nodes → (b : Bool) → eqb (place u x) (place y z) ≡ b
    → ((place u x ≡ place y z → ⊥) → P u x) → P y z → P u x
at-place-by P u x y z a b true e f g = let one = place-one u x y z a b (eqb-true (place u x) (place y z) e) in subst₂ P (sym one.0) (sym one.1) g
at-place-by P u x y z a b false e f g = f (eqb-false (place u x) (place y z) e)

at_place : (P : ℕ → ℕ → Type 0) (u x y z : ℕ) → x < most_nodes → z < most_nodes → ((place u x ≡ place y z → ⊥) → P u x) → P y z → P u x
at_place P u x y z a b f g = at-place-by P u x y z a b (eqb (place u x) (place y z)) refl f g

-- ---- towards a set

-- an array and the cells still to be put lead to a set on k nodes
pub record LeadsTo (p : Plan) (k : ℕ) (rest : ℕ → ℕ → Cell) (set : Set) (ws : List ℤ) : Type 0 where
  pub len : length ws ≡ cells
  pub kept : (y z : ℕ) → y < k → z < k → KeptCell p y z (cell_at ws y z)
  pub leads : set ≡ judged_set p k (λ y z. lesser_cell (cell_at ws y z) (rest y z))

module _ (p : Plan) (k : ℕ) (early late : List ℤ) (times : Times p k early late) (small : k ≤ most_nodes) (set : Set) (ws : List ℤ) where
  pub put_at-leads-to : (rest more : ℕ → ℕ → Cell) → LeadsTo p k more set ws → (y z : ℕ) → y < k → z < k → (v a : ℤ)
      → (eq_z v no_bound_mark ≡ false → (v +ℤ a) <ℤ no_bound_mark)
      → more y z ≡ lesser_cell (plus (cell_of v) a) (rest y z)
      → ((u x : ℕ) → u < k → x < k → (place u x ≡ place y z → ⊥) → more u x ≡ rest u x)
      → FlatOutcome (LeadsTo p k rest set) (set ≡ contradiction) (put_at early late y z v a ws)
  put_at-leads-to rest more t y z h l v a low here there =
      let c = cell_at ws y z in
      let d = plus (cell_of v) a in
      let r = put_at early late y z v a ws in
      let whole-cell : lesser_cell c (more y z) ≡ lesser_cell (lesser_cell c d) (rest y z) = ap (lesser_cell c) here ∙ sym (least-assoc c d (rest y z)) in
      let o = put_at-left p early late y z ws (judged_at-is p k early late times y z h l) (omega (arith, t.len)) (t.kept y z h l) v a low in
      let same : (u x : ℕ) → (place u x ≡ place y z → ⊥) → cell_at r.weights u x ≡ cell_at ws u x
      = λ u x n. ap cell_of (put_at-same early late y z v a ws (place u x) (pos 0) n) in
      record {
        fails = λ f.
            t.leads
            ∙ judged_set-none p k _
            (record {
              y = y;
              z = z;
              y-node = h;
              z-node = l;
              found = ap (λ c. is_contradiction (judgement p y z c)) whole-cell ∙ none_stays p y z (lesser_cell c d) (rest y z) (o.fails f);
            });
        keeps = λ f.
            record {
              len = put_at-length early late y z v a ws ∙ t.len;
              kept = λ u x m n.
                  at_place (λ u x. KeptCell p u x (cell_at r.weights u x)) u x y z (omega arith) (omega arith)
                  (λ q. subst (λ c. KeptCell p u x c) (sym (same u x q)) (t.kept u x m n))
                  (judged-kept p y z (o.keeps f));
              leads = t.leads
                  ∙ judged_set-same p k _ _
                  (λ u x m n.
                  at_place (λ u x. SameLeft p u x (lesser_cell (cell_at ws u x) (more u x)) (lesser_cell (cell_at r.weights u x) (rest u x))) u x y z
                  (omega arith)
                  (omega arith)
                  (λ q. same_left p u x (ap₂ lesser_cell (sym (same u x q)) (there u x m n q)))
                  (let e = left-does p y z (rest y z) (o.keeps f) in
                  let g = same_left p y z whole-cell in
                  record { sound = g.sound ∙ e.sound; left = g.left ∙ e.left }));
            };
      }

  pub leads-to-end : (rest : ℕ → ℕ → Cell) → ((y z : ℕ) → y < k → z < k → rest y z ≡ off) → LeadsTo p k rest set ws → set ≡ bounds (rows_of k ws)
  leads-to-end rest none t =
      t.leads
      ∙ judged_set-kept p k _ (cell_at ws)
      (λ y z h l.
      subst (λ c. JudgedCell p y z c (cell_at ws y z))
      (sym (ap (lesser_cell (cell_at ws y z)) (none y z h l) ∙ lesser_cell-off (cell_at ws y z)))
      (judged-again p y z (cell_at ws y z) (t.kept y z h l)))
