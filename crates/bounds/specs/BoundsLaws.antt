-- A list of bounds put into an array, one after the other: what the array then holds is judged of what it held and of the least weights that the list
-- gives.
use Rattle.std.specs.Prelude.{ℕ, ◌≤◌, ◌<◌, ◌≡◌, refl, Bool, true, false, cond, ◌&&◌, eqb, ℤ, pos, ◌+ℤ◌, ◌<ℤ◌, get_or}
use Rattle.std.proofs.Common.{sym, ap₂, ◌∙◌, arith, eq-eqb, eqb-true}
use Rattle.std.proofs.Math.Path.{ap}
use mathlib.Core.List.{List, [], ◌∷◌, ◌++◌}
use Rattle.std.proofs.lemmas.List.{length-replicate, get_or-replicate}
use Rattle.whole.specs.Clash.{clash}
use Rattle.whole.specs.Split.{eq_z}
use Rattle.whole.specs.Rules.{wholes}
use Rattle.plan.specs.declared.Plan.{Plan}
use Rattle.bounds.specs.Events.{node_of, most_nodes}
use Rattle.bounds.specs.Tables.{Cell, off, upto, lesser_cell, plus, Between, least_of, Set, contradiction, bounds, judged_set}
use Rattle.bounds.specs.TablesLaws.{lesser_cell-off, off-least, judged_set-ext}
use Rattle.bounds.specs.Spans.{Times}
use Rattle.bounds.specs.Flat.{no_bound_mark, place, cell_of, cell_at, rows_of, Flat, flat, put_at, then_flat, put_bounds, no_bounds, cells}
use Rattle.bounds.specs.FlatLaws.{FlatOutcome, then_flat-outcome, then_flat-found, then_flat-next}
use Rattle.bounds.specs.PutLaws.{cell_of-mark, cell_of-on, below_on}
use Rattle.bounds.specs.LeadsToLaws.{least-assoc, LeadsTo, put_at-leads-to, leads-to-end}

-- ---- lists of bounds

then-assoc : (r : Flat) (b : Bool) → r.found ≡ b → (f g : List ℤ → Flat) → then_flat (cond b r (f r.weights)) g ≡ cond b r (then_flat (f r.weights) g)
then-assoc r true e f g = ap (λ b. cond b r (g r.weights)) e
then-assoc r false e f g = refl

pub put_bounds-none : (early late : List ℤ) (ws : List ℤ) → put_bounds early late [] ws ≡ flat false ws
unfolding put_bounds
put_bounds-none early late ws = refl

put_bounds-append : (early late : List ℤ) (bs cs : List Between) (ws : List ℤ)
    → put_bounds early late (bs ++ cs) ws ≡ then_flat (put_bounds early late bs ws) (put_bounds early late cs)
unfolding put_bounds
put_bounds-append early late [] cs ws = refl
put_bounds-append early late (b ∷ bs) cs ws =
    let r = put_at early late (node_of b.y) (node_of b.z) b.w (pos 0) ws in
    ap (λ q. cond r.found r q) (put_bounds-append early late bs cs r.weights)
    ∙ sym (then-assoc r r.found refl (put_bounds early late bs) (put_bounds early late cs))

-- as the code goes: a list and then another, of which the first finds a contradiction or not
module _ (early late : List ℤ) (bs cs : List Between) (ws : List ℤ) (r : Bool) (us : List ℤ) (e : flat r us ≡ put_bounds early late bs ws) where
  pub put_bounds-stop : r ≡ true → flat true us ≡ put_bounds early late (bs ++ cs) ws
  put_bounds-stop t =
      sym
      (put_bounds-append early late bs cs ws
      ∙ ap (λ r. then_flat r (put_bounds early late cs)) (sym e)
      ∙ then_flat-found r us (put_bounds early late cs) t)

  pub put_bounds-past : r ≡ false → put_bounds early late cs us ≡ put_bounds early late (bs ++ cs) ws
  put_bounds-past t =
      sym
      (put_bounds-append early late bs cs ws
      ∙ ap (λ r. then_flat r (put_bounds early late cs)) (sym e)
      ∙ then_flat-next r us (put_bounds early late cs) t)

then-none : (r : Flat) (b : Bool) → r.found ≡ b → r ≡ cond b r (flat false r.weights)
then-none r true e = refl
then-none r false e = ap (λ b. flat b r.weights) e

pub put_bounds-one : (early late : List ℤ) (b : Between) (ws : List ℤ)
    → put_at early late (node_of b.y) (node_of b.z) b.w (pos 0) ws ≡ put_bounds early late (b ∷ []) ws
unfolding put_bounds
put_bounds-one early late b ws =
    let r = put_at early late (node_of b.y) (node_of b.z) b.w (pos 0) ws in then-none r r.found refl

-- a bound between two of the first k nodes, of a weight below the mark
pub record WithinNodes (k : ℕ) (b : Between) : Type 0 where
  pub from : node_of b.y < k
  pub to : node_of b.z < k
  pub low : b.w <ℤ no_bound_mark

abbrev pub AllWithinNodes : ℕ → List Between → Type 0
AllWithinNodes k [] = Unit
AllWithinNodes k (b ∷ bs) = WithinNodes k b × AllWithinNodes k bs

pub all_named-append : (k : ℕ) (bs cs : List Between) → AllWithinNodes k bs → AllWithinNodes k cs → AllWithinNodes k (bs ++ cs)
all_named-append k [] cs a c = c
all_named-append k (b ∷ bs) cs a c = (a.0, all_named-append k bs cs a.1 c)

-- ---- one bound

weight-cell : (w : ℤ) → w <ℤ no_bound_mark → plus (cell_of w) (pos 0) ≡ upto w
unfolding plus
weight-cell w h = ap (λ c. plus c (pos 0)) (cell_of-on w (below_on w h)) ∙ ap upto (plus-zero w)
  where
    plus-zero : (w : ℤ) → w +ℤ pos 0 ≡ w
    plus-zero w = omega wholes

one-here : (b : Between) (bs : List Between) → least_of (b ∷ bs) (node_of b.y) (node_of b.z)
    ≡ lesser_cell (upto b.w) (least_of bs (node_of b.y) (node_of b.z))
unfolding least_of
one-here b bs = rw (eq-eqb (node_of b.y) (node_of b.y) refl, eq-eqb (node_of b.z) (node_of b.z) refl)

one-there : (b : Between) (bs : List Between) (u x : ℕ) → (place u x ≡ place (node_of b.y) (node_of b.z) → ⊥) → least_of (b ∷ bs) u x ≡ least_of bs u x
unfolding least_of
one-there b bs u x n = by (eqb (node_of b.y) u) refl (eqb (node_of b.z) x) refl
  where
    by : (c : Bool) → eqb (node_of b.y) u ≡ c → (d : Bool) → eqb (node_of b.z) x ≡ d
        → cond (c && d) (lesser_cell (upto b.w) (least_of bs u x)) (least_of bs u x) ≡ least_of bs u x
    by true e true f =
        absurd (n (ap₂ place (sym (eqb-true (node_of b.y) u e)) (sym (eqb-true (node_of b.z) x f))))
    by true e false f = refl
    by false e d f = refl

none-least : (y z : ℕ) (c : Cell) → lesser_cell (least_of [] y z) c ≡ c
unfolding least_of
none-least y z c = off-least c

low_sum : (w : ℤ) → w <ℤ no_bound_mark → (w +ℤ pos 0) <ℤ no_bound_mark
low_sum w h = omega wholes

-- ---- all of them

module _ (p : Plan) (k : ℕ) (early late : List ℤ) (times : Times p k early late) (small : k ≤ most_nodes) (set : Set) (rest : ℕ → ℕ → Cell) where
  pub put_bounds-leads-to : (bs : List Between) → AllWithinNodes k bs → (ws : List ℤ) → LeadsTo p k (λ y z. lesser_cell (least_of bs y z) (rest y z)) set ws
      → FlatOutcome (LeadsTo p k rest set) (set ≡ contradiction) (put_bounds early late bs ws)
  unfolding put_bounds
  put_bounds-leads-to [] a ws t =
      record {
        fails = λ f. clash (cc);
        keeps = λ f.
            record {
              len = t.len;
              kept = t.kept;
              leads = t.leads ∙ judged_set-ext p k _ _ (λ y z h l. ap (lesser_cell (cell_at ws y z)) (none-least y z (rest y z)));
            };
      }
  put_bounds-leads-to (b ∷ bs) a ws t =
      let y = node_of b.y in
      let z = node_of b.z in
      then_flat-outcome (LeadsTo p k (λ y z. lesser_cell (least_of bs y z) (rest y z)) set) (LeadsTo p k rest set) (set ≡ contradiction)
      (put_at early late y z b.w (pos 0) ws)
      (put_bounds early late bs)
      (put_at-leads-to p k early late times small set ws (λ y z. lesser_cell (least_of bs y z) (rest y z))
      (λ y z. lesser_cell (least_of (b ∷ bs) y z) (rest y z)) t y z
      a.0.from
      a.0.to
      b.w
      (pos 0)
      (λ e. low_sum b.w a.0.low)
      (ap (λ c. lesser_cell c (rest y z)) (one-here b bs)
      ∙ least-assoc (upto b.w) (least_of bs y z) (rest y z)
      ∙ ap (λ c. lesser_cell c (lesser_cell (least_of bs y z) (rest y z))) (sym (weight-cell b.w a.0.low)))
      (λ u x m n q. ap (λ c. lesser_cell c (rest u x)) (one-there b bs u x q)))
      (λ us g. put_bounds-leads-to bs a.1 us g)

-- ---- into the array without a bound

none-at : (i : ℕ) → i < cells → get_or no_bounds i (pos 0) ≡ no_bound_mark
none-at i h = get_or-replicate cells i no_bound_mark (pos 0) h

pub no_bounds-off : (y z : ℕ) → y < most_nodes → z < most_nodes → cell_at no_bounds y z ≡ off
no_bounds-off y z h l = cell_of-mark (get_or no_bounds (place y z) (pos 0)) (ap (λ w. eq_z w no_bound_mark) (none-at (place y z) (omega arith)))

outcome-set : (k : ℕ) (set : Set) (r : Flat) → FlatOutcome (λ us. set ≡ bounds (rows_of k us)) (set ≡ contradiction) r
    → cond r.found contradiction (bounds (rows_of k r.weights)) ≡ set
outcome-set k set r o = by r.found refl
  where
    by : (b : Bool) → r.found ≡ b → cond b contradiction (bounds (rows_of k r.weights)) ≡ set
    by true e = sym (o.fails e)
    by false e = sym (o.keeps e)

module _ (p : Plan) (k : ℕ) (early late : List ℤ) (times : Times p k early late) (small : k ≤ most_nodes) (bs : List Between) (named : AllWithinNodes k bs) where
  empty-leads-to : LeadsTo p k (λ y z. lesser_cell (least_of bs y z) off) (judged_set p k (least_of bs)) no_bounds
  empty-leads-to =
      record {
        len = length-replicate cells no_bound_mark;
        kept = λ y z h l. record { kept = λ w e. absurd (let o = no_bounds-off y z (omega arith) (omega arith) in clash (cc)) };
        leads =
            judged_set-ext p k _ _
            (λ y z h l.
            sym
            (ap (λ c. lesser_cell c (lesser_cell (least_of bs y z) off)) (no_bounds-off y z (omega arith) (omega arith))
            ∙ off-least (lesser_cell (least_of bs y z) off)
            ∙ lesser_cell-off (least_of bs y z)));
      }

  pub put_bounds-outcome : FlatOutcome (LeadsTo p k (λ y z. off) (judged_set p k (least_of bs))) (judged_set p k (least_of bs) ≡ contradiction)
      (put_bounds early late bs no_bounds)
  put_bounds-outcome = put_bounds-leads-to p k early late times small (judged_set p k (least_of bs)) (λ y z. off) bs named no_bounds empty-leads-to

  -- the bounds of a list, judged
  pub put_bounds-is : let r = put_bounds early late bs no_bounds in cond r.found contradiction (bounds (rows_of k r.weights)) ≡ judged_set p k (least_of bs)
  put_bounds-is =
      outcome-set k (judged_set p k (least_of bs)) (put_bounds early late bs no_bounds)
      (record {
        fails = put_bounds-outcome.fails;
        keeps = λ f. leads-to-end p k early late times small (judged_set p k (least_of bs)) _ (λ y z. off) (λ y z h l. refl) (put_bounds-outcome.keeps f);
      })
