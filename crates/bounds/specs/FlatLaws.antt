-- Tables in one array. The cases of `put_at`, as the code has them: no bound to put, one that is not less than what stands there, or one that is judged.
use Prim.Native.Nat.{ℕ, zero, suc, ◌+◌, ◌-◌, ◌≤◌, ◌<◌}
use Rattle.std.specs.Prelude.{◌≡◌, refl, Bool, true, false, cond, not, eqb, ltb, pos, ◌+ℤ◌}
use Rattle.std.proofs.Math.Path.{sym, ap, ap₂}
use Rattle.std.proofs.Common.{subst, ◌∙◌, zero-add, add-zero, add-one, length-set, get_or-set_other, SFits, of_z}
use mathlib.Core.List.{List, [], ◌∷◌}
use native.Mathlib.Omega.{arith}
use Rattle.std.proofs.Math.IntN.{ℤ}
use Rattle.std.specs.Int.Signed.{le_z}
use Rattle.std.proofs.Math.ListN.{length, get_or}
use borrow.Author.Tests.{eq-eqb, ne_eqb, not-false}
use Rattle.std.proofs.lemmas.Bool.{ltb-true, ltb-false}
use Rattle.std.specs.Int.{w32}
use Rattle.std.proofs.Math.Facts.{sfits_lit}
use Rattle.whole.specs.Clash.{clash}
use Rattle.whole.specs.Split.{eq_z}
use Rattle.whole.specs.SplitLaws.{bits-eqb}
use Rattle.events.specs.declared.Events.{Events}
use Rattle.events.specs.Bits.{bits_of, has_event, event_set, most_bits, HasRoom, with_first, next_event, members_from}
use Rattle.events.specs.BitsLaws.{event_set-nil, event_set-first, event_set-room, next_event-skips, members-first, members-over}
use Rattle.bounds.specs.declared.Judgement.{Judgement}
use Rattle.bounds.specs.declared.Judgement.TheVariants.{Contradiction, LeftOut, Kept}
use Rattle.bounds.specs.Events.{node_of}
use Rattle.bounds.specs.Tables.{listed, Between}
use Rattle.bounds.specs.Spans.{judged_at}
use Rattle.bounds.specs.Flat.{
  mark_number,
  no_bound_mark,
  place,
  weight_at,
  Flat,
  flat,
  stored,
  kept_at,
  put_at,
  then_flat,
  each_node,
  put_bounds,
  is_bound,
  is_bounded,
  bounded_nodes,
  HasBounded,
  joined_at,
  joined_cells,
  joined_row,
  joined_rows,
  moved_at,
  moved_rows,
}
use Rattle.bounds.specs.BuildLaws.{length-listed, has_event-listed}
use Rattle.bounds.specs.TablesLaws.{listed-ext}

module _ (early late : List ℤ) (y z : ℕ) (v a : ℤ) (ws : List ℤ) where
  pub put_at-none : eq_z v no_bound_mark ≡ true → flat false ws ≡ put_at early late y z v a ws
  unfolding put_at
  put_at-none e = rw e

  pub put_at-more : eq_z v no_bound_mark ≡ false → le_z (weight_at ws y z) (v +ℤ a) ≡ true → flat false ws ≡ put_at early late y z v a ws
  unfolding put_at kept_at
  put_at-more e l = rw (e, l)

  pub put_at-judged : (j : Judgement) → eq_z v no_bound_mark ≡ false → le_z (weight_at ws y z) (v +ℤ a) ≡ false
      → judged_at early late y z (v +ℤ a) ≡ j → stored j (place y z) (v +ℤ a) ws ≡ put_at early late y z v a ws
  unfolding put_at kept_at
  put_at-judged j e l h = rw (e, l, h)

-- ---- what is not written stays

stored_same : (j : Judgement) (at : ℕ) (w : ℤ) (ws : List ℤ) (i : ℕ) (d : ℤ) → (i ≡ at → ⊥) → get_or (stored j at w ws).weights i d ≡ get_or ws i d
stored_same Contradiction at w ws i d n = refl
stored_same LeftOut at w ws i d n = get_or-set_other ws at i no_bound_mark d n
stored_same Kept at w ws i d n = get_or-set_other ws at i w d n

either : (b : Bool) (r : Flat) (ws : List ℤ) (i : ℕ) (d : ℤ) → get_or r.weights i d ≡ get_or ws i d
    → get_or (cond b (flat false ws) r).weights i d ≡ get_or ws i d
either true r ws i d h = refl
either false r ws i d h = h

pub put_at-same : (early late : List ℤ) (y z : ℕ) (v a : ℤ) (ws : List ℤ) (i : ℕ) (d : ℤ) → (i ≡ place y z → ⊥)
    → get_or (put_at early late y z v a ws).weights i d ≡ get_or ws i d
unfolding put_at kept_at
put_at-same early late y z v a ws i d n =
    either (eq_z v no_bound_mark) _ ws i d
    (either (le_z (weight_at ws y z) (v +ℤ a)) _ ws i d
    (stored_same (judged_at early late y z (v +ℤ a)) (place y z) (v +ℤ a) ws i d n))

stored_cell-length : (j : Judgement) (at : ℕ) (w : ℤ) (ws : List ℤ) → length (stored j at w ws).weights ≡ length ws
stored_cell-length Contradiction at w ws = refl
stored_cell-length LeftOut at w ws = length-set ws at no_bound_mark
stored_cell-length Kept at w ws = length-set ws at w

either-length : (b : Bool) (r : Flat) (ws : List ℤ) → length r.weights ≡ length ws → length (cond b (flat false ws) r).weights ≡ length ws
either-length true r ws h = refl
either-length false r ws h = h

pub put_at-length : (early late : List ℤ) (y z : ℕ) (v a : ℤ) (ws : List ℤ) → length (put_at early late y z v a ws).weights ≡ length ws
unfolding put_at kept_at
put_at-length early late y z v a ws =
    either-length (eq_z v no_bound_mark) _ ws
    (either-length (le_z (weight_at ws y z) (v +ℤ a)) _ ws
    (stored_cell-length (judged_at early late y z (v +ℤ a)) (place y z) (v +ℤ a) ws))

-- ---- what follows

pub then_flat-found : (r : Bool) (us : List ℤ) (f : List ℤ → Flat) → r ≡ true → then_flat (flat r us) f ≡ flat true us
then_flat-found true us f e = refl
then_flat-found false us f e = clash (cc)

pub then_flat-next : (r : Bool) (us : List ℤ) (f : List ℤ → Flat) → r ≡ false → then_flat (flat r us) f ≡ f us
then_flat-next true us f e = clash (cc)
then_flat-next false us f e = refl

-- ---- one turn of a loop over the nodes below n

module _ (step : ℕ → List ℤ → Flat) (n y : ℕ) (ws : List ℤ) where
  turn : y < n → each_node step y (n - y) ws ≡ then_flat (step y ws) (each_node step (y + 1) (n - (y + 1)))
  unfolding each_node
  turn h = let left : n - y ≡ suc (n - (y + 1)) = omega arith in ap (λ m. each_node step y m ws) left

  pub each_node-stop : (r : Bool) (us : List ℤ) → y < n → flat r us ≡ step y ws → r ≡ true → each_node step y (n - y) ws ≡ flat true us
  each_node-stop r us h e t =
      let rest = each_node step (y + 1) (n - (y + 1)) in
      turn h ∙ ap (λ f. then_flat f rest) (sym e) ∙ then_flat-found r us rest t

  pub each_node-past : (r : Bool) (us : List ℤ) → y < n → flat r us ≡ step y ws → r ≡ false
      → each_node step y (n - y) ws ≡ each_node step (y + 1) (n - (y + 1)) us
  each_node-past r us h e t =
      let rest = each_node step (y + 1) (n - (y + 1)) in
      turn h ∙ ap (λ f. then_flat f rest) (sym e) ∙ then_flat-next r us rest t

  pub each_node-end : n ≤ y → each_node step y (n - y) ws ≡ flat false ws
  unfolding each_node
  each_node-end h = let left : n - y ≡ 0 = omega arith in ap (λ m. each_node step y m ws) left

-- ---- what every step keeps, the loop keeps

-- what holds of an array where no contradiction was found, and what holds where one was
pub record FlatOutcome (P : List ℤ → Type 0) (F : Type 0) (r : Flat) : Type 0 where
  pub fails : r.found ≡ true → F
  pub keeps : r.found ≡ false → P r.weights

kept_then : (P : List ℤ → Type 0) (r : Flat) (f : List ℤ → Flat) (b : Bool) → r.found ≡ b → P r.weights → ((us : List ℤ) → P us → P (f us).weights)
    → P (cond b r (f r.weights)).weights
kept_then P r f true e h g = h
kept_then P r f false e h g = g r.weights h

pub then_flat-keeps : (P : List ℤ → Type 0) (r : Flat) (f : List ℤ → Flat) → P r.weights → ((us : List ℤ) → P us → P (f us).weights)
    → P (then_flat r f).weights
then_flat-keeps P r f h g = kept_then P r f r.found refl h g

outcome-then : (P Q : List ℤ → Type 0) (F : Type 0) (r : Flat) (f : List ℤ → Flat) (b : Bool) → r.found ≡ b → FlatOutcome P F r
    → ((us : List ℤ) → P us → FlatOutcome Q F (f us)) → FlatOutcome Q F (cond b r (f r.weights))
outcome-then P Q F r f true e o g = record { fails = λ h. o.fails e; keeps = λ h. clash (cc) }
outcome-then P Q F r f false e o g = g r.weights (o.keeps e)

pub then_flat-outcome : (P Q : List ℤ → Type 0) (F : Type 0) (r : Flat) (f : List ℤ → Flat) → FlatOutcome P F r
    → ((us : List ℤ) → P us → FlatOutcome Q F (f us)) → FlatOutcome Q F (then_flat r f)
then_flat-outcome P Q F r f o g = outcome-then P Q F r f r.found refl o g

each_node-keeps : (step : ℕ → List ℤ → Flat) (n : ℕ) (P : List ℤ → Type 0)
    → ((z : ℕ) (ws : List ℤ) → z < n → P ws → P (step z ws).weights)
    → (z count : ℕ) → z + count ≡ n → (ws : List ℤ) → P ws → P (each_node step z count ws).weights
unfolding each_node
each_node-keeps step n P each z zero e ws h = h
each_node-keeps step n P each z (suc count) e ws h =
    then_flat-keeps P (step z ws) (each_node step (z + 1) count) (each z ws (omega arith) h)
    (λ us k. each_node-keeps step n P each (z + 1) count (omega arith) us k)

-- a step that keeps the array's length, at each node
pub each_node-length : (step : ℕ → List ℤ → Flat) → ((z : ℕ) (ws : List ℤ) → length (step z ws).weights ≡ length ws)
    → (z count : ℕ) (ws : List ℤ) → length (each_node step z count ws).weights ≡ length ws
each_node-length step each z count ws =
    each_node-keeps step (z + count) (λ us. length us ≡ length ws) (λ z us l e. each z us ∙ e) z count refl ws refl

-- a stage for each node: each step leads from one to the next, or fails
pub each_node-outcome : (step : ℕ → List ℤ → Flat) (n : ℕ) (P : ℕ → List ℤ → Type 0) (F : Type 0)
    → ((z : ℕ) (ws : List ℤ) → z < n → P z ws → FlatOutcome (P (z + 1)) F (step z ws))
    → (z count : ℕ) → z + count ≡ n → (ws : List ℤ) → P z ws → FlatOutcome (P n) F (each_node step z count ws)
unfolding each_node
each_node-outcome step n P F each z zero e ws h =
    record {
      fails = λ f. clash (cc);
      keeps = λ f. let last : z ≡ n = omega arith in subst (λ n. P n ws) last h;
    }
each_node-outcome step n P F each z (suc count) e ws h =
    then_flat-outcome (P (z + 1)) (P n) F (step z ws) (each_node step (z + 1) count) (each z ws (omega arith) h)
    (λ us k. each_node-outcome step n P F each (z + 1) count (omega arith) us k)

-- bounds that are put one after the other keep the array's length
pub put_bounds-length : (early late : List ℤ) (bs : List Between) (ws : List ℤ) → length (put_bounds early late bs ws).weights ≡ length ws
unfolding put_bounds
put_bounds-length early late [] ws = refl
put_bounds-length early late (b ∷ bs) ws =
    then_flat-keeps (λ us. length us ≡ length ws) (put_at early late (node_of b.y) (node_of b.z) b.w (pos 0) ws) (put_bounds early late bs)
    (put_at-length early late (node_of b.y) (node_of b.z) b.w (pos 0) ws)
    (λ us e. put_bounds-length early late bs us ∙ e)

-- ---- a row of a start that is eliminated

-- whether a weight is the mark or a bound, as the machine tests it
module _ {w : ℤ} (f : SFits w32 w) where
  pub is-mark : of_z w32 w ≡ mark_number → eq_z w no_bound_mark ≡ true
  is-mark e = sym (bits-eqb f (sfits_lit tt)) ∙ eq-eqb (of_z w32 w) mark_number e

  pub no-mark : (of_z w32 w ≡ mark_number → ⊥) → eq_z w no_bound_mark ≡ false
  no-mark d = sym (bits-eqb f (sfits_lit tt)) ∙ ne_eqb (of_z w32 w) mark_number d

  pub is_bound-read : not (eqb (of_z w32 w) mark_number) ≡ is_bound w
  is_bound-read = ap not (bits-eqb f (sfits_lit tt))

-- a set made of row s has the nodes to which row s has a bound
pub bounded_nodes-has : (ws : List ℤ) (s : ℕ) (set : Events) → bits_of set ≡ bounded_nodes ws s → HasBounded ws s set
bounded_nodes-has ws s set e z h = ap (has_event z) e ∙ has_event-listed s (is_bounded ws s) z h

pub HasBounded-same : (ws us : List ℤ) (s : ℕ) (set : Events) → ((z : ℕ) → z < s → weight_at us s z ≡ weight_at ws s z) → HasBounded ws s set
    → HasBounded us s set
HasBounded-same ws us s set same has z h = has z h ∙ ap is_bound (sym (same z h))

-- the nodes from node z on, by how much they come after it: there are so many, and with one more in front, at the end with none
abbrev pub bounded_from : List ℤ → ℕ → ℕ → ℕ
bounded_from ws s z = event_set (listed (s - z) (λ i. is_bounded ws s (z + i)))

module _ (ws : List ℤ) (s z : ℕ) where
  pub bounded_from-room : s < most_bits → HasRoom (bounded_from ws s z)
  bounded_from-room h =
      let here : ℕ → Bool = λ i. is_bounded ws s (z + i) in
      event_set-room (listed (s - z) here) (omega (arith, length-listed (s - z) here))

  pub bounded_from-end : s ≤ z → 0 ≡ bounded_from ws s z
  unfolding listed
  bounded_from-end h = let none : s - z ≡ 0 = omega arith in rw none (sym event_set-nil)

  pub bounded_from-more : z < s → with_first (is_bounded ws s z) (bounded_from ws s (z + 1)) ≡ bounded_from ws s z
  unfolding listed
  bounded_from-more h =
      let left : suc (s - (z + 1)) ≡ s - z = omega arith in
      ap₂ with_first (ap (is_bounded ws s) (sym (add-zero z)))
      (ap event_set (listed-ext (s - (z + 1)) _ _ (λ i l. let place : z + 1 + i ≡ z + suc i = omega arith in ap (is_bounded ws s) place)))
      ∙ event_set-first (is_bounded ws s (z + 0)) (listed (s - (z + 1)) (λ i. is_bounded ws s (z + suc i)))
      ∙ ap (λ (k : ℕ). event_set (listed k (λ i. is_bounded ws s (z + i)))) left

pub bounded_from-all : (ws : List ℤ) (s : ℕ) → bounded_from ws s 0 ≡ bounded_nodes ws s
bounded_from-all ws s =
    let all : s - 0 ≡ s = omega arith in
    ap (λ (k : ℕ). event_set (listed k (λ i. is_bounded ws s (0 + i)))) all ∙ ap event_set (listed-ext s _ _ (λ i l. ap (is_bounded ws s) (zero-add i)))

-- a node to which row s has no bound is passed by, so that the nodes of the set are enough
module _ (early late : List ℤ) (s y : ℕ) (w : ℤ) (ws : List ℤ) (set : Events) (has : HasBounded ws s set) where
  abbrev step : ℕ → List ℤ → Flat
  step = joined_at early late s y w

  joined_cells-past : (e n : ℕ) → e < s → has_event e (bits_of set) ≡ false → each_node step e (suc n) ws ≡ each_node step (suc e) n ws
  unfolding each_node
  joined_cells-past e n h none =
      let off = not-false (eq_z (weight_at ws s e) no_bound_mark) (sym (has e h) ∙ none) in
      ap (λ (r : Flat). then_flat r (each_node step (e + 1) n)) (sym (put_at-none early late y e (weight_at ws s e) w ws off))
      ∙ ap (λ (k : ℕ). each_node step k n ws) (add-one e)

  pub joined_cells-skips : (e k : ℕ) → k ≡ next_event (bits_of set) e → each_node step e (s - e) ws ≡ each_node step k (s - k) ws
  unfolding each_node
  joined_cells-skips e k next =
      next_event-skips (bits_of set) s (λ e n. each_node step e n ws) joined_cells-past (λ e d. refl) e
      ∙ ap (λ (k : ℕ). each_node step k (s - k) ws) (sym next)

  -- so where a set's members from node e on begin with z, the first node that has something to do is z, and its members after z are left
  module _ (room : s ≤ most_bits) (e : ℕ) where
    pub joined_cells-member : (z : ℕ) (zs : List ℕ) → members_from (bits_of set) e (s - e) ≡ z ∷ zs
        → (z < s) × (each_node step e (s - e) ws ≡ each_node step z (s - z) ws) × (zs ≡ members_from (bits_of set) (z + 1) (s - (z + 1)))
    joined_cells-member z zs h = by (ltb (next_event (bits_of set) e) s) refl
      where
        next : ℕ
        next = next_event (bits_of set) e

        by : (b : Bool) → ltb next s ≡ b
            → (z < s) × (each_node step e (s - e) ws ≡ each_node step z (s - z) ws) × (zs ≡ members_from (bits_of set) (z + 1) (s - (z + 1)))
        by true low =
            let first = sym h ∙ members-first (bits_of set) e s next refl (ltb-true next s low) room in
            let same : z ≡ next = cc in
            let rest : zs ≡ members_from (bits_of set) (next + 1) (s - (next + 1)) = cc in
            subst
            (λ (z : ℕ). (z < s) × (each_node step e (s - e) ws ≡ each_node step z (s - z) ws) × (zs ≡ members_from (bits_of set) (z + 1) (s - (z + 1))))
            (sym same)
            (ltb-true next s low, joined_cells-skips e next refl, rest)
        by false high = clash (let e : z ∷ zs ≡ [] = sym h ∙ members-over (bits_of set) e s next refl (ltb-false next s high) in cc)

    pub joined_cells-over : members_from (bits_of set) e (s - e) ≡ [] → each_node step e (s - e) ws ≡ flat false ws
    joined_cells-over h = by (ltb (next_event (bits_of set) e) s) refl
      where
        next : ℕ
        next = next_event (bits_of set) e

        by : (b : Bool) → ltb next s ≡ b → each_node step e (s - e) ws ≡ flat false ws
        by true low = clash (let e = sym h ∙ members-first (bits_of set) e s next refl (ltb-true next s low) room in cc)
        by false high = joined_cells-skips e next refl ∙ each_node-end step s next ws (ltb-false next s high)

module _ (early late : List ℤ) (s y : ℕ) (ws : List ℤ) where
  pub joined_row-none : eq_z (weight_at ws y s) no_bound_mark ≡ true → flat false ws ≡ joined_row early late s y ws
  unfolding joined_row
  joined_row-none e = rw e

  pub joined_row-on : eq_z (weight_at ws y s) no_bound_mark ≡ false → joined_cells early late s y (weight_at ws y s) ws ≡ joined_row early late s y ws
  unfolding joined_row
  joined_row-on e = rw e

  -- nothing is written from the place of (y, s) on
  pub joined_row-same : (i : ℕ) (d : ℤ) → place y s ≤ i → get_or (joined_row early late s y ws).weights i d ≡ get_or ws i d
  unfolding joined_row
  joined_row-same i d h =
      either (eq_z (weight_at ws y s) no_bound_mark) _ ws i d
      (each_node-keeps (joined_at early late s y (weight_at ws y s)) s (λ us. get_or us i d ≡ get_or ws i d)
      (λ z us k e. put_at-same early late y z (weight_at us s z) (weight_at ws y s) us i d (λ q. omega arith) ∙ e)
      0
      s
      (omega arith)
      ws
      refl)

  joined_row-length : length (joined_row early late s y ws).weights ≡ length ws
  unfolding joined_row
  joined_row-length =
      either-length (eq_z (weight_at ws y s) no_bound_mark) _ ws
      (each_node-length (joined_at early late s y (weight_at ws y s)) (λ z us. put_at-length early late y z (weight_at us s z) (weight_at ws y s) us) 0 s ws)

pub joined_rows-length : (early late : List ℤ) (s : ℕ) (ws : List ℤ) → length (joined_rows early late s ws).weights ≡ length ws
joined_rows-length early late s ws = each_node-length (joined_row early late s) (λ y us. joined_row-length early late s y us) 0 s ws

-- ---- a node of a finish that is eliminated

module _ (early late : List ℤ) (s f : ℕ) (less more : ℤ) (y : ℕ) (ws : List ℤ) where
  pub moved_at-stop : (r : Bool) (us : List ℤ) → flat r us ≡ put_at early late y s (weight_at ws y f) less ws → r ≡ true
      → flat true us ≡ moved_at early late s f less more y ws
  unfolding moved_at
  moved_at-stop r us e t =
      let rest : List ℤ → Flat = λ us. put_at early late s y (weight_at us f y) more us in
      sym (ap (λ r. then_flat r rest) (sym e) ∙ then_flat-found r us rest t)

  pub moved_at-past : (r : Bool) (us : List ℤ) → flat r us ≡ put_at early late y s (weight_at ws y f) less ws → r ≡ false
      → put_at early late s y (weight_at us f y) more us ≡ moved_at early late s f less more y ws
  unfolding moved_at
  moved_at-past r us e t =
      let rest : List ℤ → Flat = λ us. put_at early late s y (weight_at us f y) more us in
      sym (ap (λ r. then_flat r rest) (sym e) ∙ then_flat-next r us rest t)

  -- nothing is written but at (y, s) and (s, y)
  pub moved_at-same : (i : ℕ) (d : ℤ) → (i ≡ place y s → ⊥) → (i ≡ place s y → ⊥) → get_or (moved_at early late s f less more y ws).weights i d ≡ get_or ws i d
  unfolding moved_at
  moved_at-same i d m n =
      then_flat-keeps (λ us. get_or us i d ≡ get_or ws i d) (put_at early late y s (weight_at ws y f) less ws) (λ us. put_at early late s y (weight_at us f y) more us)
      (put_at-same early late y s (weight_at ws y f) less ws i d m)
      (λ us e. put_at-same early late s y (weight_at us f y) more us i d n ∙ e)

  moved_at-length : length (moved_at early late s f less more y ws).weights ≡ length ws
  unfolding moved_at
  moved_at-length =
      then_flat-keeps (λ us. length us ≡ length ws) (put_at early late y s (weight_at ws y f) less ws) (λ us. put_at early late s y (weight_at us f y) more us)
      (put_at-length early late y s (weight_at ws y f) less ws)
      (λ us e. put_at-length early late s y (weight_at us f y) more us ∙ e)

pub moved_rows-length : (early late : List ℤ) (s f : ℕ) (less more : ℤ) (ws : List ℤ) → length (moved_rows early late s f less more ws).weights ≡ length ws
moved_rows-length early late s f less more ws =
    each_node-length (moved_at early late s f less more) (λ y us. moved_at-length early late s f less more y us) 0 f ws
