-- The bounds of a plan before they are judged, and what they say of times: a window's own bounds and those between windows are kept exactly if
-- the plan's bounds are, where each start leaves its job the longest running time before the deadline (that is the start's latest). The list of which
-- these sets are made holds the bounds at the plan's places and no others (`places-listed`).
use Prim.Native.Nat.{ℕ, zero, suc, ◌-◌, ◌<◌}
use Rattle.std.specs.Prelude.{◌≡◌, ◌↔◌, Bool, cond, ◌&&◌, eqb, ℤ, ◌-ℤ◌, ◌≤ℤ◌, length, get_or}
use Rattle.std.proofs.Math.Path.{refl, subst}
use Rattle.std.proofs.Common.{sym, ap, ◌∙◌, arith, length-take, get_or-take, eq-eqb, eqb-true}
use Rattle.std.proofs.Math.Logic.{⊎_elim}
use Rattle.std.proofs.Math.Bool.{true, false}
use mathlib.Core.List.Memᴰ
use mathlib.Core.List.{List, [], ◌∷◌, ◌++◌, Memᴰ}
use Rattle.whole.specs.Clash.{clash}
use Rattle.plan.specs.declared.Bound.{Bound}
use Rattle.plan.specs.declared.Plan.{Plan}
use Rattle.plan.specs.PlanLines.{no_bound}
use Rattle.plan.specs.PlanWritten.{bounds_of}
use Rattle.plan.specs.ListLaws.{All}
use Rattle.plan.specs.EventNames.{is_next}
use Rattle.plan.specs.Accepted.{BoundAccepted, Accepted}
use Rattle.bounds.specs.declared.Event.TheVariants.{Start, Finish}
use Rattle.bounds.specs.Events.{event_of, node_of}
use Rattle.bounds.specs.Tables.{Cell, upto, lesser_cell, Between, least_of}
use Rattle.bounds.specs.BuildLaws.{both_true, event_of-node_of}
use Rattle.rounds.specs.Given.{meant, has_next, given_bounds, up_to, down_to, in_order, ranges, orders, own_bounds, between_bounds}
use Rattle.strategy.specs.Histories.{History}
use Rattle.strategy.specs.Strategies.{bound_in}
use Rattle.strategy.proofs.Keeping.{Holds, when, gap, Keeps}
use Rattle.strategy.proofs.AcceptedLaws.{one-this, bounds-there}
use Rattle.strategy.proofs.CellLaws.{least_iff}
use Rattle.strategy.proofs.EliminationLaws.{below-or-last}

-- ---- the plan's bounds, place by place and as a list

-- where an element of a list stands
place_of : {d : Bound} {ds : List Bound} → Memᴰ d ds → (i : ℕ) × (i < length ds) × (get_or ds i no_bound ≡ d)
place_of (Memᴰ.head e) = (0, omega arith, sym e)
place_of (Memᴰ.tail m) = let r = place_of m in (suc r.0, omega arith, r.2)

stands-in : (ds : List Bound) (i : ℕ) → i < length ds → Memᴰ (get_or ds i no_bound) ds
stands-in [] i h = absurd (omega arith)
stands-in (d ∷ ds) zero h = Memᴰ.head refl
stands-in (d ∷ ds) (suc i) h = Memᴰ.tail (stands-in ds i (omega arith))

pub places-listed : (p : Plan) → Accepted p → (P : Bound → Type 0)
    → ((k : ℕ) → k < p.bounds → P (bound_in p k)) ↔ ((d : Bound) → Memᴰ d (bounds_of p) → P d)
places-listed p good P =
    let there = bounds-there p good in
    let n = length-take p.bounds p.bound in (
      λ f d m.
          let r = place_of m in
          let l : r.0 < p.bounds = omega (arith, r.1) in
          subst P (sym (get_or-take p.bounds p.bound r.0 no_bound l) ∙ r.2) (f r.0 l),
      λ f k l. subst P (get_or-take p.bounds p.bound k no_bound l) (f _ (stands-in (bounds_of p) k (omega arith))),
    )

module _ (p : Plan) (good : Accepted p) where
  pub listed-accepted : (d : Bound) → Memᴰ d (bounds_of p) → BoundAccepted p.jobs d
  listed-accepted = (places-listed p good (BoundAccepted p.jobs)).0 good.bound_at

  pub listed-one-this : (d : Bound) → Memᴰ d (bounds_of p) → is_next d.a.letter ≡ true → is_next d.b.letter ≡ false
  listed-one-this = (places-listed p good (λ d. is_next d.a.letter ≡ true → is_next d.b.letter ≡ false)).0 (one-this p good)

-- ---- what holds of all bounds of a list

module _ (P : Between → Type 0) where
  all-each : (bs : List Between) → ((b : Between) → Memᴰ b bs → P b) → All P bs
  all-each [] f = tt
  all-each (a ∷ bs) f = (f a (Memᴰ.head refl), all-each bs (λ b m. f b (Memᴰ.tail m)))

  all_one : (bs : List Between) → All P bs → (b : Between) → Memᴰ b bs → P b
  all_one [] f b m = absurd (Memᴰ.not-nil m)
  all_one (a ∷ bs) f b m = ⊎_elim (λ (e : b ≡ a). subst P (sym e) f.0) (λ n. all_one bs f.1 b n) (Memᴰ.cases_cons m)

  all_join : (xs bs : List Between) → All P xs → All P bs → All P (xs ++ bs)
  all_join [] bs f g = g
  all_join (a ∷ xs) bs f g = (f.0, all_join xs bs f.1 g)

  all_left : (xs bs : List Between) → All P (xs ++ bs) → All P xs
  all_left [] bs f = tt
  all_left (a ∷ xs) bs f = (f.0, all_left xs bs f.1)

  all_right : (xs bs : List Between) → All P (xs ++ bs) → All P bs
  all_right [] bs f = f
  all_right (a ∷ xs) bs f = all_right xs bs f.1

-- ---- the least weight of a list

module _ (y z : ℕ) (x : ℤ) where
  -- b says something of the pair y, z, and x keeps it
  abbrev pub PairKept : Between → Type 0
  PairKept b = node_of b.y ≡ y → node_of b.z ≡ z → x ≤ℤ b.w

  pair_kept-first : (b : Between) (c : Cell) (t : Bool) → (eqb (node_of b.y) y && eqb (node_of b.z) z) ≡ t
      → Holds (cond t (lesser_cell (upto b.w) c) c) x → PairKept b × Holds c x
  pair_kept-first b c true e h =
      let r = (least_iff (upto b.w) c x).0 h in
      (λ i j. r.0, r.1)
  pair_kept-first b c false e h = (
    λ i j. absurd (let t : (eqb (node_of b.y) y && eqb (node_of b.z) z) ≡ true = rw (eq-eqb (node_of b.y) y i, eq-eqb (node_of b.z) z j) in
        clash (cc)),
    h,
  )

  first-pair_kept : (b : Between) (c : Cell) (t : Bool) → (eqb (node_of b.y) y && eqb (node_of b.z) z) ≡ t
      → PairKept b → Holds c x → Holds (cond t (lesser_cell (upto b.w) c) c) x
  first-pair_kept b c true e s h =
      let r = both_true (eqb (node_of b.y) y) (eqb (node_of b.z) z) e in
      (least_iff (upto b.w) c x).1 (s (eqb-true (node_of b.y) y r.0) (eqb-true (node_of b.z) z r.1), h)
  first-pair_kept b c false e s h = h

  pub least_of-pair_kept : (bs : List Between) → Holds (least_of bs y z) x → All PairKept bs
  unfolding least_of
  least_of-pair_kept [] h = tt
  least_of-pair_kept (b ∷ bs) h =
      let r = pair_kept-first b (least_of bs y z) _ refl h in
      (r.0, least_of-pair_kept bs r.1)

  pair_kept-least_of : (bs : List Between) → All PairKept bs → Holds (least_of bs y z) x
  unfolding least_of
  pair_kept-least_of [] f = tt
  pair_kept-least_of (b ∷ bs) f = first-pair_kept b (least_of bs y z) _ refl f.0 (pair_kept-least_of bs f.1)

-- ---- times that keep a list of bounds

abbrev pub BetweenKept : History → Between → Type 0
BetweenKept u b = (when u b.z -ℤ when u b.y) ≤ℤ b.w

pub record Below (k : ℕ) (b : Between) : Type 0 where
  pub y : node_of b.y < k
  pub z : node_of b.z < k

pub least_of-kept : (k : ℕ) (bs : List Between) (u : History) → All (Below k) bs → Keeps k (least_of bs) u → All (BetweenKept u) bs
least_of-kept k bs u low kept =
    all-each (BetweenKept u) bs
    (λ b m.
    let l = all_one (Below k) bs low b m in
    let x = gap u (node_of b.y) (node_of b.z) in
    let said = least_of-pair_kept (node_of b.y) (node_of b.z) x bs (kept (node_of b.y) (node_of b.z) l.y l.z) in
    let h = all_one (PairKept (node_of b.y) (node_of b.z) x) bs said b m refl refl in
    rw (event_of-node_of b.y, event_of-node_of b.z) at h)

pub kept-least_of : (k : ℕ) (bs : List Between) (u : History) → All (BetweenKept u) bs → Keeps k (least_of bs) u
kept-least_of k bs u kept y z a b =
    pair_kept-least_of y z (gap u y z) bs
    (all-each (PairKept y z (gap u y z)) bs
    (λ d m i j.
    rw (ap event_of (sym i) ∙ event_of-node_of d.y, ap event_of (sym j) ∙ event_of-node_of d.z) (all_one (BetweenKept u) bs kept d m)))

-- ---- a bound that stands in a list where a test holds, or where it does not

module _ (P : Between → Type 0) where
  all-if : (n : Bool) (a : Between) (bs : List Between) → (n ≡ true → P a) → All P bs → All P (cond n (a ∷ bs) bs)
  all-if true a bs h f = (h refl, f)
  all-if false a bs h f = f

  all-unless : (n : Bool) (a : Between) (bs : List Between) → (n ≡ false → P a) → All P bs → All P (cond n bs (a ∷ bs))
  all-unless true a bs h f = f
  all-unless false a bs h f = (h refl, f)

  each-if : (n : Bool) (a : Between) (bs : List Between) → All P (cond n (a ∷ bs) bs) → (n ≡ true → P a) × All P bs
  each-if true a bs f = (λ e. f.0, f.1)
  each-if false a bs f = (λ e. clash (cc), f)

  each-unless : (n : Bool) (a : Between) (bs : List Between) → All P (cond n bs (a ∷ bs)) → (n ≡ false → P a) × All P bs
  each-unless true a bs f = (λ e. clash (cc), f)
  each-unless false a bs f = (λ e. f.0, f.1)

-- ---- the three parts of a window's own bounds

module _ (P : Between → Type 0) where
  module _ (p : Plan) where
    -- the four bounds that one job's range makes
    pub record RangeBounds (i : ℕ) : Type 0 where
      pub start_up : P (up_to p (Start i))
      pub start_down : P (down_to p (Start i))
      pub finish_up : P (up_to p (Finish i))
      pub finish_down : P (down_to p (Finish i))

    all-ranges : (k : ℕ) → ((i : ℕ) → i < k → RangeBounds i) → All P (ranges p k)
    unfolding ranges
    all-ranges zero f = tt
    all-ranges (suc k) f =
        let r = f k (omega arith) in
        (r.start_up, (r.start_down, (r.finish_up, (r.finish_down, all-ranges k (λ i h. f i (omega arith))))))

    each-range : (k : ℕ) → All P (ranges p k) → (i : ℕ) → i < k → RangeBounds i
    unfolding ranges
    each-range zero f i h = absurd (omega arith)
    each-range (suc k) f i h =
        ⊎_elim (λ (a : i < k). each-range k f.1.1.1.1 i a)
        (λ (a : i ≡ k). subst RangeBounds (sym a) (record { start_up = f.0; start_down = f.1.0; finish_up = f.1.1.0; finish_down = f.1.1.1.0 }))
        (below-or-last i k h)

    all-given : (t : Bool) (ds : List Bound) → ((d : Bound) → Memᴰ d ds → has_next d ≡ t → P (meant p d)) → All P (given_bounds p t ds)
    unfolding given_bounds
    all-given t [] f = tt
    all-given true (d ∷ ds) f =
        all-if P (has_next d) (meant p d) (given_bounds p true ds) (f d (Memᴰ.head refl)) (all-given true ds (λ c m. f c (Memᴰ.tail m)))
    all-given false (d ∷ ds) f =
        all-unless P (has_next d) (meant p d) (given_bounds p false ds) (f d (Memᴰ.head refl)) (all-given false ds (λ c m. f c (Memᴰ.tail m)))

    each-given : (t : Bool) (ds : List Bound) → All P (given_bounds p t ds) → (d : Bound) → Memᴰ d ds → has_next d ≡ t → P (meant p d)
    unfolding given_bounds
    each-given t [] f d m n = absurd (Memᴰ.not-nil m)
    each-given true (c ∷ ds) f d m n =
        let r = each-if P (has_next c) (meant p c) (given_bounds p true ds) f in
        ⊎_elim (λ (e : d ≡ c). subst (λ d. has_next d ≡ true → P (meant p d)) (sym e) r.0 n) (λ k. each-given true ds r.1 d k n) (Memᴰ.cases_cons m)
    each-given false (c ∷ ds) f d m n =
        let r = each-unless P (has_next c) (meant p c) (given_bounds p false ds) f in
        ⊎_elim (λ (e : d ≡ c). subst (λ d. has_next d ≡ false → P (meant p d)) (sym e) r.0 n) (λ k. each-given false ds r.1 d k n) (Memᴰ.cases_cons m)

  all-orders : (k : ℕ) → ((i : ℕ) → i < k → P (in_order i)) → All P (orders k)
  unfolding orders
  all-orders zero f = tt
  all-orders (suc k) f = (f k (omega arith), all-orders k (λ i h. f i (omega arith)))

  each-order : (k : ℕ) → All P (orders k) → (i : ℕ) → i < k → P (in_order i)
  unfolding orders
  each-order zero f i h = absurd (omega arith)
  each-order (suc k) f i h =
      ⊎_elim (λ (a : i < k). each-order k f.1 i a)
      (λ (a : i ≡ k). subst (λ i. P (in_order i)) (sym a) f.0)
      (below-or-last i k h)

-- ---- the two lists as a whole

module _ (P : Between → Type 0) (p : Plan) where
  pub record OwnAll : Type 0 where
    pub ranged : (i : ℕ) → i < p.jobs → RangeBounds P p i
    pub ordered : (i : ℕ) → suc i < p.jobs → P (in_order i)
    pub given : (d : Bound) → Memᴰ d (bounds_of p) → has_next d ≡ false → P (meant p d)

  pub own-all : OwnAll → All P (own_bounds p)
  unfolding own_bounds
  own-all o =
      all_join P (ranges p p.jobs) _ (all-ranges P p p.jobs o.ranged)
      (all_join P (orders (p.jobs - 1)) _ (all-orders P (p.jobs - 1) (λ i h. o.ordered i (omega arith)))
      (all-given P p false (bounds_of p) o.given))

  pub all_own : All P (own_bounds p) → OwnAll
  unfolding own_bounds
  all_own f =
      let g = all_right P (ranges p p.jobs) _ f in
      record {
        ranged = each-range P p p.jobs (all_left P (ranges p p.jobs) _ f);
        ordered = λ i h. each-order P (p.jobs - 1) (all_left P (orders (p.jobs - 1)) _ g) i (omega arith);
        given = each-given P p false (bounds_of p) (all_right P (orders (p.jobs - 1)) _ g);
      }

  pub record AcrossAll : Type 0 where
    pub ordered : P (in_order (p.jobs - 1))
    pub given : (d : Bound) → Memᴰ d (bounds_of p) → has_next d ≡ true → P (meant p d)

  pub across-all : AcrossAll → All P (between_bounds p)
  unfolding between_bounds
  across-all a = (a.ordered, all-given P p true (bounds_of p) a.given)

  pub all-across : All P (between_bounds p) → AcrossAll
  unfolding between_bounds
  all-across f = record { ordered = f.0; given = each-given P p true (bounds_of p) f.1 }
