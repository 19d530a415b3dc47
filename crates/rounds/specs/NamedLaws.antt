-- The own bounds and the bounds between windows name events that an accepted plan has, with weights below the mark (`own-named`, `own-named-both`,
-- `between-named`). So the own bounds, put into an empty array, are C(0) (`own_is`).
use Prim.Native.Nat.{ℕ, zero, suc, ◌+◌, ◌-◌, ◌≤◌, ◌<◌}
use Rattle.std.specs.Prelude.{◌≡◌, refl, Bool, true, false, cond, ◌||◌, List, [], ◌∷◌, ℤ, neg_ℤ, ◌≤ℤ◌, ◌<ℤ◌}
use Rattle.std.proofs.Common.{subst}
use native.Mathlib.Omega.{arith}
use Rattle.whole.specs.Clash.{clash}
use Rattle.whole.specs.SplitLaws.{split-neg}
use Rattle.whole.specs.Rules.{wholes}
use Rattle.plan.specs.declared.Letter.{Letter}
use Rattle.plan.specs.declared.Letter.TheVariants.{This, Next}
use Rattle.plan.specs.declared.Kind.{Kind}
use Rattle.plan.specs.declared.Kind.TheVariants as kind
use Rattle.plan.specs.declared.EventName.{EventName}
use Rattle.plan.specs.declared.Bound.{Bound}
use Rattle.plan.specs.declared.Plan.{Plan}
use Rattle.plan.specs.Limits.{greatest_c}
use Rattle.plan.specs.EventNames.{is_next}
use Rattle.plan.specs.PlanLines.{no_bound}
use Rattle.plan.specs.PlanWritten.{bounds_of}
use Rattle.plan.specs.Accepted.{BoundAccepted, Accepted}
use Rattle.plan.specs.ListLaws.{All, All-of}
use Rattle.bounds.specs.declared.Event.{Event}
use Rattle.bounds.specs.declared.Event.TheVariants.{Start, Finish}
use Rattle.bounds.specs.Events.{node_of, earliest, latest, event_of, nodes}
use Rattle.bounds.specs.BuildLaws.{event_of-node_of}
use Rattle.bounds.specs.JudgedTableLaws.{earliest-in, latest-in}
use Rattle.bounds.specs.Tables.{Between, contradiction, bounds}
use Rattle.bounds.specs.Flat.{rows_of, put_bounds, no_bounds}
use Rattle.bounds.specs.Flat as flat
use Rattle.bounds.specs.Held.{TimesHeld}
use Rattle.bounds.specs.TimesHeldLaws.{times_below, nodes-room}
use Rattle.bounds.specs.BoundsLaws.{WithinNodes, AllWithinNodes, all_named-append, put_bounds-is}
use Rattle.rounds.specs.Given.{place_of, event_at, named, meant, has_next, given_bounds, up_to, down_to, in_order, ranges, orders, own_bounds, between_bounds}
use Rattle.rounds.specs.Rounds.{C0}

-- ---- the bounds of an accepted plan

bounds_of-accepted : (p : Plan) → Accepted p → All (BoundAccepted p.jobs) (bounds_of p)
bounds_of-accepted p a =
    All-of (BoundAccepted p.jobs) p.bound no_bound p.bounds (let most = a.bounds-most in omega (arith, a.bound-places)) a.bound_at

-- ---- the events that they name

pub event_at-node : (k : Kind) (i n : ℕ) → i < n → node_of (event_at k i) < nodes n
unfolding node_of
event_at-node kind.Start i n h = omega arith
event_at-node kind.Finish i n h = omega arith

place_of-both : (p : Plan) (l : Letter) (i : ℕ) → 1 ≤ i → i ≤ p.jobs → place_of p l i < p.jobs + p.jobs
place_of-both p This i a b = omega arith
place_of-both p Next i a b = omega arith

place_of-this : (p : Plan) (l : Letter) (i : ℕ) → 1 ≤ i → i ≤ p.jobs → is_next l ≡ false → place_of p l i < p.jobs
place_of-this p This i a b e = omega arith
place_of-this p Next i a b e = clash (cc)

named-both : (p : Plan) (e : EventName) → 1 ≤ e.job → e.job ≤ p.jobs → node_of (named p e) < nodes (p.jobs + p.jobs)
named-both p e a b = event_at-node e.kind (place_of p e.letter e.job) (p.jobs + p.jobs) (place_of-both p e.letter e.job a b)

named-this : (p : Plan) (e : EventName) → 1 ≤ e.job → e.job ≤ p.jobs → is_next e.letter ≡ false → node_of (named p e) < nodes p.jobs
named-this p e a b t = event_at-node e.kind (place_of p e.letter e.job) p.jobs (place_of-this p e.letter e.job a b t)

c-low : (c : ℤ) → c ≤ℤ greatest_c → c <ℤ flat.no_bound_mark
c-low c h = omega wholes

meant-both : (p : Plan) (d : Bound) → BoundAccepted p.jobs d → WithinNodes (nodes (p.jobs + p.jobs)) (meant p d)
meant-both p d a =
    record { from = named-both p d.b a.b-least a.b-most; to = named-both p d.a a.a-least a.a-most; low = c-low d.c a.c-most }

meant-this : (p : Plan) (d : Bound) → BoundAccepted p.jobs d → (x y : Bool) → is_next d.a.letter ≡ x → is_next d.b.letter ≡ y → x || y ≡ false
    → WithinNodes (nodes p.jobs) (meant p d)
meant-this p d a false false s t e =
    record { from = named-this p d.b a.b-least a.b-most t; to = named-this p d.a a.a-least a.a-most s; low = c-low d.c a.c-most }
meant-this p d a false true s t e = clash (cc)
meant-this p d a true y s t e = clash (cc)

-- ---- the given bounds

if-named : (k : ℕ) (b : Between) (bs : List Between) (n : Bool) → (n ≡ true → WithinNodes k b) → AllWithinNodes k bs → AllWithinNodes k (cond n (b ∷ bs) bs)
if-named k b bs true h a = (h refl, a)
if-named k b bs false h a = a

unless-named : (k : ℕ) (b : Between) (bs : List Between) (n : Bool) → (n ≡ false → WithinNodes k b) → AllWithinNodes k bs
    → AllWithinNodes k (cond n bs (b ∷ bs))
unless-named k b bs true h a = a
unless-named k b bs false h a = (h refl, a)

given-this : (p : Plan) (ds : List Bound) → All (BoundAccepted p.jobs) ds → AllWithinNodes (nodes p.jobs) (given_bounds p false ds)
unfolding given_bounds
given-this p [] a = tt
given-this p (d ∷ ds) a =
    unless-named (nodes p.jobs) (meant p d) (given_bounds p false ds) (has_next d)
    (meant-this p d a.0 (is_next d.a.letter) (is_next d.b.letter) refl refl)
    (given-this p ds a.1)

given-next : (p : Plan) (ds : List Bound) → All (BoundAccepted p.jobs) ds → AllWithinNodes (nodes (p.jobs + p.jobs)) (given_bounds p true ds)
unfolding given_bounds
given-next p [] a = tt
given-next p (d ∷ ds) a =
    if-named (nodes (p.jobs + p.jobs)) (meant p d) (given_bounds p true ds) (has_next d) (λ e. meant-both p d a.0) (given-next p ds a.1)

-- ---- ranges and orders

module _ (p : Plan) (a : Accepted p) where
  latest-low : (e : Event) → node_of e < nodes (p.jobs + p.jobs) → latest p e <ℤ flat.no_bound_mark
  latest-low e h =
      subst (λ e. latest p e <ℤ flat.no_bound_mark) (event_of-node_of e)
      (let top = (latest-in p a (node_of e) h).greatest in omega wholes)

  earliest-low : (e : Event) → node_of e < nodes (p.jobs + p.jobs) → neg_ℤ (earliest p e) <ℤ flat.no_bound_mark
  earliest-low e h =
      subst (λ e. neg_ℤ (earliest p e) <ℤ flat.no_bound_mark) (event_of-node_of e)
      (let low = (earliest-in p a (node_of e) h).least in omega (wholes, split-neg (earliest p (event_of (node_of e)))))

  module _ (n : ℕ) (most : n ≤ p.jobs + p.jobs) where
    up_to-named : (e : Event) → node_of e < nodes n → WithinNodes (nodes n) (up_to p e)
    unfolding node_of
    up_to-named e h = record { from = omega arith; to = h; low = latest-low e (omega arith) }

    down_to-named : (e : Event) → node_of e < nodes n → WithinNodes (nodes n) (down_to p e)
    unfolding node_of
    down_to-named e h = record { from = h; to = omega arith; low = earliest-low e (omega arith) }

    ranges-named : (k : ℕ) → k ≤ n → AllWithinNodes (nodes n) (ranges p k)
    unfolding ranges node_of
    ranges-named zero h = tt
    ranges-named (suc k) h =
        let s : node_of (Start k) < nodes n = omega arith in
        let f : node_of (Finish k) < nodes n = omega arith in
        (up_to-named (Start k) s, (down_to-named (Start k) s, (up_to-named (Finish k) f, (down_to-named (Finish k) f, ranges-named k (omega arith)))))

in_order-named : (k n : ℕ) → suc k < n → WithinNodes (nodes n) (in_order k)
unfolding node_of
in_order-named k n h = record { from = omega arith; to = omega arith; low = omega wholes }

orders-named : (k n : ℕ) → k < n → AllWithinNodes (nodes n) (orders k)
unfolding orders
orders-named zero n h = tt
orders-named (suc k) n h = (in_order-named k n h, orders-named k n (omega arith))

-- ---- all of them

pub own-named : (p : Plan) → Accepted p → AllWithinNodes (nodes p.jobs) (own_bounds p)
unfolding own_bounds
own-named p a =
    let some = a.jobs-least in
    all_named-append (nodes p.jobs) (ranges p p.jobs) _ (ranges-named p a p.jobs (omega arith) p.jobs (omega arith))
    (all_named-append (nodes p.jobs) (orders (p.jobs - 1)) _ (orders-named (p.jobs - 1) p.jobs (omega arith))
    (given-this p (bounds_of p) (bounds_of-accepted p a)))

all_named-more : (k n : ℕ) → k ≤ n → (bs : List Between) → AllWithinNodes k bs → AllWithinNodes n bs
all_named-more k n h [] a = tt
all_named-more k n h (b ∷ bs) a = (
  let from = a.0.from in
      let to = a.0.to in
      record { from = omega arith; to = omega arith; low = a.0.low },
  all_named-more k n h bs a.1,
)

pub own-named-both : (p : Plan) → Accepted p → AllWithinNodes (nodes (p.jobs + p.jobs)) (own_bounds p)
own-named-both p a = all_named-more (nodes p.jobs) (nodes (p.jobs + p.jobs)) (omega arith) (own_bounds p) (own-named p a)

pub between-named : (p : Plan) → Accepted p → AllWithinNodes (nodes (p.jobs + p.jobs)) (between_bounds p)
unfolding between_bounds
between-named p a =
    let some = a.jobs-least in
    (in_order-named (p.jobs - 1) (p.jobs + p.jobs) (omega arith), given-next p (bounds_of p) (bounds_of-accepted p a))

-- 'C(0) is one window's own bounds.'
pub own_is : (p : Plan) (early late : List ℤ) → TimesHeld p early late
    → let r = put_bounds early late (own_bounds p) no_bounds in cond r.found contradiction (bounds (rows_of (nodes p.jobs) r.weights)) ≡ C0 p
unfolding C0
own_is p early late times-held =
    let room = nodes-room times-held.accepted in
    put_bounds-is p (nodes p.jobs) early late (times_below (nodes (p.jobs + p.jobs)) (nodes p.jobs) (omega arith) times-held.times) (omega arith)
    (own_bounds p)
    (own-named p times-held.accepted)
