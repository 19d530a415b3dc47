-- How the own bounds are put: the two of an event, and one place after the other, from the last to the first.
use Rattle.std.specs.Prelude.{ℕ, zero, suc, ◌+◌, ◌*◌, ◌-◌, ◌≤◌, ◌<◌, ◌≡◌, refl, Bool, true, false, List, [], ◌∷◌, ◌++◌, ℤ, pos, neg_ℤ}
use Rattle.std.proofs.Common.{sym, ap₂, ◌∙◌, arith}
use Rattle.std.proofs.Math.Path.{ap}
use Rattle.plan.specs.declared.Plan.{Plan}
use Rattle.bounds.specs.declared.Event.{Event}
use Rattle.bounds.specs.declared.Event.TheVariants.{Origin, Start, Finish}
use Rattle.bounds.specs.Events.{node_of, event_of, earliest, latest, nodes}
use Rattle.bounds.specs.BuildLaws.{event_of-node_of}
use Rattle.bounds.specs.EventsLaws.{node_of-event_of}
use Rattle.bounds.specs.Tables.{Between}
use Rattle.bounds.specs.Spans.{time_of_node, Times}
use Rattle.bounds.specs.Flat.{flat, put_at, put_bounds}
use Rattle.bounds.specs.BoundsLaws.{put_bounds-none, put_bounds-one, put_bounds-stop, put_bounds-past}
use Rattle.rounds.specs.Given.{up_to, down_to, in_order, ranges, orders}
use Rattle.rounds.specs.Put.{range_of, range_of_place, ranges_of}

-- ---- the two bounds of the event of a node

abbrev pub up_bound : List ℤ → ℕ → Between
up_bound late y = record { y = Origin; z = event_of y; w = time_of_node late (node_of (event_of y)) }

abbrev pub down_bound : List ℤ → ℕ → Between
down_bound early y = record { y = event_of y; z = Origin; w = neg_ℤ (time_of_node early (node_of (event_of y))) }

module _ (early late : List ℤ) (y : ℕ) (ws : List ℤ) where
  pub up_is : put_at early late 0 y (time_of_node late y) (pos 0) ws ≡ put_bounds early late (up_bound late y ∷ []) ws
  unfolding node_of
  up_is = ap (λ n. put_at early late 0 n (time_of_node late n) (pos 0) ws) (sym (node_of-event_of y)) ∙ put_bounds-one early late (up_bound late y) ws

  pub down_is : put_at early late y 0 (neg_ℤ (time_of_node early y)) (pos 0) ws ≡ put_bounds early late (down_bound early y ∷ []) ws
  unfolding node_of
  down_is = ap (λ n. put_at early late n 0 (neg_ℤ (time_of_node early n)) (pos 0) ws) (sym (node_of-event_of y)) ∙ put_bounds-one early late (down_bound early y) ws

-- ---- place by place, from the last to the first

-- the bounds of so many places are those of the last of them, and then those of the others
pub record PlaceByPlace (own all : ℕ → List Between) : Type 0 where
  pub more : (k : ℕ) → all (suc k) ≡ own k ++ all k
  pub none : all 0 ≡ []

pub ranges_of-places : (early late : List ℤ) → PlaceByPlace (range_of_place early late) (ranges_of early late)
unfolding ranges_of
ranges_of-places early late = record { more = λ k. refl; none = refl }

pub orders-places : PlaceByPlace (λ k. in_order k ∷ []) orders
unfolding orders
orders-places = record { more = λ k. refl; none = refl }

-- one turn of a loop over the places
module _ {own all : ℕ → List Between} (b : PlaceByPlace own all) (early late : List ℤ) (left : ℕ) (ws : List ℤ) where
  turn : 0 < left → put_bounds early late (all left) ws ≡ put_bounds early late (own (left - 1) ++ all (left - 1)) ws
  turn h = let last : left ≡ suc (left - 1) = omega arith in ap (λ bs. put_bounds early late bs ws) (ap all last ∙ b.more (left - 1))

  module _ (r : Bool) (us : List ℤ) (h : 0 < left) (e : flat r us ≡ put_bounds early late (own (left - 1)) ws) where
    pub places-stop : r ≡ true → put_bounds early late (all left) ws ≡ flat true us
    places-stop t = turn h ∙ sym (put_bounds-stop early late (own (left - 1)) (all (left - 1)) ws r us e t)

    pub places-past : r ≡ false → put_bounds early late (all left) ws ≡ put_bounds early late (all (left - 1)) us
    places-past t = turn h ∙ sym (put_bounds-past early late (own (left - 1)) (all (left - 1)) ws r us e t)

  pub places-end : left ≡ 0 → put_bounds early late (all left) ws ≡ flat false ws
  places-end z = ap (λ bs. put_bounds early late bs ws) (ap all z ∙ b.none) ∙ put_bounds-none early late ws

pub order_is : (early late : List ℤ) (k : ℕ) (ws : List ℤ) → put_at early late (3 + 2 * k) (2 + 2 * k) (pos 0) (pos 0) ws
    ≡ put_bounds early late (in_order k ∷ []) ws
unfolding node_of
order_is early late k ws =
    let next : 3 + 2 * k ≡ 1 + 2 * suc k = omega arith in
    ap (λ n. put_at early late n (2 + 2 * k) (pos 0) (pos 0) ws) next ∙ put_bounds-one early late (in_order k) ws

-- ---- with a plan's times they are the plan's bounds

event-range : (p : Plan) (early late : List ℤ) (e : Event) → time_of_node early (node_of e) ≡ earliest p e → time_of_node late (node_of e) ≡ latest p e
    → range_of early late e ≡ up_to p e ∷ down_to p e ∷ []
event-range p early late e a b =
    ap₂ (λ l u. record { y = Origin; z = e; w = l } ∷ record { y = e; z = Origin; w = neg_ℤ u } ∷ []) b a

at-event : (p : Plan) (early late : List ℤ) (n : ℕ) → Times p n early late → (e : Event) → node_of e < n → range_of early late e ≡ up_to p e ∷ down_to p e ∷ []
at-event p early late n t e h =
    event-range p early late e (t.earliest-at (node_of e) h ∙ ap (earliest p) (event_of-node_of e)) (t.latest-at (node_of e) h ∙ ap (latest p) (event_of-node_of e))

pub ranges_of-is : (p : Plan) (early late : List ℤ) (n : ℕ) → Times p n early late → (k : ℕ) → nodes k ≤ n → ranges_of early late k ≡ ranges p k
unfolding ranges_of ranges node_of
ranges_of-is p early late n t zero h = refl
ranges_of-is p early late n t (suc k) h =
    ap₂ ◌++◌ (ap₂ ◌++◌ (at-event p early late n t (Start k) (omega arith)) (at-event p early late n t (Finish k) (omega arith)))
    (ranges_of-is p early late n t k (omega arith))
