-- One window and the next: the plan's bounds on them, as the lists of `Given` have them. `Held` is the plan's bounds with the start's latest;
-- it holds exactly if the times keep the window's own bounds and, where the next window has been seen, those between the two.
use Rattle.std.specs.Prelude.{ℕ, suc, ◌+◌, ◌-◌, ◌≤◌, ◌<◌, ◌≡◌, refl, ◌⊎◌, Bool, true, false, ℤ, pos, neg_ℤ, ◌+ℤ◌, ◌-ℤ◌, ◌≤ℤ◌, length}
use Rattle.std.proofs.Common.{sym, subst, inl, inr, ⊎_elim, lt-ltb}
use mathlib.Core.List.{Memᴰ}
use native.Mathlib.Omega.{arith}
use Rattle.whole.specs.Clash.{clash}
use Rattle.whole.specs.SplitLaws.{split-neg, split-add}
use Rattle.whole.specs.Rules.{wholes}
use Rattle.whole.specs.Shape.{any, ◌⊕◌, ◌⊖◌, le}
use Rattle.whole.specs.ShapeLaws.{reads, shows}
use Rattle.plan.specs.declared.Letter.{Letter}
use Rattle.plan.specs.declared.Letter.TheVariants.{This, Next}
use Rattle.plan.specs.declared.Kind.{Kind}
use Rattle.plan.specs.declared.Kind.TheVariants as kind
use Rattle.plan.specs.declared.Bound.{Bound}
use Rattle.plan.specs.declared.Plan.{Plan}
use Rattle.plan.specs.EventNames.{is_next}
use Rattle.plan.specs.PlanWritten.{bounds_of}
use Rattle.plan.specs.Accepted.{Accepted}
use Rattle.plan.specs.ListLaws.{All}
use Rattle.bounds.specs.Events.{job_at, shift, earliest, latest, node_of, nodes}
use Rattle.bounds.specs.BuildLaws.{either_true, neither-true}
use Rattle.rounds.specs.Given.{place_of, event_at, meant, has_next, in_order, own_bounds, between_bounds}
use Rattle.strategy.specs.Histories.{History, turn}
use Rattle.strategy.specs.Strategies.{ran_in, place_in, kind_in, bound_in, GivenKept, KeptIn}
use Rattle.strategy.proofs.Keeping.{when, RunsWithin, RunsInside}
use Rattle.strategy.proofs.SetLaws.{job_at-turn}
use Rattle.strategy.proofs.EliminationLaws.{below-or-last}
use Rattle.strategy.proofs.GivenLaws.{
  places-listed,
  listed-accepted,
  BetweenKept,
  Below,
  RangeBounds,
  OwnAll,
  own-all,
  all_own,
  AcrossAll,
  across-all,
  all-across,
}

-- the plan's bounds that u can have broken, and each start of its first window leaves room for the longest run
pub record Held (p : Plan) (u : History) : Type 0 where
  pub kept : KeptIn p u
  pub leaves_room : (i : ℕ) → i < p.jobs → i < length u → ((ran_in u i).start +ℤ (turn p i).max) ≤ℤ (turn p i).deadline

-- ---- the places of named events

module _ (p : Plan) where
  pub place-this : (l : Letter) (i : ℕ) → is_next l ≡ false → 0 < i → i ≤ p.jobs → place_of p l i < p.jobs
  place-this This i e lo hi = omega arith
  place-this Next i e lo hi = clash (cc)

  place-next : (l : Letter) (i : ℕ) → is_next l ≡ true → p.jobs ≤ place_of p l i
  place-next This i e = clash (cc)
  place-next Next i e = omega arith

  pub place-two : (l : Letter) (i : ℕ) → 0 < i → i ≤ p.jobs → place_of p l i < p.jobs + p.jobs
  place-two This i lo hi = omega arith
  place-two Next i lo hi = omega arith

  node-below : (k : Kind) (i n : ℕ) → i < n → node_of (event_at k i) < nodes n
  unfolding node_of
  node-below kind.Start i n h = omega arith
  node-below kind.Finish i n h = omega arith

  when-named : (u : History) (k : Kind) (i : ℕ) → when u (event_at k i) ≡ kind_in k (ran_in u i)
  when-named u kind.Start i = refl
  when-named u kind.Finish i = refl

  module _ (good : Accepted p) where
    pub own_below : All (Below (nodes p.jobs)) (own_bounds p)
    unfolding node_of
    own_below =
        own-all (Below (nodes p.jobs)) p
        (record {
          ranged =
              λ i h.
              record {
                start_up = record { y = omega arith; z = omega arith };
                start_down = record { y = omega arith; z = omega arith };
                finish_up = record { y = omega arith; z = omega arith };
                finish_down = record { y = omega arith; z = omega arith };
              };
          ordered = λ i h. record { y = omega arith; z = omega arith };
          given =
              λ d m n.
              let s = listed-accepted p good d m in
              let t = neither-true (is_next d.a.letter) (is_next d.b.letter) n in
              record {
                y = node-below d.b.kind _ _ (place-this d.b.letter d.b.job t.1 s.b-least s.b-most);
                z = node-below d.a.kind _ _ (place-this d.a.letter d.a.job t.0 s.a-least s.a-most);
              };
        })

    pub across-below : All (Below (nodes (p.jobs + p.jobs))) (between_bounds p)
    unfolding node_of
    across-below =
        let j = good.jobs-least in
        across-all (Below (nodes (p.jobs + p.jobs))) p
        (record {
          ordered = record { y = omega arith; z = omega arith };
          given =
              λ d m n.
              let s = listed-accepted p good d m in
              record {
                y = node-below d.b.kind _ _ (place-two d.b.letter d.b.job s.b-least s.b-most);
                z = node-below d.a.kind _ _ (place-two d.a.letter d.a.job s.a-least s.a-most);
              };
        })

-- ---- ranges of the first of the two windows

pub this-shift : (p : Plan) (i : ℕ) → i < p.jobs → shift p i ≡ pos 0
unfolding shift
this-shift p i h = rw (lt-ltb i p.jobs h)

start-up : (x m d : ℤ) → (x +ℤ m) ≤ℤ d → (x -ℤ pos 0) ≤ℤ ((d -ℤ m) +ℤ pos 0)
start-up x m d h = omega (shows le (any ⊖ any) (any ⊖ any ⊕ any), wholes)

start-up-back : (x m d : ℤ) → (x -ℤ pos 0) ≤ℤ ((d -ℤ m) +ℤ pos 0) → (x +ℤ m) ≤ℤ d
start-up-back x m d h = omega (reads le (any ⊖ any) (any ⊖ any ⊕ any), wholes)

start-down : (x r : ℤ) → r ≤ℤ x → (pos 0 -ℤ x) ≤ℤ neg_ℤ (r +ℤ pos 0)
start-down x r h = omega (wholes, split-neg (r +ℤ pos 0), split-add r (pos 0))

start-down-back : (x r : ℤ) → (pos 0 -ℤ x) ≤ℤ neg_ℤ (r +ℤ pos 0) → r ≤ℤ x
start-down-back x r h = omega (wholes, split-neg (r +ℤ pos 0), split-add r (pos 0))

finish-down : (s f r m : ℤ) → r ≤ℤ s → m ≤ℤ (f -ℤ s) → (pos 0 -ℤ f) ≤ℤ neg_ℤ ((r +ℤ m) +ℤ pos 0)
finish-down s f r m h k = omega (wholes, split-neg ((r +ℤ m) +ℤ pos 0), split-add (r +ℤ m) (pos 0), split-add r m)

module _ (p : Plan) (u : History) (i : ℕ) (low : i < p.jobs) where
  job-this : job_at p i ≡ turn p i
  job-this = job_at-turn p i (omega arith)

  ranged-this : (turn p i).release ≤ℤ (ran_in u i).start → (ran_in u i).finish ≤ℤ (turn p i).deadline
      → ((ran_in u i).start +ℤ (turn p i).max) ≤ℤ (turn p i).deadline → RunsWithin (turn p i) (ran_in u i) → RangeBounds (BetweenKept u) p i
  unfolding earliest latest
  ranged-this a b c r =
      let m = r.least in
      record {
        start_up = rw (this-shift p i low, job-this) (start-up (ran_in u i).start (turn p i).max (turn p i).deadline c);
        start_down = rw (this-shift p i low, job-this) (start-down (ran_in u i).start (turn p i).release a);
        finish_up = rw (this-shift p i low, job-this) (omega wholes);
        finish_down =
            rw (this-shift p i low, job-this)
            (finish-down (ran_in u i).start (ran_in u i).finish (turn p i).release (turn p i).min a m);
      }

  range-release : RangeBounds (BetweenKept u) p i → (turn p i).release ≤ℤ (ran_in u i).start
  unfolding earliest
  range-release r = start-down-back _ _ (rw (this-shift p i low, job-this) at r.start_down)

  range-deadline : RangeBounds (BetweenKept u) p i → (ran_in u i).finish ≤ℤ (turn p i).deadline
  unfolding latest
  range-deadline r = let h = (rw (this-shift p i low, job-this) at r.finish_up) in omega wholes

  range-leaves_room : RangeBounds (BetweenKept u) p i → ((ran_in u i).start +ℤ (turn p i).max) ≤ℤ (turn p i).deadline
  unfolding latest
  range-leaves_room r = start-up-back (ran_in u i).start (turn p i).max (turn p i).deadline (rw (this-shift p i low, job-this) at r.start_up)

-- ---- both ways

module _ (p : Plan) (good : Accepted p) (u : History) where
  order-of : (k : ℕ) → BetweenKept u (in_order k) → (ran_in u k).finish ≤ℤ (ran_in u (suc k)).start
  order-of k h = omega wholes

  of-order : (k : ℕ) → (ran_in u k).finish ≤ℤ (ran_in u (suc k)).start → BetweenKept u (in_order k)
  of-order k h = omega wholes

  given-of : (d : Bound) → BetweenKept u (meant p d) → GivenKept p u d
  given-of d h i j =
      rw (when-named p u d.a.kind (place_in p d.a), when-named p u d.b.kind (place_in p d.b)) at h

  of-given : (d : Bound) → place_in p d.a < length u → place_in p d.b < length u → GivenKept p u d → BetweenKept u (meant p d)
  of-given d i j h =
      rw (when-named p u d.a.kind (place_in p d.a), when-named p u d.b.kind (place_in p d.b)) (h i j)

  pub held-own : Held p u → RunsInside p u → p.jobs ≤ length u → All (BetweenKept u) (own_bounds p)
  held-own h old seen =
      own-all (BetweenKept u) p
      (record {
        ranged =
            λ i a.
            ranged-this p u i a (h.kept.released i a (omega arith)) (h.kept.in_time i a (omega arith)) (h.leaves_room i a (omega arith))
            (old i (omega arith));
        ordered = λ i a. of-order i (h.kept.ordered i (omega arith) (omega arith));
        given =
            (places-listed p good (λ d. has_next d ≡ false → BetweenKept u (meant p d))).0
            (λ k l n.
            let d = bound_in p k in
            let s = good.bound_at k l in
            let t = neither-true (is_next d.a.letter) (is_next d.b.letter) n in
            let pa = place-this p d.a.letter d.a.job t.0 s.a-least s.a-most in
            let pb = place-this p d.b.letter d.b.job t.1 s.b-least s.b-most in
            of-given d (omega arith) (omega arith) (h.kept.given k l));
      })

  pub held_across : Held p u → p.jobs + p.jobs ≤ length u → All (BetweenKept u) (between_bounds p)
  held_across h seen =
      let j = good.jobs-least in
      across-all (BetweenKept u) p
      (record {
        ordered = of-order (p.jobs - 1) (h.kept.ordered (p.jobs - 1) (omega arith) (omega arith));
        given =
            (places-listed p good (λ d. has_next d ≡ true → BetweenKept u (meant p d))).0
            (λ k l n.
            let d = bound_in p k in
            let s = good.bound_at k l in
            let pa = place-two p d.a.letter d.a.job s.a-least s.a-most in
            let pb = place-two p d.b.letter d.b.job s.b-least s.b-most in
            of-given d (omega arith) (omega arith) (h.kept.given k l));
      })

  ordered_at : OwnAll (BetweenKept u) p → (p.jobs < length u → AcrossAll (BetweenKept u) p)
      → (i : ℕ) → suc i < length u → (suc i < p.jobs) ⊎ (suc i ≡ p.jobs) → (ran_in u i).finish ≤ℤ (ran_in u (suc i)).start
  ordered_at o a i b (inl h) = order-of i (o.ordered i h)
  ordered_at o a i b (inr h) =
      let c = (a (omega arith)).ordered in
      let e : i ≡ p.jobs - 1 = omega arith in
      order-of i (subst (λ i. BetweenKept u (in_order i)) (sym e) c)

  given-at : OwnAll (BetweenKept u) p → (p.jobs < length u → AcrossAll (BetweenKept u) p)
      → (d : Bound) → Memᴰ d (bounds_of p) → (t : Bool) → has_next d ≡ t → GivenKept p u d
  given-at o a d m false e = given-of d (o.given d m e)
  given-at o a d m true e = λ i j.
      let next : p.jobs < length u = ⊎_elim
      (λ (n : is_next d.a.letter ≡ true). let k = place-next p d.a.letter d.a.job n in omega arith)
      (λ (n : is_next d.b.letter ≡ true). let k = place-next p d.b.letter d.b.job n in omega arith)
      (either_true (is_next d.a.letter) (is_next d.b.letter) e) in
      given-of d ((a next).given d m e) i j

  last-or-not : (i : ℕ) → i < p.jobs → (suc i < p.jobs) ⊎ (suc i ≡ p.jobs)
  last-or-not i h = below-or-last (suc i) p.jobs (omega arith)

  pub own_held : All (BetweenKept u) (own_bounds p) → (p.jobs < length u → All (BetweenKept u) (between_bounds p)) → Held p u
  own_held own across =
      let o = all_own (BetweenKept u) p own in
      let a : p.jobs < length u → AcrossAll (BetweenKept u) p = λ h. all-across (BetweenKept u) p (across h) in
      record {
        kept =
            record {
              released = λ i h s. range-release p u i h (o.ranged i h);
              in_time = λ i h s. range-deadline p u i h (o.ranged i h);
              ordered = λ i h s. ordered_at o a i s (last-or-not i h);
              given = (places-listed p good (GivenKept p u)).1 (λ d m. given-at o a d m (has_next d) refl);
            };
        leaves_room = λ i h s. range-leaves_room p u i h (o.ranged i h);
      }
