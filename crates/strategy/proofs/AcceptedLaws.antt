-- What the laws use of an accepted plan. It has a place for each of its jobs and bounds, so what `turn` and `bound_in` would answer past the places is never
-- looked at (`turn-there`, `bound-there`); of the two events of a bound one is of this window (`one-this`).
use Rattle.std.specs.Prelude.{ℕ, zero, suc, ◌%◌, ◌≤◌, ◌<◌, ◌≡◌, refl, true, false, ◌&&◌, List, [], ◌∷◌, length, get_or, take}
use Rattle.std.proofs.Common.{subst, mod-lt, arith}
use Rattle.plan.specs.declared.Job.{Job}
use Rattle.plan.specs.declared.Bound.{Bound}
use Rattle.plan.specs.declared.EventName.{EventName}
use Rattle.plan.specs.declared.Plan.{Plan}
use Rattle.plan.specs.EventNames.{is_next}
use Rattle.plan.specs.PlanLines.{is_wrong_pair, no_job, no_bound}
use Rattle.plan.specs.Accepted.{JobAccepted, Accepted}
use Rattle.bounds.specs.BuildLaws.{neither-true}
use Rattle.strategy.specs.Histories.{turn}
use Rattle.strategy.specs.Strategies.{bound_in}

right-pair : (a b : EventName) (given : List Bound) → is_wrong_pair a b given ≡ false → is_next a.letter ≡ true → is_next b.letter ≡ false
unfolding is_wrong_pair
right-pair a b given h n = subst (λ x. x && is_next b.letter ≡ false) n (neither-true (is_next a.letter && is_next b.letter) _ h).0

there : {A : Type 0} (xs : List A) (k : ℕ) (d e : A) → k < length xs → get_or xs k d ≡ get_or xs k e
there [] k d e h = absurd (omega arith)
there (x ∷ xs) zero d e h = refl
there (x ∷ xs) (suc k) d e h = there xs k d e (omega arith)

module _ (p : Plan) (good : Accepted p) where
  -- a bound between two windows is refused if 'both events n'
  pub one-this : (k : ℕ) → k < p.bounds → is_next (bound_in p k).a.letter ≡ true → is_next (bound_in p k).b.letter ≡ false
  one-this k l = right-pair (bound_in p k).a (bound_in p k).b (take k p.bound) (good.pair-at k l)

  pub turn-accepted : (k : ℕ) → JobAccepted (turn p k)
  turn-accepted k = good.job-at (k % p.jobs) (mod-lt k good.jobs-least)

  -- ---- places that are there

  pub bounds-there : p.bounds ≤ length p.bound
  bounds-there = omega (arith, good.bounds-most, good.bound-places)

  pub turn-there : (k : ℕ) (x : Job) → get_or p.job (k % p.jobs) x ≡ turn p k
  turn-there k x =
      let l = mod-lt k good.jobs-least in
      there p.job (k % p.jobs) x no_job (omega (arith, good.jobs-most, good.job-places))

  pub bound-there : (k : ℕ) → k < p.bounds → (d : Bound) → get_or p.bound k d ≡ bound_in p k
  bound-there k l d = there p.bound k d no_bound (omega (arith, bounds-there))
