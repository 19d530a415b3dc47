-- What the code keeps of the rounds of a plan: the table of the round that settled it, from which the calendar is made, and the arrays that every round
-- begins with.
use Rattle.std.specs.Prelude.{ℕ, ◌+◌, ◌≡◌, false, List, ℤ}
use Rattle.plan.specs.declared.Plan.{Plan}
use Rattle.bounds.specs.Events.{nodes}
use Rattle.bounds.specs.Tables.{Rows, bounds}
use Rattle.bounds.specs.Elimination.{then_set, eliminated}
use Rattle.bounds.specs.Flat.{flat, put_bounds, no_bounds}
use Rattle.bounds.specs.Held.{JudgedTable}
use Rattle.rounds.specs.Given.{own_bounds, between_bounds}
use Rattle.rounds.specs.Rounds.{C0, joined, is_contradictory, settled, outcome}

-- the table of the round that settled a plan, before its elimination: C(0) on this window, the settled set on the next one, and the bounds between
pub record SettledOn (p : Plan) (u : Rows) : Type 0 where
  pub joins : (m : ℕ) (t : Rows) → outcome p ≡ settled m t → then_set (C0 p) (λ c0. joined p c0 t) ≡ bounds u
  pub fits : (m : ℕ) (t : Rows) → outcome p ≡ settled m t → JudgedTable p (nodes (p.jobs + p.jobs)) u
  pub sound : (m : ℕ) (t : Rows) → outcome p ≡ settled m t → is_contradictory (eliminated p p.jobs p.jobs u) ≡ false

-- the array of the own bounds, and with the bounds between windows put into it, neither of them with a contradiction
pub record Based (p : Plan) (early late own base : List ℤ) : Type 0 where
  pub own_put : flat false own ≡ put_bounds early late (own_bounds p) no_bounds
  pub base-put : flat false base ≡ put_bounds early late (between_bounds p) own
