-- No two answers meet the promise of a public operation: each promise is an equation, and `only` of the crate `text` says the rest; of a writer
-- from a place on, `stored-unique`.
use Rattle.std.specs.Prelude.{◌≡◌, Bool, List, ℕ, ℤ, Result}
use Rattle.text.specs.Numbers.{within}
use Rattle.text.specs.Unique.{only}
use Rattle.plan.specs.declared.Bound.{Bound}
use Rattle.lines.specs.declared.Fault.{Fault}
use Rattle.lines.specs.declared.FaultyLine.{FaultyLine}
use Rattle.plan.specs.declared.EventName.{EventName}
use Rattle.plan.specs.declared.PlanRead.{PlanRead}
use Rattle.plan.specs.Limits.{least_c, greatest_c}
use Rattle.plan.specs.Pairs.{pair_number, is_wrong_numbered}
use Rattle.plan.specs.PlanLines.{judged_bound, plan_head, plan_alone}
use Rattle.plan.specs.PlanAnswers.{plan_read}

pub is-c-unique : (c : ℤ) {r q : Bool} → r ≡ within least_c greatest_c c → q ≡ within least_c greatest_c c → r ≡ q
is-c-unique c = only

pub judge-bound-unique : (d : Bound) (jobs : ℕ) (given : List ℕ) {r q : Result Bound Fault} → r ≡ judged_bound jobs (is_wrong_numbered given) d
    → q ≡ judged_bound jobs (is_wrong_numbered given) d → r ≡ q
judge-bound-unique d jobs given = only

pub pair-number-unique : (a b : EventName) {n m : ℕ} → n ≡ pair_number a b → m ≡ pair_number a b → n ≡ m
pair-number-unique a b = only

pub read-head-unique : (s : List ℕ) {r q : Result PlanRead FaultyLine} → r ≡ plan_read s (plan_head s) → q ≡ plan_read s (plan_head s) → r ≡ q
read-head-unique s = only

pub read-plan-unique : (s : List ℕ) {r q : Result PlanRead FaultyLine} → r ≡ plan_read s (plan_alone s) → q ≡ plan_read s (plan_alone s) → r ≡ q
read-plan-unique s = only
