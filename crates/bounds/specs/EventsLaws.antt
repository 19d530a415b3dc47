-- What event a node is, by its number as the code tests it: 0, odd or even. From an event to its node and back: `BuildLaws`.
use Rattle.std.specs.Prelude.{ℕ, zero, suc, ◌-◌, ◌/◌, ◌%◌, ◌≤◌, ◌<◌, ◌≡◌, refl, pos}
use Rattle.std.proofs.Common.{sym, ◌∙◌, arith, eq-eqb, ne_eqb, lt-ltb, le-ltb}
use Rattle.std.proofs.Math.Path.{ap}
use Rattle.bounds.specs.declared.Event.TheVariants.{Origin, Start, Finish}
use Rattle.plan.specs.declared.Plan.{Plan}
use Rattle.plan.specs.PlanLines.{no_job}
use Rattle.std.proofs.Math.ListN.{get_or}
use Rattle.std.proofs.Math.Bool.{cond}
use Rattle.bounds.specs.BuildLaws.{by_node, event_of-start, event_of-finish}
use Rattle.bounds.specs.Events.{event_of, node_of, job_at, shift}

suc-less : (m : ℕ) → suc m - 1 ≡ m
suc-less m = omega arith

pub event_of-zero : (n : ℕ) → n ≡ 0 → Origin ≡ event_of n
unfolding event_of
event_of-zero n e = rw e

pub event_of-odd : (n : ℕ) → (n ≡ 0 → ⊥) → (n - 1) % 2 ≡ 0 → Start ((n - 1) / 2) ≡ event_of n
unfolding event_of
event_of-odd zero d e = absurd (d refl)
event_of-odd (suc m) d e = simp (suc-less m, eq-eqb (m % 2) 0 (omega arith))

pub event_of-even : (n : ℕ) → (n ≡ 0 → ⊥) → ((n - 1) % 2 ≡ 0 → ⊥) → Finish ((n - 1) / 2) ≡ event_of n
unfolding event_of
event_of-even zero d e = absurd (d refl)
event_of-even (suc m) d e = simp (suc-less m, ne_eqb (m % 2) 0 (λ h. e (ap (λ x. x % 2) (suc-less m) ∙ h)))

-- ---- an event's node

pub node_of-event_of : (y : ℕ) → node_of (event_of y) ≡ y
unfolding event_of node_of
node_of-event_of =
    by_node (λ y. node_of (event_of y) ≡ y) refl (λ k. ap node_of (event_of-start k)) (λ k. ap node_of (event_of-finish k))

-- ---- this window and the next

module _ (p : Plan) (k : ℕ) where
  pub job_at-this : k < p.jobs → get_or p.job k no_job ≡ job_at p k
  unfolding job_at
  job_at-this h = ap (λ b. get_or p.job (cond b k (k - p.jobs)) no_job) (sym (lt-ltb k p.jobs h))

  pub job_at-next : p.jobs ≤ k → get_or p.job (k - p.jobs) no_job ≡ job_at p k
  unfolding job_at
  job_at-next h = ap (λ b. get_or p.job (cond b k (k - p.jobs)) no_job) (sym (le-ltb k p.jobs h))

  pub shift-this : k < p.jobs → pos 0 ≡ shift p k
  unfolding shift
  shift-this h = ap (λ b. cond b (pos 0) p.window) (sym (lt-ltb k p.jobs h))

  pub shift-next : p.jobs ≤ k → p.window ≡ shift p k
  unfolding shift
  shift-next h = ap (λ b. cond b (pos 0) p.window) (sym (le-ltb k p.jobs h))
