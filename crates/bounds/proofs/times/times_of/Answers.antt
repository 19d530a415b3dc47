use Prim.Native.Nat.{◌+◌}
use mathlib.Core.Path.{◌≡◌, refl, sym, ◌∙◌, ap₂, subst, subst₂}
use native.Mathlib.Omega.{arith}
use lib.IntN.{pos, ◌+ℤ◌, ◌-ℤ◌}
use Rattle.plan.specs.declared.Plan.{Plan}
use Rattle.bounds.specs.declared.Event.TheVariants.{Origin}
use Rattle.bounds.specs.Events.{nodes, earliest, latest}
use Rattle.bounds.specs.EventTimesLaws.{JobInRange, job-in}
use Rattle.bounds.specs.FillLaws.{Filled, filled-origin, filled-place, filled-times-held}
use Rattle.bounds.proofs.Gaps.{gap-fits, gap_back, total-fits, total-back, chain_fits, chain_back}
use Rattle.bounds.proofs.times.times_of.Goals as goal
use Rattle.bounds.proofs.times.times_of.Goals.{After-shift_at-later}

origin-first : (p : Plan) → earliest p Origin ≡ pos 0
unfolding earliest
origin-first p = refl

origin-last : (p : Plan) → latest p Origin ≡ pos 0
unfolding latest
origin-last p = refl

pub loop-k-init : goal.loop-k-init
loop-k-init c =
    let p = c.args.p in
    (filled-origin (earliest p) (origin-first p), filled-origin (latest p) (origin-last p))

-- the numbers of a place are in range
place_in : (c : After-shift_at-later) → JobInRange c.job_at-job.result c.shift_at-later.result
place_in c =
    subst₂ JobInRange (sym c.job_at-job.ensures) (sym c.shift_at-later.ensures) (job-in c.args.p c.requires c.loop-k.k (omega arith))

pub overflow_add-first_start : goal.overflow_add-first_start
overflow_add-first_start c =
    let i = place_in (goal.at.overflow_add-first_start c).After-shift_at-later in
    total-fits i.release i.later

pub overflow_add-first_finish : goal.overflow_add-first_finish
overflow_add-first_finish c =
    let i = place_in (goal.at.overflow_add-first_finish c).After-shift_at-later in
    total-fits i.release i.min

pub overflow_add-first_finish-in-loop-k : goal.overflow_add-first_finish-in-loop-k
overflow_add-first_finish-in-loop-k c =
    let i = place_in (goal.at.overflow_add-first_finish-in-loop-k c).After-shift_at-later in
    chain_fits (total-back i.release i.min) i.first-finish i.later

pub overflow_sub-last_start : goal.overflow_sub-last_start
overflow_sub-last_start c =
    let i = place_in (goal.at.overflow_sub-last_start c).After-shift_at-later in
    gap-fits i.deadline i.max

pub overflow_add-last_start : goal.overflow_add-last_start
overflow_add-last_start c =
    let i = place_in (goal.at.overflow_add-last_start c).After-shift_at-later in
    chain_fits (gap_back i.deadline i.max) i.last-start i.later

pub overflow_add-last_finish : goal.overflow_add-last_finish
overflow_add-last_finish c =
    let i = place_in (goal.at.overflow_add-last_finish c).After-shift_at-later in
    total-fits i.deadline i.later

pub loop-k-preserved : goal.loop-k-preserved
unfolding earliest latest
loop-k-preserved c =
    let l = c.loop-k in
    let p = c.args.p in
    let i = place_in (goal.at.loop-k-preserved c).After-shift_at-later in
    let most = c.requires.jobs-most in
    let job = c.job_at-job.ensures in
    let later = c.shift_at-later.ensures in (
      filled-place (earliest p) l.k l.early _ _ (omega arith)
          (total-back i.release i.later ∙ ap₂ (λ j h. j.release +ℤ h) job later)
          (chain_back (total-back i.release i.min) i.first-finish i.later
          ∙ ap₂ (λ j h. (j.release +ℤ j.min) +ℤ h) job later)
          l.invariant.0,
      filled-place (latest p) l.k l.late _ _ (omega arith)
          (chain_back (gap_back i.deadline i.max) i.last-start i.later
          ∙ ap₂ (λ j h. (j.deadline -ℤ j.max) +ℤ h) job later)
          (total-back i.deadline i.later ∙ ap₂ (λ j h. j.deadline +ℤ h) job later)
          l.invariant.1,
    )

pub returns : goal.returns
returns c =
    let l = c.loop-k in
    let p = c.args.p in
    let all : nodes l.k ≡ nodes (p.jobs + p.jobs) = omega arith in
    filled-times-held p c.requires l.early l.late (subst (λ n. Filled (earliest p) n l.early) all l.invariant.0)
    (subst (λ n. Filled (latest p) n l.late) all l.invariant.1)
