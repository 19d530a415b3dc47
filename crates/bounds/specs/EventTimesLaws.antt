-- The numbers of an accepted plan that the times of an event are made of lie in range, and so do their sums on the way.
use Rattle.std.specs.Prelude.{ℕ, ◌+◌, ◌<◌, ℤ, pos, ◌+ℤ◌, ◌-ℤ◌, ◌≤ℤ◌}
use Rattle.whole.specs.SplitLaws.{split-add}
use Rattle.whole.specs.Rules.{wholes}
use Rattle.plan.specs.declared.Plan.{Plan}
use Rattle.plan.specs.declared.Job.{Job}
use Rattle.plan.specs.Limits.{longest_running, latest_deadline}
use Rattle.plan.specs.Accepted.{Accepted}
use Rattle.bounds.specs.Events.{job_at, shift}
use Rattle.bounds.specs.Spans.{InRange}
use Rattle.bounds.specs.JudgedTableLaws.{job_at-accepted, ShiftInRange, shift_in, running-least, running-most}

sum-in : (a b : ℤ) → pos 0 ≤ℤ a → a ≤ℤ latest_deadline → pos 0 ≤ℤ b → b ≤ℤ longest_running → InRange (a +ℤ b)
sum-in a b h k l m = record { least = omega wholes; greatest = omega (wholes, split-add a b) }

gap-in : (a b : ℤ) → pos 0 ≤ℤ a → a ≤ℤ latest_deadline → pos 0 ≤ℤ b → b ≤ℤ longest_running → InRange (a -ℤ b)
gap-in a b h k l m = record { least = omega wholes; greatest = omega wholes }

-- the numbers of one job of an accepted plan, and the window's shift
pub record JobInRange (j : Job) (h : ℤ) : Type 0 where
  pub min : InRange j.min
  pub max : InRange j.max
  pub release : InRange j.release
  pub deadline : InRange j.deadline
  pub later : InRange h
  pub first-finish : InRange (j.release +ℤ j.min)
  pub last-start : InRange (j.deadline -ℤ j.max)

small : (t : ℤ) → pos 0 ≤ℤ t → t ≤ℤ latest_deadline → InRange t
small t a b = record { least = omega wholes; greatest = omega wholes }

shift_small : (h : ℤ) → ShiftInRange h → InRange h
shift_small h s = record { least = omega wholes; greatest = omega wholes }

most-small : (t : ℤ) → t ≤ℤ longest_running → t ≤ℤ latest_deadline
most-small t h = omega wholes

pub job-in : (p : Plan) → Accepted p → (k : ℕ) → k < p.jobs + p.jobs → JobInRange (job_at p k) (shift p k)
job-in p a k h =
    let j = job_at-accepted p a k h in
    let t = job_at p k in
    let most = running-most t j in
    let least = running-least t j in
    record {
      min = small t.min j.min-least (most-small t.min most);
      max = small t.max least (most-small t.max j.max-most);
      release = small t.release j.release-least j.release-most;
      deadline = small t.deadline j.deadline-least j.deadline-most;
      later = shift_small (shift p k) (shift_in p a k);
      first-finish = sum-in t.release t.min j.release-least j.release-most j.min-least most;
      last-start = gap-in t.deadline t.max j.deadline-least j.deadline-most least j.max-most;
    }
