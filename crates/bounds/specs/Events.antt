-- Events, their earliest and latest (document 01, 'Elimination').
use Rattle.std.specs.Prelude.{ℕ, zero, suc, ◌+◌, ◌*◌, ◌-◌, ◌/◌, ◌%◌, Bool, cond, eqb, ltb, ℤ, pos, ◌+ℤ◌, ◌-ℤ◌, get_or}
use Rattle.plan.specs.declared.Job.{Job}
use Rattle.plan.specs.declared.Plan.{Plan}
use Rattle.plan.specs.PlanLines.{no_job}
use Rattle.events.specs.Bits.{most_events}
use Rattle.bounds.specs.declared.Event.{Event}
use Rattle.bounds.specs.declared.Event.TheVariants.{Origin, Start, Finish}

-- ---- places: job i of this window has place i, job i of the next window place jobs + i, both from 0

abbrev pub is_this : Plan → ℕ → Bool
is_this p k = ltb k p.jobs

-- the job at a place
unfoldable pub job_at : Plan → ℕ → Job
job_at p k = get_or p.job (cond (is_this p k) k (k - p.jobs)) no_job

-- 'For the next window add `window` to all of these but the origin's.'
unfoldable pub shift : Plan → ℕ → ℤ
shift p k = cond (is_this p k) (pos 0) p.window

-- ---- 'Earliest and latest on the window's own clock: a start has release and deadline - max; a finish has release + min and deadline;
-- the origin has 0 and 0.'

unfoldable pub earliest : Plan → Event → ℤ
earliest p Origin = pos 0
earliest p (Start k) = (job_at p k).release +ℤ shift p k
earliest p (Finish k) = ((job_at p k).release +ℤ (job_at p k).min) +ℤ shift p k

unfoldable pub latest : Plan → Event → ℤ
latest p Origin = pos 0
latest p (Start k) = ((job_at p k).deadline -ℤ (job_at p k).max) +ℤ shift p k
latest p (Finish k) = (job_at p k).deadline +ℤ shift p k

-- ---- nodes: events in the order of time, so that elimination always removes the last one

abbrev pub start_node : ℕ → ℕ
start_node k = 1 + 2 * k

abbrev pub finish_node : ℕ → ℕ
finish_node k = 2 + 2 * k

unfoldable pub node_of : Event → ℕ
node_of Origin = 0
node_of (Start k) = start_node k
node_of (Finish k) = finish_node k

unfoldable pub event_of : ℕ → Event
event_of zero = Origin
event_of (suc m) = cond (eqb (m % 2) 0) (Start (m / 2)) (Finish (m / 2))

-- how many nodes the origin and so many places have, and how many two windows have at most
abbrev pub nodes : ℕ → ℕ
nodes places = start_node places

abbrev pub most_nodes : ℕ
most_nodes = most_events + 1
