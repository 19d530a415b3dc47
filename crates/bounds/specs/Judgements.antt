-- 'Every bound, given or made, is judged' (document 01, 'Elimination').
use Rattle.std.specs.Prelude.{ℕ, cond, eqb, ℤ, pos, neg_ℤ, ◌-ℤ◌}
use Rattle.std.specs.Int.Signed.{lt_z, le_z}
use Rattle.plan.specs.declared.Plan.{Plan}
use Rattle.bounds.specs.declared.Event.{Event}
use Rattle.bounds.specs.declared.Event.TheVariants.{Origin, Start, Finish}
use Rattle.bounds.specs.declared.Judgement.{Judgement}
use Rattle.bounds.specs.declared.Judgement.TheVariants.{Contradiction, LeftOut, Kept}
use Rattle.bounds.specs.Events.{job_at, earliest, latest}

-- a contradiction below a limit, else left out
abbrev pub at_least : ℤ → ℤ → Judgement
at_least limit w = cond (lt_z w limit) Contradiction LeftOut

-- 'y = z: w < 0 is a contradiction, else it is left out.'
abbrev pub judged_same : ℤ → Judgement
judged_same w = at_least (pos 0) w

-- 'z is the finish and y the start of one job in one window: a contradiction if w < max, else left out.'
abbrev pub judged_running : Plan → ℕ → ℤ → Judgement
judged_running p k w = at_least (job_at p k).max w

-- 'The reverse (start - finish <= w): a contradiction if w < -min, else left out.'
abbrev pub judged_reverse : Plan → ℕ → ℤ → Judgement
judged_reverse p k w = at_least (neg_ℤ (job_at p k).min) w

-- 'otherwise: a contradiction if w < earliest(z) - latest(y).'
abbrev pub from_origin : ℤ → ℤ → Judgement
from_origin low w = cond (lt_z w low) Contradiction Kept

abbrev pub judged_origin : Plan → Event → Event → ℤ → Judgement
judged_origin p y z w = from_origin (earliest p z -ℤ latest p y) w

-- 'If neither is the origin and w >= latest(z) - earliest(y), it is left out.'
abbrev pub apart : ℤ → ℤ → ℤ → Judgement
apart low high w = cond (lt_z w low) Contradiction (cond (le_z high w) LeftOut Kept)

abbrev pub judged_apart : Plan → Event → Event → ℤ → Judgement
judged_apart p y z w = apart (earliest p z -ℤ latest p y) (latest p z -ℤ earliest p y) w

-- the judgement of z - y <= w, by what y and z are
unfoldable pub judged : Plan → Event → Event → ℤ → Judgement
judged p Origin Origin w = judged_same w
judged p Origin (Start k) w = judged_origin p Origin (Start k) w
judged p Origin (Finish k) w = judged_origin p Origin (Finish k) w
judged p (Start j) Origin w = judged_origin p (Start j) Origin w
judged p (Start j) (Start k) w = cond (eqb j k) (judged_same w) (judged_apart p (Start j) (Start k) w)
judged p (Start j) (Finish k) w = cond (eqb j k) (judged_running p k w) (judged_apart p (Start j) (Finish k) w)
judged p (Finish j) Origin w = judged_origin p (Finish j) Origin w
judged p (Finish j) (Start k) w = cond (eqb j k) (judged_reverse p k w) (judged_apart p (Finish j) (Start k) w)
judged p (Finish j) (Finish k) w = cond (eqb j k) (judged_same w) (judged_apart p (Finish j) (Finish k) w)
