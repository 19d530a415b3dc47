-- Histories: the jobs that have run so far. Document 002 calls the start of a job s, its running time e and its finish f = s + e.
use Rattle.std.specs.Prelude.{ℕ, ◌*◌, ◌%◌, List, [], ◌∷◌, ◌++◌, map, ℤ, pos, ◌+ℤ◌, ◌-ℤ◌, ◌*ℤ◌, get_or, drop}
use Rattle.plan.specs.declared.Job.{Job}
use Rattle.plan.specs.declared.Plan.{Plan}
use Rattle.plan.specs.PlanLines.{no_job}

-- a job that has run
pub record Ran : Type 0 where
  pub start : ℤ
  pub finish : ℤ

-- the first job of the first window first, then job by job, window by window
abbrev pub History : Type 0
History = List Ran

abbrev pub no_ran : Ran
no_ran = record { start = pos 0; finish = pos 0 }

-- a history with one job more, which started at t and ran for e
abbrev pub ran_for : History → ℤ → ℤ → History
ran_for h t e = h ++ (record { start = t; finish = t +ℤ e } ∷ [])

-- 'this job set will be cyclically scheduled in consecutive scheduling windows': the job whose turn it is after k others
abbrev pub turn : Plan → ℕ → Job
turn p k = get_or p.job (k % p.jobs) no_job

-- ---- 'window j begins at (j-1) x window on the run's clock'

-- a time of the run's clock on the clock of a window that begins at b
abbrev pub on_window : ℤ → Ran → Ran
on_window b r = record { start = r.start -ℤ b; finish = r.finish -ℤ b }

-- what a history has seen from window j + 1 on, on that window's own clock
unfoldable pub seen_from : Plan → ℕ → History → History
seen_from p j h = map (on_window (pos j *ℤ p.window)) (drop (j * p.jobs) h)
