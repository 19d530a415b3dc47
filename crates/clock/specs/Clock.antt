-- When a window begins on the run's clock, how a time is carried from a window's own clock to the run's, and what is asked of times
-- there (document 01, 'The work and its edges').
use Rattle.std.specs.Prelude.{ℕ, ◌-◌, Bool, ◌&&◌, ℤ, pos, ◌+ℤ◌, ◌*ℤ◌}
use Rattle.std.specs.Int.Signed.{lt_z, le_z}
use Rattle.clock.specs.declared.WindowTime.{WindowTime}
use Rattle.clock.specs.declared.RunTime.{RunTime}

-- 'window j begins at (j-1) x window on the run's clock'
abbrev pub begins_at : ℤ → ℕ → RunTime
begins_at window j = record { 0 = pos (j - 1) *ℤ window }

-- 'A time on a window's own clock and a time on the run's clock are kept apart'
abbrev pub on_run : ℤ → ℕ → WindowTime → RunTime
on_run window j t = record { 0 = (begins_at window j).0 +ℤ t.0 }

-- ---- times on the run's clock: compared, and moved by a number of milliseconds

abbrev pub is_earlier : RunTime → RunTime → Bool
is_earlier t u = lt_z t.0 u.0

-- both ends included
abbrev pub is_between : RunTime → RunTime → RunTime → Bool
is_between from to t = le_z from.0 t.0 && le_z t.0 to.0

abbrev pub moved_by : RunTime → ℤ → RunTime
moved_by t c = record { 0 = t.0 +ℤ c }
