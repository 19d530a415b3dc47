-- An end of an offer, worked out by picking among times, as the code makes it.
use Rattle.std.specs.Prelude.{ℕ, ℤ, ◌≡◌}
use mathlib.Core.List.{List, map, foldl}
use Rattle.clock.specs.declared.RunTime.{RunTime}

-- the terms of some events, picked one after the other
abbrev pub end_over : (ℤ → ℤ → ℤ) → (ℕ → ℤ) → ℤ → List ℕ → ℤ
end_over pick term end es = foldl pick end (map term es)

-- the time that is given of two is picked as their numbers are
abbrev pub PicksAs : (RunTime → RunTime → RunTime → Type 0) → (ℤ → ℤ → ℤ) → Type 0
PicksAs gives pick = (t u v : RunTime) → gives t u v → v.0 ≡ pick t.0 u.0
