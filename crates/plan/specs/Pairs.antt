-- Ordered pairs of events as numbers, so that the code finds a pair that was given by comparing numbers.
use Rattle.std.specs.Prelude.{ℕ, ◌+◌, ◌*◌, Bool, false, ◌||◌, ◌&&◌, List, [], ◌∷◌, eqb}
use Rattle.plan.specs.declared.EventName.{EventName}
use Rattle.plan.specs.declared.Bound.{Bound}
use Rattle.plan.specs.EventNames.{same_event, is_next, event_number}

abbrev pub pair_number : EventName → EventName → ℕ
pair_number a b = event_number a * 1024 + event_number b

abbrev pub pair_of : Bound → ℕ
pair_of d = pair_number d.a d.b

-- whether a number is in a list
unfoldable pub is_in : ℕ → List ℕ → Bool
is_in x [] = false
is_in x (y ∷ ys) = eqb x y || is_in x ys

-- `is_wrong_pair`, where the given bounds are known by the numbers of their pairs
unfoldable pub is_wrong_numbered : List ℕ → EventName → EventName → Bool
is_wrong_numbered given a b = (is_next a.letter && is_next b.letter) || (same_event a b || is_in (pair_number a b) given)
