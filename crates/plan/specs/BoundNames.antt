-- A bound line taken apart as the code does it: a name up to its comma, at a place of the line, and the next place.
use Rattle.std.specs.Prelude.{ℕ, ◌+◌, cond, List, drop, Option, Some, None}
use Rattle.text.specs.Bytes.{bytes}
use Rattle.text.specs.Lines.{comma, len_to, before, has, has_key}
use Rattle.plan.specs.declared.EventName.{EventName}
use Rattle.plan.specs.EventNames.{event_name}

abbrev pub part_named : ℕ → Option EventName → Option (EventName × ℕ)
part_named at None = None
part_named at (Some e) = Some (e, at)

-- the name from a place up to the next comma, and the place after that comma
unfoldable pub name_to : List ℕ → ℕ → Option (EventName × ℕ)
name_to l at =
    let s = drop at l in
    cond (has comma s) (part_named (at + len_to comma s + 1) (event_name (before comma s))) None

abbrev pub then_number : EventName → Option (EventName × ℕ) → Option (EventName × EventName × ℕ)
then_number a None = None
then_number a (Some (b, at)) = Some (a, b, at)

abbrev pub then_second : List ℕ → Option (EventName × ℕ) → Option (EventName × EventName × ℕ)
then_second l None = None
then_second l (Some (a, at)) = then_number a (name_to l at)

-- the two names of a bound line, and where its number begins
unfoldable pub names_in : List ℕ → Option (EventName × EventName × ℕ)
names_in l = cond (has_key (bytes "bound=") l) (then_second l (name_to l 6)) None
