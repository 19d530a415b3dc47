-- A window's own bounds as the code puts them, with the times from two arrays: in the order of `ranges` and `orders`.
use Rattle.std.specs.Prelude.{ℕ, zero, suc, List, [], ◌∷◌, ◌++◌, ℤ, neg_ℤ}
use Rattle.bounds.specs.declared.Event.{Event}
use Rattle.bounds.specs.declared.Event.TheVariants.{Origin, Start, Finish}
use Rattle.bounds.specs.Events.{node_of}
use Rattle.bounds.specs.Tables.{Between}
use Rattle.bounds.specs.Spans.{time_of_node}

-- 'each event lies between earliest and latest'
abbrev pub range_of : List ℤ → List ℤ → Event → List Between
range_of early late e =
    record { y = Origin; z = e; w = time_of_node late (node_of e) } ∷ record { y = e; z = Origin; w = neg_ℤ (time_of_node early (node_of e)) } ∷ []

-- the events of one place, and of so many
abbrev pub range_of_place : List ℤ → List ℤ → ℕ → List Between
range_of_place early late k = range_of early late (Start k) ++ range_of early late (Finish k)

unfoldable pub ranges_of : List ℤ → List ℤ → ℕ → List Between
ranges_of early late zero = []
ranges_of early late (suc k) = range_of_place early late k ++ ranges_of early late k
