-- `end_of`: the whole end is what is picked so far and what is left, of terms that fit.
use Rattle.std.proofs.Common.{ℤ, ◌≡◌}
use Rattle.events.specs.BitsLaws.{EachOf}
use Rattle.runs.specs.Offers.{term_at}
use Rattle.runs.specs.Ends.{end_over, PicksAs}
use Rattle.runs.specs.Inside.{TermInside}
use Rattle.runs.proofs.ends.end_of.Given as goal

abbrev pub invariant-loop-e : goal.invariant-loop-e
invariant-loop-e g l =
    EachOf (TermInside l.seen l.cs l.row) l.e-iterator
    × ((picked : ℤ → ℤ → ℤ) → PicksAs (goal.F-post g l.pick) picked
    → end_over picked (term_at l.seen l.cs l.row) l.initial.end.0 l.fn.events ≡ end_over picked (term_at l.seen l.cs l.row) l.end.0 l.e-iterator)
