-- The bounds of a plan before they are judged (document 01, 'Elimination').
use Rattle.std.specs.Prelude.{ℕ, zero, suc, ◌+◌, ◌-◌, Bool, true, false, cond, ◌||◌, List, [], ◌∷◌, ◌++◌, pos, neg_ℤ}
use Rattle.plan.specs.declared.Letter.{Letter}
use Rattle.plan.specs.declared.Letter.TheVariants.{This, Next}
use Rattle.plan.specs.declared.Kind.{Kind}
use Rattle.plan.specs.declared.Kind.TheVariants as kind
use Rattle.plan.specs.declared.EventName.{EventName}
use Rattle.plan.specs.declared.Bound.{Bound}
use Rattle.plan.specs.declared.Plan.{Plan}
use Rattle.plan.specs.EventNames.{is_next}
use Rattle.plan.specs.PlanWritten.{bounds_of}
use Rattle.bounds.specs.declared.Event.{Event}
use Rattle.bounds.specs.declared.Event.TheVariants.{Origin, Start, Finish}
use Rattle.bounds.specs.Events.{earliest, latest}
use Rattle.bounds.specs.Tables.{Between}

-- ---- given bounds

-- the event that a name means
abbrev pub place_of : Plan → Letter → ℕ → ℕ
place_of p This i = i - 1
place_of p Next i = p.jobs + (i - 1)

abbrev pub event_at : Kind → ℕ → Event
event_at kind.Start k = Start k
event_at kind.Finish k = Finish k

abbrev pub named : Plan → EventName → Event
named p e = event_at e.kind (place_of p e.letter e.job)

-- '`bound=A,B,c` means A - B <= c.'
abbrev pub meant : Plan → Bound → Between
meant p d = record { y = named p d.b; z = named p d.a; w = d.c }

abbrev pub has_next : Bound → Bool
has_next d = is_next d.a.letter || is_next d.b.letter

-- the given bounds with an n event, or those with two t events
unfoldable pub given_bounds : Plan → Bool → List Bound → List Between
given_bounds p between [] = []
given_bounds p true (d ∷ ds) = cond (has_next d) (meant p d ∷ given_bounds p true ds) (given_bounds p true ds)
given_bounds p false (d ∷ ds) = cond (has_next d) (given_bounds p false ds) (meant p d ∷ given_bounds p false ds)

-- ---- 'A window's own bounds'

-- 'each event lies between earliest and latest'
abbrev pub up_to : Plan → Event → Between
up_to p e = record { y = Origin; z = e; w = latest p e }

abbrev pub down_to : Plan → Event → Between
down_to p e = record { y = e; z = Origin; w = neg_ℤ (earliest p e) }

-- the finish at a place is at most the start at the next one
abbrev pub in_order : ℕ → Between
in_order k = record { y = Start (suc k); z = Finish k; w = pos 0 }

unfoldable pub ranges : Plan → ℕ → List Between
ranges p zero = []
ranges p (suc k) = up_to p (Start k) ∷ down_to p (Start k) ∷ up_to p (Finish k) ∷ down_to p (Finish k) ∷ ranges p k

-- 'the finish of job i is at most the start of job i+1'
unfoldable pub orders : ℕ → List Between
orders zero = []
orders (suc k) = in_order k ∷ orders k

-- 'all given bounds with two t events'
unfoldable pub own_bounds : Plan → List Between
own_bounds p = ranges p p.jobs ++ (orders (p.jobs - 1) ++ given_bounds p false (bounds_of p))

-- ---- 'Between windows: the last finish is at most the next window's first start; all given bounds with an n event.'

unfoldable pub between_bounds : Plan → List Between
between_bounds p = in_order (p.jobs - 1) ∷ given_bounds p true (bounds_of p)
