-- How the given bounds are put: one by its nodes (`meant_is`), where it is due (`given-due`, `given-other`), and one place after the other (`given-first`,
-- `given-end`), after the bounds that every plan has (`own_bounds-is`, `between_bounds-is`).
use Rattle.std.specs.Prelude.{ℕ, ◌+◌, ◌-◌, ◌≤◌, ◌<◌, ◌≡◌, refl, Bool, cond, List, [], ◌∷◌, ◌++◌, ℤ, pos, drop, get_or, length}
use Rattle.std.proofs.Common.{ap, ap₂, ◌∙◌, add-one, drop_of_length-le, drop-cons}
use Rattle.std.proofs.Math.Bool.{true, false}
use Rattle.std.specs.Bool.{beq}
use Rattle.whole.specs.Clash.{clash}
use Rattle.plan.specs.declared.Bound.{Bound}
use Rattle.plan.specs.declared.Plan.{Plan}
use Rattle.plan.specs.PlanLines.{no_bound}
use Rattle.plan.specs.PlanWritten.{bounds_of}
use Rattle.bounds.specs.Events.{node_of}
use Rattle.bounds.specs.Flat.{put_at, put_bounds}
use Rattle.bounds.specs.BoundsLaws.{put_bounds-one}
use Rattle.rounds.specs.Given.{named, meant, has_next, given_bounds, in_order, ranges, orders, own_bounds, between_bounds}

-- ---- one bound

pub meant_is : (p : Plan) (early late : List ℤ) (d : Bound) (y z : ℕ) (ws : List ℤ) → y ≡ node_of (named p d.b) → z ≡ node_of (named p d.a)
    → put_at early late y z d.c (pos 0) ws ≡ put_bounds early late (meant p d ∷ []) ws
meant_is p early late d y z ws from to =
    ap₂ (λ y z. put_at early late y z d.c (pos 0) ws) from to ∙ put_bounds-one early late (meant p d) ws

-- ---- where it is due

module _ (p : Plan) (d : Bound) where
  one-if : (n : Bool) → has_next d ≡ n → cond (has_next d) (meant p d ∷ []) [] ≡ cond n (meant p d ∷ []) []
  one-if n e = ap (λ n. cond n (meant p d ∷ []) []) e

  one-unless : (n : Bool) → has_next d ≡ n → cond (has_next d) [] (meant p d ∷ []) ≡ cond n [] (meant p d ∷ [])
  one-unless n e = ap (λ n. cond n [] (meant p d ∷ [])) e

  pub given-due : (between n : Bool) → has_next d ≡ n → beq n between ≡ true → given_bounds p between (d ∷ []) ≡ meant p d ∷ []
  unfolding given_bounds
  given-due true true e t = one-if true e
  given-due true false e t = clash (cc)
  given-due false true e t = clash (cc)
  given-due false false e t = one-unless false e

  pub given-other : (between n : Bool) → has_next d ≡ n → beq n between ≡ false → given_bounds p between (d ∷ []) ≡ []
  unfolding given_bounds
  given-other true true e t = clash (cc)
  given-other true false e t = one-if false e
  given-other false true e t = one-unless true e
  given-other false false e t = clash (cc)

-- ---- place by place

given-nil : (p : Plan) (between : Bool) → given_bounds p between [] ≡ []
unfolding given_bounds
given-nil p true = refl
given-nil p false = refl

given-more : (p : Plan) (between : Bool) (d : Bound) (ds : List Bound) → given_bounds p between (d ∷ ds) ≡ given_bounds p between (d ∷ [])
    ++ given_bounds p between ds
unfolding given_bounds
given-more p true d ds = by (has_next d)
  where
    by : (n : Bool) → cond n (meant p d ∷ given_bounds p true ds) (given_bounds p true ds) ≡ cond n (meant p d ∷ []) [] ++ given_bounds p true ds
    by true = refl
    by false = refl
given-more p false d ds = by (has_next d)
  where
    by : (n : Bool) → cond n (given_bounds p false ds) (meant p d ∷ given_bounds p false ds) ≡ cond n [] (meant p d ∷ []) ++ given_bounds p false ds
    by true = refl
    by false = refl

module _ (p : Plan) (between : Bool) (ds : List Bound) (i : ℕ) where
  pub given-first : i < length ds
      → given_bounds p between (drop i ds) ≡ given_bounds p between (get_or ds i no_bound ∷ []) ++ given_bounds p between (drop (i + 1) ds)
  given-first h = rw (add-one, drop-cons ds i no_bound h) (given-more p between (get_or ds i no_bound) _)

  pub given-end : length ds ≤ i → given_bounds p between (drop i ds) ≡ []
  given-end h = ap (given_bounds p between) (drop_of_length-le ds {i = i} h) ∙ given-nil p between

-- ---- after the bounds that every plan has

pub own_bounds-is : (p : Plan) → own_bounds p ≡ ranges p p.jobs ++ (orders (p.jobs - 1) ++ given_bounds p false (bounds_of p))
unfolding own_bounds
own_bounds-is p = refl

pub between_bounds-is : (p : Plan) → between_bounds p ≡ (in_order (p.jobs - 1) ∷ []) ++ given_bounds p true (bounds_of p)
unfolding between_bounds
between_bounds-is p = refl
