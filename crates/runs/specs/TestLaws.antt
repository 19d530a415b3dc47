-- Tests joined by "and" and "or": what follows from a joined test for its parts, and from the parts for it.
use Rattle.std.specs.Prelude.{ℕ, suc, ◌≤◌, ◌≡◌, refl, ◌⊎◌, Bool, true, false, not, ◌&&◌, ◌||◌, leb}
use Rattle.std.proofs.Common.{inl, inr, arith, leb-true, leb-false}
use Rattle.std.proofs.lemmas.Bool.{not-false}
use Rattle.whole.specs.Clash.{clash}

pub true-not-false : ◌≡◌ {A = Bool} true false → ⊥
true-not-false e = clash (cc)

pub and-true : (a b : Bool) → a ≡ true → b ≡ true → (a && b) ≡ true
and-true true b p q = q
and-true false b p q = p

pub and_left : (a b : Bool) → (a && b) ≡ true → a ≡ true
and_left true b e = refl
and_left false b e = e

pub and_right : (a b : Bool) → (a && b) ≡ true → b ≡ true
and_right true b e = e
and_right false true e = refl
and_right false false e = e

pub and-of-true : (a b : Bool) → a ≡ true → (a && b) ≡ b
and-of-true true b e = refl
and-of-true false b e = clash (cc)

pub and-of-false : (a b : Bool) → a ≡ false → (a && b) ≡ false
and-of-false true b e = clash (cc)
and-of-false false b e = refl

-- a part that is denied
pub and-not : (a b : Bool) → (a && not b) ≡ false → a ≡ true → b ≡ true
and-not true b e h = not-false b e
and-not false b e h = clash (cc)

pub or-of-true : (a b : Bool) → a ≡ true → (a || b) ≡ true
or-of-true true b e = refl
or-of-true false b e = clash (cc)

pub or-of-false : (a b : Bool) → a ≡ false → (a || b) ≡ b
or-of-false true b e = clash (cc)
or-of-false false b e = refl

pub or_with_true : (a b : Bool) → b ≡ true → (a || b) ≡ true
or_with_true true b e = refl
or_with_true false b e = e

pub or_left : (a b : Bool) → (a || b) ≡ true → b ≡ false → a ≡ true
or_left true b e f = refl
or_left false b e f = clash (cc)

-- an event from e on is e, or comes after it
pub here-or-later : (e k : ℕ) → e ≤ k → (k ≡ e) ⊎ (suc e ≤ k)
here-or-later e k h = by (leb k e) refl
  where
    by : (b : Bool) → leb k e ≡ b → (k ≡ e) ⊎ (suc e ≤ k)
    by true t = inl (omega (arith, leb-true k e t))
    by false t = inr (omega (arith, leb-false k e t))
