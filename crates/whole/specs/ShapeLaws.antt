-- Every rule that `Shape` can state holds: for each fact and all shapes, `reads` a hypothesis and `shows` a goal; for each shape, `fitting` shows that a
-- number of it fits a width, and `reads-back` reads what its bits hold.
-- They rest on `SplitLaws`, at the two sides as wholes, and on one law of shapes, `each`: the two naturals of a shape differ by the number.

use Rattle.std.specs.Prelude.{◌≡◌, refl, true, false, ◌↔◌, ℕ, ◌+◌, ℤ, ◌+ℤ◌, ◌-ℤ◌}
use Rattle.std.proofs.Common.{⊎_elim, arith}
use Rattle.whole.specs.Split.{up, dn}
use Rattle.whole.specs.SplitLaws.{
  split_one,
  split-add,
  split-sub,
  le-split-iff,
  lt-split-iff,
  eq-split-iff,
  lt_z-true-split-iff,
  lt_z-false-split-iff,
  le_z-true-split-iff,
  le_z-false-split-iff,
  eq_z-true-split-iff,
  eq_z-false-split-iff,
  fits-split-iff,
  split-back,
}
use Rattle.whole.specs.Shape.{
  Shape,
  any,
  ◌⊕◌,
  ◌⊖◌,
  Each,
  Fact,
  le,
  lt,
  eq,
  eq-true,
  eq-false,
  lt-is,
  le_is,
  Says,
  Counts,
  Reads,
  Shows,
  Fitting,
  ReadsBack,
}

each : (s : Shape) (K : ℤ → ℕ → ℕ → Type 0) → ((a : ℤ) (p n : ℕ) → up a + n ≡ p + dn a → K a p n) → Each s K
each any K f = λ a. f a (up a) (dn a) refl
each (s ⊕ t) K f = each s _ (λ a p n e. each t _ (λ b q m d. f (a +ℤ b) (p + q) (n + m) (omega (arith, split-add a b))))
each (s ⊖ t) K f = each s _ (λ a p n e. each t _ (λ b q m d. f (a -ℤ b) (p + m) (n + q) (omega (arith, split-sub a b))))

-- ---- two sides

fact_iff : (f : Fact) (a b : ℤ) → Says f a b ↔ Counts f (up a + dn b) (up b + dn a)
fact_iff le = le-split-iff
fact_iff lt = lt-split-iff
fact_iff eq = eq-split-iff
fact_iff eq-true = eq_z-true-split-iff
fact_iff eq-false = eq_z-false-split-iff
fact_iff (lt-is true) = lt_z-true-split-iff
fact_iff (lt-is false) = lt_z-false-split-iff
fact_iff (le_is true) = le_z-true-split-iff
fact_iff (le_is false) = le_z-false-split-iff

-- Two pairs of naturals with one difference.
moved-over : (f : Fact) (x y u v : ℕ) → x + v ≡ u + y → Counts f x y → Counts f u v
moved-over le x y u v e h = omega arith
moved-over lt x y u v e h = omega arith
moved-over eq x y u v e h = omega arith
moved-over eq-true x y u v e h = omega arith
moved-over eq-false x y u v e h = omega arith
moved-over (lt-is true) x y u v e h = omega arith
moved-over (lt-is false) x y u v e h = omega arith
moved-over (le_is true) x y u v e h = omega arith
moved-over (le_is false) x y u v e h = omega arith

pub reads : (f : Fact) (s t : Shape) → Reads f s t
reads f s t = each s _ (λ a p n e. each t _ (λ b q m d h. moved-over f (up a + dn b) (up b + dn a) (p + m) (q + n) (omega arith) ((fact_iff f a b).0 h)))

pub shows : (f : Fact) (s t : Shape) → Shows f s t
shows f s t = each s _ (λ a p n e. each t _ (λ b q m d h. (fact_iff f a b).1 (moved-over f (p + m) (q + n) (up a + dn b) (up b + dn a) (omega arith) h)))

-- ---- one number

pub fitting : (s : Shape) → Fitting s
fitting s w = each s _ (λ a p n e h. (fits-split-iff w a).1 (⊎_elim (λ z. omega arith) (λ z. omega arith) (split_one a)))

pub reads-back : (s : Shape) → ReadsBack s
reads-back s w = each s _ (λ a p n e f. omega (arith, split-back a f))
