-- The statements of the rules: a fact about two whole numbers, each a sum or a difference of a written shape, and the fact about naturals that is the same.

use Rattle.std.specs.Prelude.{◌≡◌, Bool, true, false, cond, ℕ, suc, ◌+◌, ◌-◌, ◌^◌, ◌≤◌, ◌<◌, min, max, ℤ, ◌+ℤ◌, ◌-ℤ◌, ◌≤ℤ◌, ◌<ℤ◌}
use Rattle.std.specs.Int.Signed.{lt_z, le_z}
use Rattle.std.specs.Int.{Width}
use mir.Val.{SFits, to_z, of_z, hbits}
use Rattle.whole.specs.Split.{up, dn, eq_z}

-- ---- shapes

-- `any ⊖ (any ⊕ any)` is the shape of a - (b + c).
infixl 6 ◌⊕◌ ◌⊖◌
pub data Shape : Type 0 where
  any : Shape
  ◌⊕◌ : Shape → Shape → Shape
  ◌⊖◌ : Shape → Shape → Shape

-- K of each number of the shape, with two naturals whose difference it is: sums of the parts of what stands at the shape's places.
abbrev pub Each : Shape → (ℤ → ℕ → ℕ → Type 0) → Type 0
Each any K = (a : ℤ) → K a (up a) (dn a)
Each (s ⊕ t) K = Each s (λ a p n. Each t (λ b q m. K (a +ℤ b) (p + q) (n + m)))
Each (s ⊖ t) K = Each s (λ a p n. Each t (λ b q m. K (a -ℤ b) (p + m) (n + q)))

-- ---- facts

pub data Fact : Type 0 where
  le lt eq eq-true eq-false : Fact
  lt-is le_is : Bool → Fact

-- What a fact says of two whole numbers.
abbrev pub Says : Fact → ℤ → ℤ → Type 0
Says le a b = a ≤ℤ b
Says lt a b = a <ℤ b
Says eq a b = a ≡ b
Says eq-true a b = eq_z a b ≡ true
Says eq-false a b = eq_z a b ≡ false
Says (lt-is t) a b = lt_z a b ≡ t
Says (le_is t) a b = le_z a b ≡ t

-- The same of two naturals. A rule cannot end in x ≢ y, which is a function: min x y < max x y says it. A test is an order whatever its answer, so
-- that one rule finds the answer in what it is applied to.
abbrev pub Counts : Fact → ℕ → ℕ → Type 0
Counts le x y = x ≤ y
Counts lt x y = x < y
Counts eq x y = x ≡ y
Counts eq-true x y = x ≡ y
Counts eq-false x y = min x y < max x y
Counts (lt-is t) x y = cond t (suc x) y ≤ cond t y x
Counts (le_is t) x y = cond t x (suc y) ≤ cond t y x

-- ---- rules

-- p - n against q - m is p + m against q + n. A hypothesis is read so, and a goal shown so.
abbrev pub Reads : Fact → Shape → Shape → Type 0
Reads f s t = Each s (λ a p n. Each t (λ b q m. Says f a b → Counts f (p + m) (q + n)))

abbrev pub Shows : Fact → Shape → Shape → Type 0
Shows f s t = Each s (λ a p n. Each t (λ b q m. Counts f (p + m) (q + n) → Says f a b))

-- p - n is below 2 ^ hbits w, and n - p is not above it: a rule has one premise, so the two bounds are one.
abbrev pub Fitting : Shape → Type 0
Fitting s = (w : Width) → Each s (λ a p n. max (suc p - n) (n - p) ≤ 2 ^ hbits w → SFits w a)

-- A signed local is its bits, and what is read back from the bits of a number that fits is that number.
abbrev pub ReadsBack : Shape → Type 0
ReadsBack s = (w : Width) → Each s (λ a p n. SFits w a → up (to_z w (of_z w a)) + n ≡ p + dn (to_z w (of_z w a)))
