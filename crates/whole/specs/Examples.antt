-- Facts of the kind that the other crates meet, each proved in one line, as a pattern to copy: bounds z - y <= w between events, a finish s + e, a set
-- moved by a window, a test on a weight, numbers that fit their width, and what a proof about code is handed.

use Rattle.std.specs.Prelude.{◌≡◌, ◌↔◌, true, false, ℕ, ◌+◌, ◌-◌, ◌≤◌, ◌<◌, eqb, ℤ, pos, negsuc, ◌+ℤ◌, ◌-ℤ◌, ◌*ℤ◌, ◌≤ℤ◌, ◌<ℤ◌}
use Rattle.std.specs.Int.Signed.{lt_z, mag}
use Rattle.std.specs.Int.{w32, w64}
use Rattle.std.proofs.Common.{SFits, to_z, of_z, to_z-of_z}
use Rattle.std.proofs.Math.Facts.{sfits_lit}
use Rattle.whole.specs.Split.{Within, eq_z}
use Rattle.whole.specs.Shape.{any, ◌⊕◌, ◌⊖◌, le}
use Rattle.whole.specs.SplitLaws.{split-add, split-mul, told-fits, cast-wide, mul-back, bits-eqb}
use Rattle.whole.specs.ShapeLaws.{reads, shows}
use Rattle.whole.specs.Rules.{wholes}
use Rattle.whole.specs.Order.{fits-least, fits_below, mul-within}

-- ---- bounds between events

chained : (x y z w v : ℤ) → (z -ℤ y) ≤ℤ w → (y -ℤ x) ≤ℤ v → (z -ℤ x) ≤ℤ (w +ℤ v)
chained x y z w v p q = omega wholes

-- Two bounds that no times keep.
never-kept : (y z w v : ℤ) → (z -ℤ y) ≤ℤ w → (y -ℤ z) ≤ℤ v → (w +ℤ v) <ℤ pos 0 → ⊥
never-kept y z w v p q h = omega wholes

-- Times that are naturals, and a bound below zero: z is at least 5 earlier than y.
earlier : (y z : ℕ) → (pos z -ℤ pos y) ≤ℤ negsuc 4 ↔ z + 5 ≤ y
earlier y z = omega wholes

-- A fact for all events is listed at the one that is meant.
for-all-events : (v : ℕ → ℤ) (w : ℤ) (i j : ℕ) → ((k : ℕ) → (v k -ℤ v i) ≤ℤ w) → pos 0 ≤ℤ v i → (v j -ℤ w) ≤ℤ (v i +ℤ v i)
for-all-events v w i j h p = omega (wholes, h j)

-- ---- a finish s + e, with e between min and max

before_finish : (z s e w min : ℤ) → (z -ℤ s) ≤ℤ (w +ℤ min) → min ≤ℤ e → (z -ℤ (s +ℤ e)) ≤ℤ w
before_finish z s e w min p q = omega wholes

after_finish : (y s e w max : ℤ) → (s -ℤ y) ≤ℤ (w -ℤ max) → e ≤ℤ max → ((s +ℤ e) -ℤ y) ≤ℤ w
after_finish y s e w max p q = omega wholes

finish-named : (z f s e w min : ℤ) → f ≡ s +ℤ e → (z -ℤ s) ≤ℤ (w +ℤ min) → min ≤ℤ e → (z -ℤ f) ≤ℤ w
finish-named z f s e w min d p q = omega wholes

-- ---- moved by a window

later-event : (y z w window : ℤ) → ((z +ℤ window) -ℤ y) ≤ℤ w ↔ (z -ℤ y) ≤ℤ (w -ℤ window)
later-event y z w window = omega wholes

-- Three operations in one order: rules for the shape, before the set.
both_later : (y z w window : ℤ) → ((z +ℤ window) -ℤ (y +ℤ window)) ≤ℤ w ↔ (z -ℤ y) ≤ℤ w
both_later y z w window = omega (reads le (any ⊕ any ⊖ (any ⊕ any)) any, shows le (any ⊕ any ⊖ (any ⊕ any)) any, wholes)

-- The same by the equation of an inner sum.
both-later-again : (y z w window : ℤ) → (z -ℤ y) ≤ℤ w → ((z +ℤ window) -ℤ (y +ℤ window)) ≤ℤ w
both-later-again y z w window p = omega (wholes, split-add y window)

-- ---- tests

-- The test for a contradiction: z is at least e and y at most l, so a weight below e - l is kept by no times in range.
test-passed : (y z w e l : ℤ) → lt_z w (e -ℤ l) ≡ true → e ≤ℤ z → y ≤ℤ l → (z -ℤ y) ≤ℤ w → ⊥
test-passed y z w e l t p q h = omega wholes

test-failed : (w e l : ℤ) → lt_z w (e -ℤ l) ≡ false → (e -ℤ l) ≤ℤ w
test-failed w e l t = omega wholes

which-way : (w e l : ℤ) → w <ℤ (e -ℤ l) → lt_z w (e -ℤ l) ≡ true
which-way w e l h = omega wholes

room-left : (x w lo : ℤ) → lt_z w lo ≡ false → x ≡ w -ℤ lo → pos 0 ≤ℤ x
room-left x w lo t d = omega wholes

-- ---- what fits

sum_fits : (a b : ℤ) → Within 10000000000 a → Within 10000000000 b → SFits w64 (a +ℤ b)
sum_fits a b p q = omega wholes

three-weights-fit : (a b c : ℤ) → Within 604800000 a → Within 604800000 b → Within 604800000 c → SFits w32 (a +ℤ b +ℤ c)
three-weights-fit a b c p q r = omega wholes

-- Bounds that a number has from its width alone.
wider-sum-fits : (a b : ℤ) → SFits w32 a → SFits w32 b → SFits w64 (a +ℤ b)
wider-sum-fits a b f g = omega (wholes, fits-least f, fits_below f, fits-least g, fits_below g)

-- A time on the run's clock. A product is an unknown to `omega`: a law bounds it.
clock-fits : (j t : ℕ) (window : ℤ) → j ≤ 1000000001 → Within 86400000 window → t ≤ 100000000000000000 → SFits w64 (pos (j - 1) *ℤ window +ℤ pos t)
clock-fits j t window p q r = omega (wholes, mul-within {m = 1000000000} {a = pos (j - 1)} (omega wholes) q)

multiple : (z w : ℤ) → z ≤ℤ w → (pos 3 *ℤ z) ≤ℤ (w +ℤ w +ℤ w)
multiple z w p = omega (wholes, split-mul 3 z)

-- ---- what a proof about code is handed

-- A signed local is its bits.
local-is : (z w : ℤ) → SFits w32 z → SFits w32 w → lt_z (to_z w32 (of_z w32 z)) (to_z w32 (of_z w32 w)) ≡ true → z <ℤ w
local-is z w f g t = omega wholes

-- A sum that the machine makes, and what is read back from it.
sum-read-back : (a b r : ℤ) → r ≡ to_z w64 (of_z w64 a) +ℤ to_z w64 (of_z w64 b) → SFits w64 a → SFits w64 b → SFits w64 r → to_z w64 (of_z w64 r) ≡ a +ℤ b
sum-read-back a b r d f g h = omega wholes

-- `x as i64` and `x as i32`: what the cast asks, and what it gives.
widened : (x : ℤ) → SFits w32 x → to_z w64 (of_z w64 (to_z w32 (of_z w32 x))) ≡ x
widened x f = omega (wholes, cast-wide {v = w64} tt f)

narrows : (x : ℤ) → SFits w64 x → Within 604800000 x → SFits w32 (to_z w64 (of_z w64 x))
narrows x f p = omega wholes

narrowed : (x : ℤ) → SFits w64 x → SFits w32 (to_z w64 (of_z w64 x)) → to_z w32 (of_z w32 (to_z w64 (of_z w64 x))) ≡ x
narrowed x f g = omega wholes

-- An element that was read: only its size is known.
read_is : (v w : ℤ) → mag v < 2147483648 → SFits w32 w → lt_z (to_z w32 (of_z w32 w)) (to_z w32 (of_z w32 v)) ≡ false → v ≤ℤ w
read_is v w p f t = omega (wholes, told-fits w32 v p)

-- `v == i32::MAX`, the mark for no bound.
no_bound : (v : ℤ) → mag v < 2147483648 → eqb (of_z w32 v) 2147483647 ≡ eq_z v (pos 2147483647)
no_bound v p = bits-eqb {b = pos 2147483647} (told-fits w32 v p) (sfits_lit tt)

-- A product that the machine makes, of a natural that was cast and a signed local.
product_is : (n : ℕ) (z : ℤ) → SFits w64 (pos n) → SFits w64 z → SFits w64 (to_z w64 n *ℤ to_z w64 (of_z w64 z))
    → to_z w64 (of_z w64 (to_z w64 n *ℤ to_z w64 (of_z w64 z))) ≡ pos n *ℤ z
product_is n z f g h = mul-back h (to_z-of_z f) (to_z-of_z g)
