-- The laws of `up` and `dn`, which turn a fact about whole numbers into one about naturals, the only numbers that `omega` reads.
-- The operations: one of the two parts is 0; a negation swaps them; a sum and a difference have an equation with no subtraction in it; a multiple
-- multiplies both; a product has an equation for the sum of its parts.
-- The orders, `≡`, `≢`, and each test at true and at false (`-split-iff`): a is up a - dn a and b is up b - dn b, so a against b is up a + dn b
-- against up b + dn a. Apart is min < max, since a rule of `omega` cannot end in `≢`.
-- The machine, at any width: what fits, what is read back from the bits, what a cast to a wider number asks, and what a test of two numbers by `==` or
-- `!=` says of them.
-- Not here: the rules that `omega` is handed (`Rules`), and what these do not reach by themselves (`Order`).

use Rattle.std.specs.Prelude.{◌≡◌, refl, ◌≢◌, ◌↔◌, ◌⊎◌, Bool, true, false, not, cond, ℕ, zero, suc, ◌+◌, ◌*◌, ◌-◌, ◌^◌, ◌≤◌, ◌<◌, min, max, T, ltb, leb, eqb, ℤ, pos, negsuc, neg_ℤ, ◌+ℤ◌, ◌-ℤ◌, ◌*ℤ◌, ◌≤ℤ◌, ◌<ℤ◌}
use Rattle.std.proofs.Common.{sym, ◌∙◌, ap, inl, inr, true≢false, mul-zero, arith, ltb→lt, nltb→le, leb→le, le→leb, lt→ltb, ltb-true, ltb-false, leb-true, leb-false, eqb-true, lt-ltb, le-ltb, le-leb, eq-eqb, ne_eqb, to_z-of_z}
use Rattle.std.proofs.Math.IntN.{sub_ℕ}
use Rattle.std.specs.Int.Signed.{le_z, lt_z, le_z_yes, lt_z_yes, mag}
use Rattle.std.proofs.lemmas.Bool.{eqb-false, lt-leb}
use Rattle.std.specs.Int.{Width}
use mir.Val.{SFits, to_z, of_z, hbits}
use Rattle.std.proofs.Math.Facts.{Fits-of_z, sfits_to_z, sfits_widen}
use Rattle.whole.specs.Split.{up, dn, eq_z}

-- ---- the operations

pub split_one : (z : ℤ) → (up z ≡ 0) ⊎ (dn z ≡ 0)
split_one (pos n) = inr refl
split_one (negsuc n) = inl refl

pub split-neg : (z : ℤ) → (up (neg_ℤ z) ≡ dn z) × (dn (neg_ℤ z) ≡ up z)
split-neg (pos zero) = (refl, refl)
split-neg (pos (suc n)) = (refl, refl)
split-neg (negsuc n) = (refl, refl)

-- ℤ's sum of two signs is a difference of naturals, which stands under a test.
by-test : (c : Bool) (x y : ℤ) (P : ℤ → Type 0) → (T c → P x) → (T (not c) → P y) → P (cond c x y)
by-test true x y P f g = f tt
by-test false x y P f g = g tt

split-subℕ : (a b : ℕ) → up (sub_ℕ a b) + b ≡ a + dn (sub_ℕ a b)
split-subℕ a b = by-test (ltb a b) (negsuc (b - suc a)) (pos (a - b)) (λ z. up z + b ≡ a + dn z) (λ t. omega (arith, ltb→lt)) (λ t. omega (arith, nltb→le))

pub split-add : (a b : ℤ) → up (a +ℤ b) + (dn a + dn b) ≡ (up a + up b) + dn (a +ℤ b)
split-add (pos a) (pos b) = omega arith
split-add (pos a) (negsuc b) = omega (arith, split-subℕ a (suc b))
split-add (negsuc a) (pos b) = omega (arith, split-subℕ b (suc a))
split-add (negsuc a) (negsuc b) = omega arith

pub split-sub : (a b : ℤ) → up (a -ℤ b) + (dn a + up b) ≡ (up a + dn b) + dn (a -ℤ b)
split-sub a b = omega (arith, split-add a (neg_ℤ b), split-neg b)

pub split-mul : (k : ℕ) (z : ℤ) → (up (pos k *ℤ z) ≡ k * up z) × (dn (pos k *ℤ z) ≡ k * dn z)
split-mul k (pos n) = (refl, sym (mul-zero k))
split-mul k (negsuc n) = omega (arith, split-neg (pos (k * suc n)))

-- The two parts of a product are mixed, their sum is not.
pub split-times : (a b : ℤ) → up (a *ℤ b) + dn (a *ℤ b) ≡ (up a + dn a) * (up b + dn b)
split-times (pos a) (pos b) = omega arith
split-times (pos a) (negsuc b) = omega (arith, split-neg (pos (a * suc b)))
split-times (negsuc a) (pos b) = omega (arith, split-neg (pos (suc a * b)))
split-times (negsuc a) (negsuc b) = omega arith

-- ---- the orders and `≡`

pub le-split-iff : (a b : ℤ) → a ≤ℤ b ↔ up a + dn b ≤ up b + dn a
le-split-iff (pos a) (pos b) = (λ h. omega (arith, leb→le), λ h. le_z_yes (omega (arith, le→leb)))
le-split-iff (pos a) (negsuc b) = (λ h. absurd h.le, λ h. absurd (omega arith))
le-split-iff (negsuc a) (pos b) = (λ h. omega arith, λ h. le_z_yes tt)
le-split-iff (negsuc a) (negsuc b) = (λ h. omega (arith, leb→le), λ h. le_z_yes (omega (arith, le→leb)))

pub lt-split-iff : (a b : ℤ) → a <ℤ b ↔ up a + dn b < up b + dn a
lt-split-iff (pos a) (pos b) = (λ h. omega (arith, ltb→lt), λ h. lt_z_yes (omega (arith, lt→ltb)))
lt-split-iff (pos a) (negsuc b) = (λ h. absurd h.lt, λ h. absurd (omega arith))
lt-split-iff (negsuc a) (pos b) = (λ h. omega arith, λ h. lt_z_yes tt)
lt-split-iff (negsuc a) (negsuc b) = (λ h. omega (arith, ltb→lt), λ h. lt_z_yes (omega (arith, lt→ltb)))

split-unique : (a b : ℤ) → up a + dn b ≡ up b + dn a → a ≡ b
split-unique (pos a) (pos b) e = ap pos (omega arith)
split-unique (pos a) (negsuc b) e = absurd (omega arith)
split-unique (negsuc a) (pos b) e = absurd (omega arith)
split-unique (negsuc a) (negsuc b) e = ap negsuc (omega arith)

pub eq-split-iff : (a b : ℤ) → a ≡ b ↔ up a + dn b ≡ up b + dn a
eq-split-iff a b = (λ e. omega (arith, ap up e, ap dn e), split-unique a b)

pub ne-split-iff : (a b : ℤ) → a ≢ b ↔ min (up a + dn b) (up b + dn a) < max (up a + dn b) (up b + dn a)
ne-split-iff a b = (λ d. apart (up a + dn b) (up b + dn a) (λ e. d (split-unique a b e)), λ h e. omega (arith, (eq-split-iff a b).0 e))
  where
    apart : (x y : ℕ) → x ≢ y → min x y < max x y
    apart x y d = omega arith

-- ---- the tests

pub lt_z-true-split-iff : (a b : ℤ) → lt_z a b ≡ true ↔ up a + dn b < up b + dn a
lt_z-true-split-iff (pos a) (pos b) = (λ e. omega (arith, ltb-true), λ h. lt-ltb a b (omega arith))
lt_z-true-split-iff (pos a) (negsuc b) = (λ e. absurd (true≢false (sym e)), λ h. absurd (omega arith))
lt_z-true-split-iff (negsuc a) (pos b) = (λ e. omega arith, λ h. refl)
lt_z-true-split-iff (negsuc a) (negsuc b) = (λ e. omega (arith, ltb-true), λ h. lt-ltb b a (omega arith))

pub lt_z-false-split-iff : (a b : ℤ) → lt_z a b ≡ false ↔ up b + dn a ≤ up a + dn b
lt_z-false-split-iff (pos a) (pos b) = (λ e. omega (arith, ltb-false), λ h. le-ltb a b (omega arith))
lt_z-false-split-iff (pos a) (negsuc b) = (λ e. omega arith, λ h. refl)
lt_z-false-split-iff (negsuc a) (pos b) = (λ e. absurd (true≢false e), λ h. absurd (omega arith))
lt_z-false-split-iff (negsuc a) (negsuc b) = (λ e. omega (arith, ltb-false), λ h. le-ltb b a (omega arith))

pub le_z-true-split-iff : (a b : ℤ) → le_z a b ≡ true ↔ up a + dn b ≤ up b + dn a
le_z-true-split-iff (pos a) (pos b) = (λ e. omega (arith, leb-true), λ h. le-leb a b (omega arith))
le_z-true-split-iff (pos a) (negsuc b) = (λ e. absurd (true≢false (sym e)), λ h. absurd (omega arith))
le_z-true-split-iff (negsuc a) (pos b) = (λ e. omega arith, λ h. refl)
le_z-true-split-iff (negsuc a) (negsuc b) = (λ e. omega (arith, leb-true), λ h. le-leb b a (omega arith))

pub le_z-false-split-iff : (a b : ℤ) → le_z a b ≡ false ↔ up b + dn a < up a + dn b
le_z-false-split-iff (pos a) (pos b) = (λ e. omega (arith, leb-false), λ h. lt-leb a b (omega arith))
le_z-false-split-iff (pos a) (negsuc b) = (λ e. omega arith, λ h. refl)
le_z-false-split-iff (negsuc a) (pos b) = (λ e. absurd (true≢false e), λ h. absurd (omega arith))
le_z-false-split-iff (negsuc a) (negsuc b) = (λ e. omega (arith, leb-false), λ h. lt-leb b a (omega arith))

pub eq_z-true-split-iff : (a b : ℤ) → eq_z a b ≡ true ↔ up a + dn b ≡ up b + dn a
eq_z-true-split-iff (pos a) (pos b) = (λ e. omega (arith, eqb-true), λ h. eq-eqb a b (omega arith))
eq_z-true-split-iff (pos a) (negsuc b) = (λ e. absurd (true≢false (sym e)), λ h. absurd (omega arith))
eq_z-true-split-iff (negsuc a) (pos b) = (λ e. absurd (true≢false (sym e)), λ h. absurd (omega arith))
eq_z-true-split-iff (negsuc a) (negsuc b) = (λ e. omega (arith, eqb-true), λ h. eq-eqb a b (omega arith))

pub eq_z-false-split-iff : (a b : ℤ) → eq_z a b ≡ false ↔ min (up a + dn b) (up b + dn a) < max (up a + dn b) (up b + dn a)
eq_z-false-split-iff (pos a) (pos b) = (λ e. omega (arith, eqb-false a b e), λ h. ne_eqb a b (omega arith))
eq_z-false-split-iff (pos a) (negsuc b) = (λ e. omega arith, λ h. refl)
eq_z-false-split-iff (negsuc a) (pos b) = (λ e. omega arith, λ h. refl)
eq_z-false-split-iff (negsuc a) (negsuc b) = (λ e. omega (arith, eqb-false a b e), λ h. ne_eqb a b (omega arith))

-- ---- the machine

pub fits-split-iff : (w : Width) (z : ℤ) → SFits w z ↔ max (suc (up z)) (dn z) ≤ 2 ^ hbits w
fits-split-iff w (pos n) = (λ f. omega (arith, f.sfits), λ h. record { sfits = omega arith })
fits-split-iff w (negsuc n) = (λ f. omega (arith, f.sfits), λ h. record { sfits = omega arith })

-- The number that a signed local holds is its bits: this is what a need or an invariant says of it.
pub split-back : {w : Width} (z : ℤ) → SFits w z → up (to_z w (of_z w z)) + dn z ≡ up z + dn (to_z w (of_z w z))
split-back {w} z f = (eq-split-iff (to_z w (of_z w z)) z).0 (to_z-of_z f)

-- Of a call's result (`.ok`) and of an element that was read (`.given`) only the size is known: list this law with the number and that fact.
pub told-fits : (w : Width) (z : ℤ) → mag z < 2 ^ hbits w → SFits w z
told-fits w z p = record { sfits = p }

-- What a cast to as many bits or more asks: `cast-wide tt c.fits.x`. One to fewer asks for bounds, and `omega wholes` shows it of them.
pub cast-wide : {w v : Width} {z : ℤ} → T (leb (hbits w) (hbits v)) → SFits w z → SFits v (to_z w (of_z w z))
cast-wide t f = sfits_widen t (sfits_to_z (Fits-of_z f))

-- A product that the machine makes, of factors that are known: `omega` reads none.
pub mul-back : {w : Width} {a b x y : ℤ} → SFits w (x *ℤ y) → x ≡ a → y ≡ b → to_z w (of_z w (x *ℤ y)) ≡ a *ℤ b
mul-back f d e = to_z-of_z f ∙ cc

-- `a == b` and `a != b` compare the bits of two signed numbers.
pub bits-eq : {w : Width} {a b : ℤ} → SFits w a → SFits w b → of_z w a ≡ of_z w b → a ≡ b
bits-eq {w} f g e = sym (to_z-of_z f) ∙ ap (to_z w) e ∙ to_z-of_z g

pub bits-ne : (w : Width) (a b : ℤ) → (of_z w a ≡ of_z w b → ⊥) → a ≢ b
bits-ne w a b d e = d (ap (of_z w) e)

module _ {w : Width} where
  by_bits : (a b : ℤ) → SFits w a → SFits w b → (t : Bool) → eq_z a b ≡ t → eqb (of_z w a) (of_z w b) ≡ t
  by_bits a b f g true e = eq-eqb (of_z w a) (of_z w b) (ap (of_z w) (split-unique a b ((eq_z-true-split-iff a b).0 e)))
  by_bits a b f g false e = ne_eqb (of_z w a) (of_z w b) (λ d. omega (arith, (eq_z-false-split-iff a b).0 e, (eq-split-iff a b).0 (bits-eq f g d)))

  pub bits-eqb : {a b : ℤ} → SFits w a → SFits w b → eqb (of_z w a) (of_z w b) ≡ eq_z a b
  bits-eqb {a} {b} f g = by_bits a b f g (eq_z a b) refl
