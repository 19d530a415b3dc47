-- From the number reader's i64 to a plan's i32 and back: a number in an i32's range is the same in both widths (`narrow-fits`, `narrow-value`, `wide-value`),
-- and one that is not negative is a count (`count-fits`). A number that was read between two of them is one (`number_after-fits`).
use Rattle.std.specs.Prelude.{◌≡◌, T, ℤ, pos, negsuc, nat_abs, ◌≤ℤ◌, List, ℕ, Ok}
use Rattle.std.proofs.Common.{◌∙◌, sym, ap, arith}
use lib.Signed.{non_neg}
use mir.Facts.{to_z-of_z}
use mir.Syntax.{w32, w64}
use mir.Val.{Fits, SFits, to_z, of_z}
use Rattle.whole.specs.Rules.{whole}
use Rattle.whole.specs.Widths.{i32-fits, i32-least, i32-most, i32-wide, i32-widened}
use Rattle.text.specs.Numbers.{number_after}
use Rattle.text.specs.NumberLaws.{number_after-value}

module _ {z : ℤ} (fits : SFits w32 z) where
  pub narrow-fits : SFits w32 (to_z w64 (of_z w64 z))
  narrow-fits = rw (to_z-of_z {w = w64} {z = z} (i32-wide fits)) fits

  pub narrow-value : to_z w32 (of_z w32 (to_z w64 (of_z w64 z))) ≡ z
  narrow-value = ap (λ (y : ℤ). to_z w32 (of_z w32 y)) (to_z-of_z {w = w64} {z = z} (i32-wide fits)) ∙ to_z-of_z {w = w32} {z = z} fits

  pub wide-value : {y : ℤ} → y ≡ to_z w32 (of_z w32 z) → to_z w64 (of_z w64 y) ≡ z
  wide-value e = ap (λ (y : ℤ). to_z w64 (of_z w64 y)) e ∙ i32-widened fits

  count : (x : ℤ) → pos 0 ≤ℤ x → SFits w32 x → T (non_neg x) × Fits w64 (nat_abs x)
  count (pos n) h f = (tt, record { fits = omega (arith, f.sfits) })
  count (negsuc n) h f = absurd (omega whole)

  pub count-fits : pos 0 ≤ℤ z → T (non_neg (to_z w32 (of_z w32 z))) × Fits w64 (nat_abs (to_z w32 (of_z w32 z)))
  count-fits h = rw (to_z-of_z {w = w32} {z = z} fits) (count z h fits)

pub number_after-fits : (key l : List ℕ) {lo hi z : ℤ} → SFits w32 lo → SFits w32 hi → Ok z ≡ number_after key lo hi l → SFits w32 z
number_after-fits key l {lo} {hi} {z} f g e =
    let q = (number_after-value key lo hi z l (sym e)).0 in
    i32-fits z (omega (whole, q.least, i32-least f)) (omega (whole, q.greatest, i32-most g))
