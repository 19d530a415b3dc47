-- What a number's width tells, at 32 and at 64 bits: an i32 lies in its range (`i32-least`, `i32-most`), a number in that range fits (`i32-fits`), and an i32
-- is the same number at 64 bits (`i32-wide`, `i32-widened`).
use Rattle.std.specs.Prelude.{◌≡◌, ℤ, pos, negsuc, ◌≤ℤ◌}
use Rattle.std.proofs.Common.{◌∙◌, ap, to_z-of_z, SFits, to_z, of_z}
use Rattle.std.specs.Int.{w32, w64}
use Rattle.whole.specs.Rules.{whole}

pub i32-fits : (z : ℤ) → negsuc 2147483647 ≤ℤ z → z ≤ℤ pos 2147483647 → SFits w32 z
i32-fits (pos n) p q = record { sfits = omega whole }
i32-fits (negsuc n) p q = record { sfits = omega whole }

pub i32-least : {z : ℤ} → SFits w32 z → negsuc 2147483647 ≤ℤ z
i32-least {z = pos n} f = omega whole
i32-least {z = negsuc n} f = omega (whole, f.sfits)

pub i32-most : {z : ℤ} → SFits w32 z → z ≤ℤ pos 2147483647
i32-most {z = pos n} f = omega (whole, f.sfits)
i32-most {z = negsuc n} f = omega whole

pub i32-wide : {z : ℤ} → SFits w32 z → SFits w64 z
i32-wide {z = pos n} f = record { sfits = omega (whole, f.sfits) }
i32-wide {z = negsuc n} f = record { sfits = omega (whole, f.sfits) }

pub i32-widened : {z : ℤ} → SFits w32 z → to_z w64 (of_z w64 (to_z w32 (of_z w32 z))) ≡ z
i32-widened f = ap (λ z. to_z w64 (of_z w64 z)) (to_z-of_z f) ∙ to_z-of_z (i32-wide f)
