-- One constructor is not another: from an equation of two of them `cc` has 0 ≡ 1, and from that everything follows. Written `clash (cc)`.
use Rattle.std.specs.Prelude.{ℕ, ◌≡◌}
use Rattle.std.proofs.Common.{arith}

pub clash : {A : Type 0} → ◌≡◌ {A = ℕ} 0 1 → A
clash e = absurd (omega arith)
