-- No two answers meet one promise. A promise that is an equation with a definition has one answer (`only`), in this crate and in every other; a writer's
-- promise has one slice and one place (`stored-unique`).

use Rattle.std.specs.Prelude.{ℕ, ◌≡◌, List}
use Rattle.std.proofs.Common.{sym, ◌∙◌}
use Rattle.text.specs.Lent.{Stored}

pub only {ℓ} : {A : Type ℓ} {x y z : A} → x ≡ z → y ≡ z → x ≡ y
only p q = p ∙ sym q

pub stored-unique : {out s o p : List ℕ} {at j k : ℕ} → Stored out at s o j → Stored out at s p k → (o ≡ p) × (j ≡ k)
stored-unique d e = (only d.slice e.slice, only d.place e.place)
