-- What it is to keep the least of two cells, a cell moved by a number, and two cells in a row.
use Rattle.std.specs.Prelude.{◌≡◌, refl, ◌↔◌, Bool, true, false, cond, ℤ, pos, ◌+ℤ◌, ◌-ℤ◌, ◌≤ℤ◌}
use Rattle.std.specs.Int.Signed.{le_z}
use Rattle.whole.specs.Rules.{wholes}
use Rattle.bounds.specs.Tables.{Cell, off, upto, lesser_cell, plus, join}
use Rattle.bounds.specs.Elimination.{only_if}
use Rattle.strategy.proofs.Keeping.{Holds}

lesser-holds : (w v x : ℤ) (b : Bool) → le_z w v ≡ b → Holds (cond b (upto w) (upto v)) x ↔ ((x ≤ℤ w) × (x ≤ℤ v))
lesser-holds w v x true e = omega wholes
lesser-holds w v x false e = omega wholes

pub least_iff : (c d : Cell) (x : ℤ) → Holds (lesser_cell c d) x ↔ (Holds c x × Holds d x)
unfolding lesser_cell
least_iff off d x = (λ h. (tt, h), λ h. h.1)
least_iff (upto w) off x = (λ h. (h, tt), λ h. h.0)
least_iff (upto w) (upto v) x = lesser-holds w v x (le_z w v) refl

pub plus-iff : (c : Cell) (a x : ℤ) → Holds (plus c a) x ↔ Holds c (x -ℤ a)
unfolding plus
plus-iff off a x = (λ h. h, λ h. h)
plus-iff (upto w) a x = omega wholes

pub join-keeps : (c d : Cell) (x y : ℤ) → Holds c x → Holds d y → Holds (join c d) (x +ℤ y)
unfolding join
join-keeps off d x y p q = tt
join-keeps (upto w) off x y p q = tt
join-keeps (upto w) (upto v) x y p q = omega wholes

pub join-back : (w v x : ℤ) → Holds (join (upto w) (upto v)) x → x ≤ℤ (w +ℤ v)
unfolding join
join-back w v x h = h

-- a cell that says something is no empty cell
pub bounded-cell : (c : Cell) (a : ℤ) → ((x : ℤ) → Holds c x → x ≤ℤ a) → (w : ℤ) × (c ≡ upto w)
bounded-cell off a h = absurd (let no_room : (a +ℤ pos 1) ≤ℤ a = h (a +ℤ pos 1) tt in omega wholes)
bounded-cell (upto w) a h = (w, refl)

pub holds-only_if : (b : Bool) (c : Cell) (x : ℤ) → (b ≡ true → Holds c x) → Holds (only_if b c) x
holds-only_if true c x h = h refl
holds-only_if false c x h = tt
