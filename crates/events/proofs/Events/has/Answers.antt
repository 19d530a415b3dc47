-- `has`: membership is one digit, and a u64 has no more than its bits.
use Prim.Native.Nat.{ℕ, ◌/◌, ◌^◌}
use mathlib.Core.Path.{sym, ap, ◌∙◌}
use borrow.Author.Rules.{rules}
use lib.Bits.{and_mask}
use lib.Dec.{eqb}
use Rattle.events.specs.Bits.{most_bits}
use Rattle.events.specs.BitsLaws.{has_event-at, has_event-past}
use Rattle.events.proofs.Events.has.Goals as goal

pub returns-then-e-lt-MOST_BITS : goal.returns-then-e-lt-MOST_BITS
returns-then-e-lt-MOST_BITS c =
    let a = c.args in
    ap (λ (d : ℕ). eqb d 1) (and_mask (a.self.0 / 2 ^ a.e) 1) ∙ sym (has_event-at a.e a.self.0)

pub returns-else-e-lt-MOST_BITS : goal.returns-else-e-lt-MOST_BITS
returns-else-e-lt-MOST_BITS c = let a = c.args in rw (has_event-past most_bits a.e a.self.0 (search rules) (search rules)) (search rules)
