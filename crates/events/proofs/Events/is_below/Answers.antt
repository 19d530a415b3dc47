-- `is_below`: what is left of the set moved down by count, and a u64 has no more than its bits.
use Prim.Native.Nat.{◌^◌, ◌≤◌, ◌<◌}
use mathlib.Core.Path.{sym}
use native.Mathlib.Omega.{arith}
use borrow.Author.Rules.{rules}
use lib.Pow.{pow_mono}
use Rattle.events.specs.Bits.{most_bits}
use Rattle.events.specs.BitsLaws.{is_below-fits, is_below-shift}
use Rattle.events.proofs.Events.is_below.Goals as goal

pub returns-then-count-ge-MOST_BITS : goal.returns-then-count-ge-MOST_BITS
returns-then-count-ge-MOST_BITS c =
    let a = c.args in
    let small : a.self.0 < 2 ^ most_bits = search rules in
    let beyond : most_bits ≤ a.count = search rules in
    rw (is_below-fits a.count a.self.0 (omega (arith, small, pow_mono beyond))) (search rules)

pub returns-else-count-ge-MOST_BITS : goal.returns-else-count-ge-MOST_BITS
returns-else-count-ge-MOST_BITS c = let a = c.args in sym (is_below-shift a.count a.self.0 (search rules))
