-- `with`: the bits of both.
use Prim.Native.Nat.{◌*◌, ◌%◌, ◌^◌}
use mathlib.Core.Path.{◌≡◌, ap, ◌∙◌}
use native.Mathlib.Nat.{one-mul}
use native.Mathlib.Omega.{arith}
use borrow.Author.Rules.{rules}
use lib.Bits.{bit_or}
use lib.Pow.{shl_exact}
use Rattle.events.specs.Bits.{most_bits}
use Rattle.events.specs.BitsLaws.{with_event-or}
use Rattle.events.proofs.Events.with.Goals as goal

pub returns : goal.returns
returns c =
    let e = c.args.e in
    let bit : 1 * 2 ^ e % 2 ^ most_bits ≡ 2 ^ e = shl_exact 1 e most_bits (omega arith) (search rules) ∙ one-mul (2 ^ e) in
    ap (bit_or c.args.self.0) bit ∙ with_event-or e c.args.self.0
