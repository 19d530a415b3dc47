-- `next`: the trailing zeros of the set moved down lead from e to the next event.
use mathlib.Core.Path.{sym}
use Rattle.events.specs.Bits.{most_bits}
use Rattle.events.specs.BitsLaws.{next_from-zeros}
use Rattle.events.proofs.Events.next.Goals as goal

pub returns : goal.returns
returns c = sym (next_from-zeros c.args.self.0 c.args.e most_bits)
