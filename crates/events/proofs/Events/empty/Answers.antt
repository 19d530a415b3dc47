-- `empty`: no bit is set.
use mathlib.Core.Path.{refl}
use Rattle.events.specs.Bits.{event_set}
use Rattle.events.proofs.Events.empty.Goals as goal

pub returns : goal.returns
unfolding event_set
returns c = refl
