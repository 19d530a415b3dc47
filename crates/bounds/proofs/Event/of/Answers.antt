-- `bounds::Event::of` meets its contract, by the laws of `EventsLaws` on a node's number.
use Rattle.bounds.specs.EventsLaws.{event_of-zero, event_of-odd, event_of-even}
use Rattle.bounds.proofs.Event.of.Goals as goal

pub returns-then-node-eq0 : goal.returns-then-node-eq0
returns-then-node-eq0 c = event_of-zero c.args.node c.if-node-eq0.true

pub returns-then-m-eq0 : goal.returns-then-m-eq0
returns-then-m-eq0 c = event_of-odd c.args.node c.if-node-eq0.false c.if-m-eq0.true

pub returns : goal.returns
returns c = event_of-even c.args.node c.if-node-eq0.false c.if-m-eq0.false
