-- `rounds::joined::node_onto` meets its contract: the two cases of `onto`.
use Rattle.rounds.specs.OnNextLaws.{onto-origin, onto-event}
use Rattle.rounds.proofs.joined.node_onto.Goals as goal

pub returns-then-y-eq0 : goal.returns-then-y-eq0
returns-then-y-eq0 c = onto-origin c.args.jobs c.args.y c.if-y-eq0.true

pub returns-else-y-eq0 : goal.returns-else-y-eq0
returns-else-y-eq0 c = onto-event c.args.jobs c.args.y c.if-y-eq0.false
