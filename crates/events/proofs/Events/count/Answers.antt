-- `count`: the count of ones is the count of events.
use mathlib.Core.Path.{sym}
use borrow.Author.Rules.{rules}
use Rattle.events.specs.BitsLaws.{event_count-ones}
use Rattle.events.proofs.Events.count.Goals as goal

pub returns : goal.returns
returns c = sym (event_count-ones c.args.self.0 (search rules))
