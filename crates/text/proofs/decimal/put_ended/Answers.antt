use Rattle.text.specs.LentLaws.{stored-append}
use Rattle.text.proofs.decimal.put_ended.Goals as goal

pub returns-clause-stored : goal.returns-clause-stored
returns-clause-stored g c = stored-append c.put-behind.ensures.stored c.put_byte.ensures
