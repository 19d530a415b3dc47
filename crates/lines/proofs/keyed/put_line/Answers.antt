-- `put_line`: the key, and the number with its LF, by `stored-append`.
use Rattle.text.specs.LentLaws.{stored-append}
use Rattle.lines.proofs.keyed.put_line.Goals as goal

pub returns-clause-stored : goal.returns-clause-stored
returns-clause-stored g c = stored-append c.put_bytes-number.ensures c.put_ended.ensures.stored
