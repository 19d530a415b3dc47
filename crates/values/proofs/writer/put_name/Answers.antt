-- `put_name`: the letter, the kind and the job with the byte after it in a row, by `stored-name`.
use Rattle.values.specs.PlanWrittenLaws.{stored-name}
use Rattle.text.specs.NumberLaws.{decimal-pos}
use Rattle.values.proofs.writer.put_name.Goals as goal

pub returns-clause-stored : goal.returns-clause-stored
returns-clause-stored c =
    let a = c.args in
    stored-name a.e a.end c.letter_byte.ensures c.kind_byte.ensures c.put_byte-second.ensures c.put_byte-third.ensures
    (rw (decimal-pos c.from.result, c.from.ensures) at c.put_ended.ensures.stored)
