-- `put_offered`: the key and two times in a row, by `offer_line-stored`.
use Rattle.text.specs.Bytes.{bytes}
use Rattle.session.specs.AnswerTextLaws.{offer_line-stored}
use Rattle.session.proofs.print.put_offered.Goals as goal

pub returns-clause-stored : goal.returns-clause-stored
unfolding bytes
returns-clause-stored c =
    offer_line-stored c.args.o c.put_bytes-from.ensures c.put_time-to.ensures.stored c.put_time.ensures.stored
