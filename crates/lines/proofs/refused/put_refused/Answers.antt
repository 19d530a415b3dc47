-- `put_refused`: the key and two counts in a row, by `refused_line-stored`.
use Rattle.text.specs.Bytes.{bytes}
use Rattle.lines.specs.WrittenLaws.{refused_line-stored}
use Rattle.lines.proofs.refused.put_refused.Goals as goal

pub returns-clause-stored : goal.returns-clause-stored
unfolding bytes
returns-clause-stored c =
    refused_line-stored c.args.x c.number-n.ensures c.value-d.ensures c.put_bytes-first.ensures c.put_ended-second.ensures.stored c.put_ended.ensures.stored
