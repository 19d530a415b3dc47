-- `put`: the key, the two names with their commas, and the number with its LF, by `stored-bound`.
use Rattle.std.proofs.Common.{rules, ◌≡◌, to_z, of_z, w64}
use Rattle.text.specs.Bytes.{bytes}
use Rattle.values.specs.PlanWrittenLaws.{stored-bound}
use Rattle.values.proofs.writer.BoundPart.put.Goals as goal

pub returns-clause-stored : goal.returns-clause-stored
unfolding bytes
returns-clause-stored c =
    let number : to_z w64 (of_z w64 c.from.result) ≡ c.args.self.c = search rules in
    stored-bound c.args.self c.put_bytes-first.ensures c.put_name-second.ensures.stored c.put_name-number.ensures.stored
    (rw number at c.put_ended.ensures.stored)
