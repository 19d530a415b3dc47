-- `put_to_front`: what is copied is what the definition puts, place by place.
use Rattle.std.proofs.Common.{rules}
use Rattle.runs.specs.SeenLaws.{to_front-copied}
use Rattle.runs.proofs.seen.put_to_front.Goals as goal

pub returns : goal.returns
returns c =
    let copied = c.copy_within.ensures in
    to_front-copied c.args.n c.args.times.now _ _ (search rules) (search rules) copied.len copied.by_index.0 copied.by_index.2
