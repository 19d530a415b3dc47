-- `put_head`: three lines in a row, by `stored-keyed`.
use Rattle.std.proofs.Common.{rules, ◌≡◌, ◌+◌, to_z, of_z, w64, pos}
use Rattle.text.specs.Bytes.{bytes}
use Rattle.lines.specs.KeyedLaws.{stored-keyed}
use Rattle.calendars.proofs.print.put_head.Goals as goal

pub returns-clause-stored : goal.returns-clause-stored
unfolding bytes
returns-clause-stored c =
    let t = c.args.terms in
    let low : to_z w64 (of_z w64 c.args.terms.low.0) ≡ c.args.terms.low.0 = search rules in
    let high : to_z w64 (of_z w64 c.args.terms.high.0) ≡ c.args.terms.high.0 = search rules in
    stored-keyed (bytes "job=") (pos (c.args.i + 1)) c.put_line-second.ensures.stored
    (stored-keyed (bytes "low=") t.low.0 (rw low at c.put_line-third.ensures.stored) (rw high at c.put_line.ensures.stored))
