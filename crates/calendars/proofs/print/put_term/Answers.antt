-- `put_term`: the key, the event, the comma, the number and the LF in a row, by `stored-append`.
use Rattle.std.proofs.Common.{rules, ◌≡◌, to_z, of_z, w64}
use Rattle.text.specs.LentLaws.{stored-append}
use Rattle.calendars.proofs.print.put_term.Goals as goal

pub returns-clause-stored : goal.returns-clause-stored
returns-clause-stored c =
    let same : to_z w64 (of_z w64 c.from.result) ≡ c.args.c = search rules in
    stored-append c.put_bytes-name.ensures
    (stored-append c.put_event-mark.ensures.stored (stored-append c.put_byte-number.ensures (rw same at c.put_ended.ensures.stored)))
