-- `put_event`: the letter, the kind and the job in a row, by `stored-append`; the job has at most twenty digits.
use Rattle.std.proofs.Common.{arith}
use Rattle.text.specs.LentLaws.{stored-append}
use Rattle.text.specs.NumberLaws.{decimal-pos}
use Rattle.calendars.specs.CalendarTextLaws.{stored-event, event_bytes-short}
use Rattle.calendars.proofs.print.put_event.Goals as goal

pub returns : goal.returns
returns c =
    let a = c.args in
    let stored = stored-event a.jobs a.e c.event_letter.ensures c.event_kind.ensures c.event_job.ensures
    (stored-append (stored-append c.put_byte-second.ensures c.put_byte-third.ensures) (rw (decimal-pos c.event_job.result) at c.put.ensures.stored)) in
    record { stored = stored; upper_bound = omega (arith, stored.place, event_bytes-short a.jobs a.e c.ranges.e.fits) }
