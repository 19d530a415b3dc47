-- `put_calendar`: the first line and the jobs in a row, by `stored-keyed`.
use lib.IntN.{pos}
use Rattle.text.specs.Bytes.{bytes}
use Rattle.calendars.specs.CalendarText.{calendar_text}
use Rattle.lines.specs.KeyedLaws.{stored-keyed}
use Rattle.calendars.proofs.print.put_calendar.Goals as goal

pub returns-clause-stored : goal.returns-clause-stored
unfolding bytes calendar_text
returns-clause-stored c = stored-keyed (bytes "settled=") (pos c.args.m) c.put_line-next.ensures.stored c.put_jobs.ensures.stored
