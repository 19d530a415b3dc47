-- `put_job`: the head and the terms of both sides in a row, by `stored-append`.
use Rattle.text.specs.Bytes.{bytes}
use Rattle.text.specs.LentLaws.{stored-append}
use Rattle.calendars.specs.CalendarText.{job_text}
use Rattle.calendars.proofs.print.put_job.Goals as goal

pub returns-clause-stored : goal.returns-clause-stored
unfolding bytes job_text
returns-clause-stored c =
    stored-append c.put_head-second.ensures.stored (stored-append c.put_terms-third.ensures.stored c.put_terms.ensures.stored)
