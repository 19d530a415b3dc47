-- `empty_calendar` meets its contract, by `no_calendar-made`.
use Rattle.calendars.specs.CalendarsLaws.{no_calendar-made}
use Rattle.calendars.proofs.walk.empty_calendar.Goals as goal

pub returns : goal.returns
returns c = no_calendar-made c.empty-empty.result c.empty-empty.ensures
