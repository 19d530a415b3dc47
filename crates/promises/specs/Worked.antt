-- Document 01's P and P3 under the theorems: P has a strategy for every number of windows; P3 has none for eight windows and one for every smaller number.
use Rattle.std.specs.Prelude.{ℕ, ◌≡◌, refl, List, ◌++◌}
use Rattle.text.specs.Bytes.{bytes}
use Rattle.lines.specs.declared.Refusal.TheVariants as refusal
use Rattle.lines.specs.Refusals.{refused_line}
use Rattle.plan.specs.PlanLines.{plan_alone}
use Rattle.calendars.specs.CalendarText.{calendar_output}
use Rattle.promises.specs.Case.{computing}
use Rattle.promises.specs.Printed.{NoWayFor, calendar-refused-4, WayForAll, calendar-settled-means}

abbrev P : List ℕ
P = bytes "window=10\nrounds=100\nlast=1000\njobs=1\nmin=2\nmax=4\nrelease=0\ndeadline=10\nbounds=2\nbound=ns1,ts1,12\nbound=ts1,ns1,-8\n"

abbrev P3 : List ℕ
P3 = bytes "window=10\nrounds=100\nlast=1000\njobs=1\nmin=2\nmax=4\nrelease=0\ndeadline=10\nbounds=1\nbound=ns1,ts1,9\n"

P-settled : calendar_output P ≡ bytes "settled=" ++ bytes "1\njob=1\nlow=0\nhigh=6\natleast=ps1,8\natmost=ps1,12\n"
unfolding computing
P-settled = refl

P3-refused : calendar_output P3 ≡ refused_line (refusal.NoStrategy 8)
unfolding computing
P3-refused = refl

pub P-strategies : WayForAll (plan_alone P)
P-strategies = calendar-settled-means P _ P-settled

pub P3-strategies : NoWayFor (plan_alone P3) 8
P3-strategies = calendar-refused-4 P3 8 P3-refused
