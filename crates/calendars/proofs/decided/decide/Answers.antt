-- `decide`: the refusal of the verdict is what is decided (`decided-refused`); of a settled plan the calendar of the joined table is the plan's
-- (`decided-settled`).
use native.Mathlib.Omega.{arith}
use mathlib.Core.Path.{ap, ◌∙◌}
use Rattle.rounds.specs.Rounds.{verdict_told}
use Rattle.calendars.specs.DecisionsLaws.{SettledIn, round-settled, decided-settled}
use Rattle.calendars.proofs.decided.decide.Goals as goal
use Rattle.calendars.proofs.decided.decide.Goals.{In_ok-round}

-- the settled set
settled-in : (c : In_ok-round) → SettledIn c.args.p c.in_ok-round.round
settled-in c = round-settled c.args.p c.in_ok-round.round (c.in_ok-round.ensures ∙ ap verdict_told c.settle-verdict.ensures.value)

pub calendar_of-calendar-requires : goal.calendar_of-calendar-requires
calendar_of-calendar-requires c =
    let o = settled-in (goal.at.calendar_of-calendar-requires c).In_ok-round in
    let joins = c.settle-verdict.ensures.settled_on in (
      record {
        times-held = c.times_of-times.ensures;
        room = omega arith;
        size = c.settle-verdict.ensures.joined_len;
        fit = joins.fits _ o.set o.is;
      },
      joins.sound _ o.set o.is,
    )

pub returns : goal.returns
returns c =
    let o = settled-in (goal.at.returns c).In_ok-round in
    decided-settled c.args.p _ o.set _ c.calendar_of-calendar.result o.is (c.settle-verdict.ensures.settled_on.joins _ o.set o.is) c.calendar_of-calendar.ensures
