-- `is_calendar` meets its contract. The invariant: whether some job's terms are outside is whether some from job i on are. Rests on `is_calendar-walk` and the
-- laws of `any_from`.
use Rattle.std.proofs.Common.{◌≡◌, ◌-◌}
use Rattle.runs.specs.LimitLaws.{any_from, terms_out}
use Rattle.runs.proofs.limits.is_calendar.Given as goal

abbrev pub invariant-loop-i : goal.invariant-loop-i
invariant-loop-i l =
    let out = terms_out l.p.jobs l.c.terms l.c.at_least l.c.at_most in any_from out 0 l.p.jobs ≡ any_from out l.i (l.p.jobs - l.i)
