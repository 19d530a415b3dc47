use Rattle.std.proofs.Common.{rules, sym, ap, ◌∙◌}
use Rattle.runs.specs.ValueLimits.{is_time}
use Rattle.runs.specs.LimitLaws.{are_times-more, are_times-none}
use Rattle.runs.proofs.limits.are_times.Goals as goal

pub returns-then-not-is_time : goal.returns-then-not-is_time
returns-then-not-is_time c =
    let l = c.loop-e in
    let a = c.args in
    let no = ap is_time (sym c.time_at.ensures) ∙ sym c.is_time.ensures ∙ c.if-not-is_time.true in
    sym (l.invariant ∙ are_times-more a.seen.now l.e a.count (search rules) ∙ rw (no))

pub loop-e-preserved : goal.loop-e-preserved
loop-e-preserved c =
    let l = c.loop-e in
    let a = c.args in
    let yes = ap is_time (sym c.time_at.ensures) ∙ sym c.is_time.ensures ∙ c.if-not-is_time.false in
    l.invariant ∙ are_times-more a.seen.now l.e a.count (search rules) ∙ rw (yes)

pub returns : goal.returns
returns c =
    let l = c.loop-e in
    let a = c.args in
    sym (l.invariant ∙ are_times-none a.seen.now l.e a.count (search rules))
