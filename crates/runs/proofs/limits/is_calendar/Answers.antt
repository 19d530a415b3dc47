use Rattle.std.proofs.Common.{rules, sym, ap, ◌∙◌, true, false, not}
use Rattle.runs.specs.LimitLaws.{any_from-more, any_from-found, any_from-none, terms_out, is_calendar-walk}
use Rattle.runs.proofs.limits.is_calendar.Goals as goal

pub returns-then-not-are_terms : goal.returns-then-not-are_terms
returns-then-not-are_terms c =
    let p = c.args.p.now in
    let d = c.args.c.now in
    let l = c.loop-i in
    sym
    (is_calendar-walk p d true
    (l.invariant
    ∙ any_from-found (terms_out p.jobs d.terms d.at_least d.at_most) p.jobs l.i (search rules)
    (ap not (sym c.are_terms.ensures ∙ c.if-not-are_terms.true))))

pub loop-i-preserved : goal.loop-i-preserved
loop-i-preserved c =
    let p = c.args.p.now in
    let d = c.args.c.now in
    let l = c.loop-i in
    l.invariant
    ∙ any_from-more (terms_out p.jobs d.terms d.at_least d.at_most) p.jobs l.i (search rules)
    (ap not (sym c.are_terms.ensures ∙ c.if-not-are_terms.false))

pub returns : goal.returns
returns c =
    let p = c.args.p.now in
    let d = c.args.c.now in
    let l = c.loop-i in
    sym (is_calendar-walk p d false (l.invariant ∙ any_from-none (terms_out p.jobs d.terms d.at_least d.at_most) p.jobs l.i (search rules)))
