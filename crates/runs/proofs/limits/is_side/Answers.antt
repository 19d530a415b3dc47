use Rattle.std.proofs.Common.{rules, ◌+◌, ◌*◌, sym, ap, ◌∙◌, true, false, pos, get_or, SFits, w32, to_z-of_z}
use Rattle.events.specs.Bits.{bits_of, most_events}
use Rattle.runs.specs.ValueLimits.{is_out}
use Rattle.runs.specs.LimitLaws.{any_from-more, any_from-found, any_from-none, out_at, is_side-past, is_side-walk}
use Rattle.runs.proofs.limits.is_side.Goals as goal

pub returns-then-not-is_below : goal.returns-then-not-is_below
returns-then-not-is_below c =
    let a = c.args in
    sym (is_side-past a.jobs a.i (bits_of a.set) a.cs.now (sym c.is_below.ensures ∙ c.if-not-is_below.true))

pub returns-then-is_out : goal.returns-then-is_out
returns-then-is_out c =
    let a = c.args in
    let l = c.loop-e in
    let out = out_at a.i (bits_of a.set) a.cs.now in
    let f : SFits w32 (get_or a.cs.now (a.i * most_events + l.e) (pos 0)) = search rules in
    let read = c.is_out.ensures ∙ ap (is_out (bits_of a.set) l.e) (to_z-of_z f) in
    sym
    (is_side-walk a.jobs a.i (bits_of a.set) a.cs.now (sym c.is_below.ensures ∙ c.if-not-is_below.false) true
    (l.invariant ∙ any_from-found out (2 * (a.jobs + a.i)) l.e (search rules) (sym read ∙ c.if-is_out.true)))

pub loop-e-preserved : goal.loop-e-preserved
loop-e-preserved c =
    let a = c.args in
    let l = c.loop-e in
    let out = out_at a.i (bits_of a.set) a.cs.now in
    let f : SFits w32 (get_or a.cs.now (a.i * most_events + l.e) (pos 0)) = search rules in
    let read = c.is_out.ensures ∙ ap (is_out (bits_of a.set) l.e) (to_z-of_z f) in
    l.invariant ∙ any_from-more out (2 * (a.jobs + a.i)) l.e (search rules) (sym read ∙ c.if-is_out.false)

pub returns : goal.returns
returns c =
    let a = c.args in
    let l = c.loop-e in
    sym
    (is_side-walk a.jobs a.i (bits_of a.set) a.cs.now (sym c.is_below.ensures ∙ c.if-not-is_below.false) false
    (l.invariant ∙ any_from-none (out_at a.i (bits_of a.set) a.cs.now) (2 * (a.jobs + a.i)) l.e (search rules)))
