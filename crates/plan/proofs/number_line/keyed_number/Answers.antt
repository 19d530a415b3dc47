-- `keyed_number`: the number is read in the range in the number reader's width, and lies in an i32's range.
use mathlib.Core.Path.{◌∙◌, ap}
use Rattle.std.proofs.Common.{Ok, Err}
use Rattle.std.proofs.lemmas.Result.{err_from_is_err_and}
use Rattle.lines.specs.Reading.{lined_number}
use Rattle.plan.specs.NarrowLaws.{narrow-fits, narrow-value, wide-value, number_after-fits}
use Rattle.plan.proofs.number_line.keyed_number.Goals as goal

pub returns-in_err-z : goal.returns-in_err-z
unfolding lined_number
returns-in_err-z c =
    let p = err_from_is_err_and c.from_residual.result c.from_residual.ensures.1 in
    p.1
    ∙ ap Err p.2
    ∙ ap lined_number (rw (wide-value c.ranges.lo c.from.ensures, wide-value c.ranges.hi c.from-2.ensures) at c.in_err-z.ensures)

pub overflow_cast-result : goal.overflow_cast-result
overflow_cast-result c =
    let told = rw (wide-value c.ranges.lo c.from.ensures, wide-value c.ranges.hi c.from-2.ensures) at c.in_ok-z.ensures in
    narrow-fits (number_after-fits c.args.key.now c.args.l.now c.ranges.lo c.ranges.hi told)

pub returns : goal.returns
unfolding lined_number
returns c =
    let told = rw (wide-value c.ranges.lo c.from.ensures, wide-value c.ranges.hi c.from-2.ensures) at c.in_ok-z.ensures in
    ap Ok (narrow-value (number_after-fits c.args.key.now c.args.l.now c.ranges.lo c.ranges.hi told)) ∙ ap lined_number told
