use mathlib.Core.Path.{sym, ap, ◌∙◌}
use lib.ListN.{take}
use Rattle.std.proofs.Common.{rules}
use Rattle.plan.specs.Pairs.{is_wrong_numbered}
use Rattle.plan.specs.ReadAt.{bounds_told, bound_lined}
use Rattle.plan.specs.ReadAtLaws.{line_taken-told, line_taken-placed, passed_on}
use Rattle.plan.specs.BoundsLoop.{BoundsPassed-stop, BoundsPassed-past, BoundsPassed-end}
use Rattle.plan.proofs.bounds_lines.read_bounds.Goals as goal

pub returns-in_err-d-clause-number_value : goal.returns-in_err-d-clause-number_value
returns-in_err-d-clause-number_value c =
    let a = c.args in
    let v = c.loop-i in
    BoundsPassed-stop a.s.now a.from a.number a.jobs a.bounds v.bound v.given v.at v.line v.i c.requires.few_jobs v.invariant c.loop-i-test.true _
    (line_taken-told (bound_lined a.jobs (is_wrong_numbered (take v.i v.given))) c.in_err-d.ensures v.invariant.place (λ r p. search rules))
    ∙ ap (bounds_told a.s.now a.number a.bounds) (sym (passed_on c.from_residual.ensures.1))

pub loop-i-preserved : goal.loop-i-preserved
loop-i-preserved c =
    let a = c.args in
    let v = c.loop-i in
    let read = c.in_ok-d in
    BoundsPassed-past a.s.now a.from a.number a.jobs a.bounds v.bound v.given v.at v.line v.i c.requires.few_jobs v.invariant c.loop-i-test.true
    c.requires.few_bounds read.d read.next c.pair_number.result
    (line_taken-placed (bound_lined a.jobs (is_wrong_numbered (take v.i v.given))) read.ensures v.invariant.place (λ r p. search rules))
    c.pair_number.ensures
    (line_taken-told (bound_lined a.jobs (is_wrong_numbered (take v.i v.given))) read.ensures v.invariant.place (λ r p. search rules))

pub returns-clause-number_value : goal.returns-clause-number_value
returns-clause-number_value c =
    let a = c.args in
    let v = c.loop-i in
    BoundsPassed-end a.s.now a.from a.number a.jobs a.bounds v.bound v.given v.at v.line v.i c.requires.few_jobs v.invariant c.loop-i-test.false
