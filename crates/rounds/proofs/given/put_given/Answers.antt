use mathlib.Core.Path.{refl, sym, ◌∙◌, ap}
use Rattle.std.specs.Result.{is_err}
use Rattle.plan.specs.PlanWritten.{bounds_of}
use Rattle.bounds.specs.Flat.{put_bounds}
use Rattle.bounds.specs.BoundsLaws.{put_bounds-stop, put_bounds-past, put_bounds-none}
use Rattle.rounds.specs.PutGivenLaws.{given-first, given-end}
use Rattle.rounds.proofs.given.put_given.Goals as goal

pub returns : goal.returns
returns c =
    let a = c.args in
    let l = c.loop-d in
    sym
    (l.invariant
    ∙ ap (λ bs. put_bounds a.times.now.early a.times.now.late bs l.table.weights) (given-end a.p a.between (bounds_of a.p) l.d-index c.loop-d-test.false)
    ∙ put_bounds-none a.times.now.early a.times.now.late l.table.weights)

pub returns-in_err-put_due : goal.returns-in_err-put_due
returns-in_err-put_due c =
    let a = c.args in
    let l = c.loop-d in
    let r = c.put_due in
    rw c.from_residual.ensures.0
    (put_bounds-stop a.times.now.early a.times.now.late _ _ l.table.weights (is_err r.result) r.new.table.weights (r.ensures a.p refl)
    (ap is_err c.in_err-put_due.was)
    ∙ sym
    (l.invariant
    ∙ ap (λ bs. put_bounds a.times.now.early a.times.now.late bs l.table.weights) (given-first a.p a.between _ l.d-index c.loop-d-test.true)))

pub loop-d-preserved : goal.loop-d-preserved
loop-d-preserved c =
    let a = c.args in
    let l = c.loop-d in
    let r = c.put_due in
    l.invariant
    ∙ ap (λ bs. put_bounds a.times.now.early a.times.now.late bs l.table.weights) (given-first a.p a.between _ l.d-index c.loop-d-test.true)
    ∙ sym
    (put_bounds-past a.times.now.early a.times.now.late _ _ l.table.weights (is_err r.result) r.new.table.weights (r.ensures a.p refl)
    (ap is_err c.in_ok-put_due.was))
