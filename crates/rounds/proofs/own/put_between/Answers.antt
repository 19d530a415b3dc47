-- `rounds::own::put_between` meets its contract: the last finish before the next window's first start, and then the given bounds.
use Prim.Native.Nat.{◌-◌}
use mathlib.Core.Path.{sym, ◌∙◌, ap}
use mathlib.Core.Bool.{true}
use mathlib.Core.List.{[], ◌∷◌}
use Rattle.std.specs.Result.{is_err}
use Rattle.plan.specs.PlanWritten.{bounds_of}
use Rattle.bounds.specs.Flat.{put_bounds}
use Rattle.bounds.specs.BoundsLaws.{put_bounds-stop, put_bounds-past}
use Rattle.rounds.specs.Given.{given_bounds, in_order}
use Rattle.rounds.specs.PutGivenLaws.{between_bounds-is}
use Rattle.rounds.proofs.own.put_between.Goals as goal

pub returns-in_err-put_order : goal.returns-in_err-put_order
returns-in_err-put_order c =
    let a = c.args in
    let r = c.put_order in
    rw c.from_residual.ensures.0
    (put_bounds-stop a.times.now.early a.times.now.late (in_order (a.p.jobs - 1) ∷ []) (given_bounds a.p true (bounds_of a.p)) a.table.now.weights
    (is_err r.result)
    r.new.table.weights
    r.ensures
    (ap is_err c.in_err-put_order.was)
    ∙ ap (λ bs. put_bounds a.times.now.early a.times.now.late bs a.table.now.weights) (sym (between_bounds-is a.p)))

pub returns : goal.returns
returns c =
    let a = c.args in
    let r = c.put_order in
    c.put_given.ensures
    ∙ put_bounds-past a.times.now.early a.times.now.late (in_order (a.p.jobs - 1) ∷ []) (given_bounds a.p true (bounds_of a.p)) a.table.now.weights
    (is_err r.result)
    r.new.table.weights
    r.ensures
    (ap is_err c.in_ok-put_order.was)
    ∙ ap (λ bs. put_bounds a.times.now.early a.times.now.late bs a.table.now.weights) (sym (between_bounds-is a.p))
