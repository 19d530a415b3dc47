-- `rounds::own::put_own` meets its contract: the ranges, the orders, and then the given bounds.
use Prim.Native.Nat.{◌+◌, ◌-◌}
use mathlib.Core.Path.{◌≡◌, sym, ◌∙◌, ap}
use mathlib.Core.Bool.{false}
use mathlib.Core.List.{◌++◌}
use native.Mathlib.Omega.{arith}
use Rattle.std.specs.Result.{is_err}
use Rattle.plan.specs.PlanWritten.{bounds_of}
use Rattle.bounds.specs.Events.{nodes}
use Rattle.bounds.specs.Flat.{flat, put_bounds}
use Rattle.bounds.specs.BoundsLaws.{put_bounds-stop, put_bounds-past}
use Rattle.rounds.specs.Given.{given_bounds, ranges, orders, own_bounds}
use Rattle.rounds.specs.PutLaws.{ranges_of-is}
use Rattle.rounds.specs.PutGivenLaws.{own_bounds-is}
use Rattle.rounds.proofs.own.put_own.Goals as goal

pub returns-in_err-put_ranges : goal.returns-in_err-put_ranges
returns-in_err-put_ranges c =
    let ranges-are : let a = c.args in
    flat (is_err c.put_ranges.result) c.put_ranges.new.table.weights ≡ put_bounds a.times.now.early a.times.now.late (ranges a.p a.p.jobs) a.table.now.weights = let a = c.args in
    c.put_ranges.ensures
    ∙ ap (λ bs. put_bounds a.times.now.early a.times.now.late bs a.table.now.weights)
    (ranges_of-is a.p a.times.now.early a.times.now.late (nodes (a.p.jobs + a.p.jobs)) c.requires.times a.p.jobs (omega arith)) in
    let a = c.args in
    let r = c.put_ranges in
    rw c.from_residual.ensures.0
    (put_bounds-stop a.times.now.early a.times.now.late (ranges a.p a.p.jobs) (orders (a.p.jobs - 1) ++ given_bounds a.p false (bounds_of a.p))
    a.table.now.weights
    (is_err r.result)
    r.new.table.weights
    ranges-are
    (ap is_err c.in_err-put_ranges.was)
    ∙ ap (λ bs. put_bounds a.times.now.early a.times.now.late bs a.table.now.weights) (sym (own_bounds-is a.p)))

pub returns-in_err-put_orders : goal.returns-in_err-put_orders
returns-in_err-put_orders c =
    let ranges-are : let a = c.args in
    flat (is_err c.put_ranges.result) c.put_ranges.new.table.weights ≡ put_bounds a.times.now.early a.times.now.late (ranges a.p a.p.jobs) a.table.now.weights = let a = c.args in
    c.put_ranges.ensures
    ∙ ap (λ bs. put_bounds a.times.now.early a.times.now.late bs a.table.now.weights)
    (ranges_of-is a.p a.times.now.early a.times.now.late (nodes (a.p.jobs + a.p.jobs)) c.requires.times a.p.jobs (omega arith)) in
    let after-ranges : let a = c.args in
    put_bounds a.times.now.early a.times.now.late (orders (a.p.jobs - 1) ++ given_bounds a.p false (bounds_of a.p)) c.put_ranges.new.table.weights
    ≡ put_bounds a.times.now.early a.times.now.late (own_bounds a.p) a.table.now.weights = let a = c.args in
    let r = c.put_ranges in
    put_bounds-past a.times.now.early a.times.now.late (ranges a.p a.p.jobs) (orders (a.p.jobs - 1) ++ given_bounds a.p false (bounds_of a.p))
    a.table.now.weights
    (is_err r.result)
    r.new.table.weights
    ranges-are
    (ap is_err c.in_ok-put_ranges.was)
    ∙ ap (λ bs. put_bounds a.times.now.early a.times.now.late bs a.table.now.weights) (sym (own_bounds-is a.p)) in
    let a = c.args in
    let r = c.put_orders in
    rw c.from_residual-in_err-put_orders.ensures.0
    (put_bounds-stop a.times.now.early a.times.now.late (orders (a.p.jobs - 1)) (given_bounds a.p false (bounds_of a.p)) c.put_ranges.new.table.weights
    (is_err r.result)
    r.new.table.weights
    r.ensures
    (ap is_err c.in_err-put_orders.was)
    ∙ after-ranges)

pub returns : goal.returns
returns c =
    let ranges-are : let a = c.args in
    flat (is_err c.put_ranges.result) c.put_ranges.new.table.weights ≡ put_bounds a.times.now.early a.times.now.late (ranges a.p a.p.jobs) a.table.now.weights = let a = c.args in
    c.put_ranges.ensures
    ∙ ap (λ bs. put_bounds a.times.now.early a.times.now.late bs a.table.now.weights)
    (ranges_of-is a.p a.times.now.early a.times.now.late (nodes (a.p.jobs + a.p.jobs)) c.requires.times a.p.jobs (omega arith)) in
    let after-ranges : let a = c.args in
    put_bounds a.times.now.early a.times.now.late (orders (a.p.jobs - 1) ++ given_bounds a.p false (bounds_of a.p)) c.put_ranges.new.table.weights
    ≡ put_bounds a.times.now.early a.times.now.late (own_bounds a.p) a.table.now.weights = let a = c.args in
    let r = c.put_ranges in
    put_bounds-past a.times.now.early a.times.now.late (ranges a.p a.p.jobs) (orders (a.p.jobs - 1) ++ given_bounds a.p false (bounds_of a.p))
    a.table.now.weights
    (is_err r.result)
    r.new.table.weights
    ranges-are
    (ap is_err c.in_ok-put_ranges.was)
    ∙ ap (λ bs. put_bounds a.times.now.early a.times.now.late bs a.table.now.weights) (sym (own_bounds-is a.p)) in
    let a = c.args in
    let r = c.put_orders in
    c.put_given.ensures
    ∙ put_bounds-past a.times.now.early a.times.now.late (orders (a.p.jobs - 1)) (given_bounds a.p false (bounds_of a.p)) c.put_ranges.new.table.weights
    (is_err r.result)
    r.new.table.weights
    r.ensures
    (ap is_err c.in_ok-put_orders.was)
    ∙ after-ranges
