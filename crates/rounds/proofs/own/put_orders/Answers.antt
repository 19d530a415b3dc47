use mathlib.Core.Path.{sym, ◌∙◌, ap}
use native.Mathlib.Omega.{arith}
use Rattle.std.specs.Result.{is_err}
use Rattle.rounds.specs.PutLaws.{orders-places, places-stop, places-past, places-end}
use Rattle.rounds.proofs.own.put_orders.Goals as goal

pub returns-in_err-put_order : goal.returns-in_err-put_order
returns-in_err-put_order c =
    let a = c.args in
    let l = c.loop-k in
    let r = c.put_order in
    rw c.from_residual.ensures.0
    (sym
    (l.invariant
    ∙ places-stop orders-places a.times.now.early a.times.now.late l.k l.table.weights (is_err r.result) r.new.table.weights (omega arith) r.ensures
    (ap is_err c.in_err-put_order.was)))

pub loop-k-preserved : goal.loop-k-preserved
loop-k-preserved c =
    let a = c.args in
    let l = c.loop-k in
    let r = c.put_order in
    l.invariant
    ∙ places-past orders-places a.times.now.early a.times.now.late l.k l.table.weights (is_err r.result) r.new.table.weights (omega arith) r.ensures
    (ap is_err c.in_ok-put_order.was)

pub returns : goal.returns
returns c =
    let a = c.args in
    let l = c.loop-k in
    sym (l.invariant ∙ places-end orders-places a.times.now.early a.times.now.late l.k l.table.weights (omega arith))
