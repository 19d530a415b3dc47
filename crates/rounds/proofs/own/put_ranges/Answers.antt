use mathlib.Core.Path.{sym, ◌∙◌, ap}
use native.Mathlib.Omega.{arith}
use Rattle.std.specs.Result.{is_err}
use Rattle.rounds.specs.PutLaws.{ranges_of-places, places-stop, places-past, places-end}
use Rattle.rounds.proofs.own.put_ranges.Goals as goal

pub returns-in_err-put_place : goal.returns-in_err-put_place
returns-in_err-put_place c =
    let a = c.args in
    let l = c.loop-k in
    let r = c.put_place in
    rw c.from_residual.ensures.0
    (sym
    (l.invariant
    ∙ places-stop (ranges_of-places a.times.now.early a.times.now.late) a.times.now.early a.times.now.late l.k l.table.weights (is_err r.result) r.new.table.weights (omega arith)
    r.ensures
    (ap is_err c.in_err-put_place.was)))

pub loop-k-preserved : goal.loop-k-preserved
loop-k-preserved c =
    let a = c.args in
    let l = c.loop-k in
    let r = c.put_place in
    l.invariant
    ∙ places-past (ranges_of-places a.times.now.early a.times.now.late) a.times.now.early a.times.now.late l.k l.table.weights (is_err r.result) r.new.table.weights
    (omega arith) r.ensures
    (ap is_err c.in_ok-put_place.was)

pub returns : goal.returns
returns c =
    let a = c.args in
    let l = c.loop-k in
    sym (l.invariant ∙ places-end (ranges_of-places a.times.now.early a.times.now.late) a.times.now.early a.times.now.late l.k l.table.weights (omega arith))
