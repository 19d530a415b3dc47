use Prim.Native.Nat.{◌+◌, ◌*◌}
use mathlib.Core.Path.{sym, ◌∙◌, ap}
use native.Mathlib.Omega.{arith}
use mir.Facts.{to_z-of_z}
use mir.Syntax.{w32}
use mir.Val.{to_z, of_z}
use Rattle.std.specs.Result.{is_err}
use Rattle.bounds.specs.FlatLaws.{each_node-stop, each_node-past, each_node-end}
use Rattle.rounds.specs.Next.{next_row, next_rows}
use Rattle.rounds.proofs.joined.put_next.Goals as goal

pub returns-in_err-put_next_row : goal.returns-in_err-put_next_row
returns-in_err-put_next_row c =
    let a = c.args in
    let l = c.loop-y in
    let r = c.put_next_row in
    rw c.from_residual.ensures.0
    (sym
    (l.invariant
    ∙ each_node-stop (next_row a.times.now.early a.times.now.late a.jobs (to_z w32 (of_z w32 a.window)) a.carried.now.weights) (1 + 2 * a.jobs) l.y l.table.weights
    (is_err r.result)
    r.new.table.weights
    (omega arith)
    r.ensures
    (ap is_err c.in_err-put_next_row.was))
    ∙ ap (λ w. next_rows a.times.now.early a.times.now.late a.jobs w a.carried.now.weights a.table.now.weights) (to_z-of_z c.ranges.window))

pub loop-y-preserved : goal.loop-y-preserved
loop-y-preserved c =
    let a = c.args in
    let l = c.loop-y in
    let r = c.put_next_row in
    l.invariant
    ∙ each_node-past (next_row a.times.now.early a.times.now.late a.jobs (to_z w32 (of_z w32 a.window)) a.carried.now.weights) (1 + 2 * a.jobs) l.y
    l.table.weights
    (is_err r.result)
    r.new.table.weights
    (omega arith)
    r.ensures
    (ap is_err c.in_ok-put_next_row.was)

pub returns : goal.returns
returns c =
    let a = c.args in
    let l = c.loop-y in
    sym
    (l.invariant
    ∙ each_node-end (next_row a.times.now.early a.times.now.late a.jobs (to_z w32 (of_z w32 a.window)) a.carried.now.weights) (1 + 2 * a.jobs) l.y l.table.weights
    (omega arith))
    ∙ ap (λ w. next_rows a.times.now.early a.times.now.late a.jobs w a.carried.now.weights a.table.now.weights) (to_z-of_z c.ranges.window)
