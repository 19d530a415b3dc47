use Prim.Native.Nat.{◌+◌, ◌*◌}
use mathlib.Core.Path.{sym, ◌∙◌, ap}
use native.Mathlib.Omega.{arith}
use mir.Facts.{to_z-of_z}
use mir.Syntax.{w32}
use mir.Val.{to_z, of_z}
use Rattle.std.specs.Result.{is_err}
use Rattle.bounds.specs.FlatLaws.{each_node-stop, each_node-past, each_node-end}
use Rattle.rounds.specs.Next.{next_at, next_row}
use Rattle.rounds.proofs.joined.put_next_row.Goals as goal

pub returns-in_err-put_next_cell : goal.returns-in_err-put_next_cell
returns-in_err-put_next_cell c =
    let a = c.args in
    let l = c.loop-z in
    let r = c.put_next_cell in
    rw c.from_residual.ensures.0
    (sym
    (l.invariant
    ∙ each_node-stop (next_at a.times.now.early a.times.now.late a.jobs (to_z w32 (of_z w32 a.window)) a.carried.now.weights a.y) (1 + 2 * a.jobs) l.z
    l.table.weights
    (is_err r.result)
    r.new.table.weights
    (omega arith)
    r.ensures
    (ap is_err c.in_err-put_next_cell.was))
    ∙ ap (λ w. next_row a.times.now.early a.times.now.late a.jobs w a.carried.now.weights a.y a.table.now.weights) (to_z-of_z c.ranges.window))

pub loop-z-preserved : goal.loop-z-preserved
loop-z-preserved c =
    let a = c.args in
    let l = c.loop-z in
    let r = c.put_next_cell in
    l.invariant
    ∙ each_node-past (next_at a.times.now.early a.times.now.late a.jobs (to_z w32 (of_z w32 a.window)) a.carried.now.weights a.y) (1 + 2 * a.jobs) l.z
    l.table.weights
    (is_err r.result)
    r.new.table.weights
    (omega arith)
    r.ensures
    (ap is_err c.in_ok-put_next_cell.was)

pub returns : goal.returns
returns c =
    let a = c.args in
    let l = c.loop-z in
    sym
    (l.invariant
    ∙ each_node-end (next_at a.times.now.early a.times.now.late a.jobs (to_z w32 (of_z w32 a.window)) a.carried.now.weights a.y) (1 + 2 * a.jobs) l.z
    l.table.weights (omega arith))
    ∙ ap (λ w. next_row a.times.now.early a.times.now.late a.jobs w a.carried.now.weights a.y a.table.now.weights) (to_z-of_z c.ranges.window)
