-- `rounds::own::put_order` meets its contract: one put, of the bound that `in_order` has.
use mathlib.Core.Path.{◌∙◌}
use Rattle.rounds.specs.PutLaws.{order_is}
use Rattle.rounds.proofs.own.put_order.Goals as goal

pub returns : goal.returns
returns c =
    let a = c.args in
    c.put.ensures ∙ order_is a.times.now.early a.times.now.late a.k a.table.now.weights
