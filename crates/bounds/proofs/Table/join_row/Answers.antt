-- `bounds::Table::join_row` meets its contract: the two cases of `joined_row`.
use mathlib.Core.Path.{◌∙◌, ap}
use mir.Syntax.{w32}
use mir.Facts.{to_z-of_z}
use Rattle.whole.specs.SplitLaws.{told-fits}
use Rattle.bounds.specs.Flat.{weight_at, joined_cells}
use Rattle.bounds.specs.FlatLaws.{is-mark, no-mark, joined_row-none, joined_row-on}
use Rattle.bounds.proofs.Table.join_row.Goals as goal

pub returns-then-w-eq-NO_BOUND : goal.returns-then-w-eq-NO_BOUND
returns-then-w-eq-NO_BOUND c =
    let a = c.args in
    let f = told-fits w32 (weight_at a.self.now.weights a.y a.s) c.w-1.given in
    joined_row-none a.times.now.early a.times.now.late a.s a.y a.self.now.weights (is-mark f c.if-w-eq-NO_BOUND.true)

pub returns : goal.returns
returns c =
    let a = c.args in
    let f = told-fits w32 (weight_at a.self.now.weights a.y a.s) c.w-1.given in
    c.join_cells.ensures
    ∙ ap (λ w. joined_cells a.times.now.early a.times.now.late a.s a.y w a.self.now.weights) (to_z-of_z f)
    ∙ joined_row-on a.times.now.early a.times.now.late a.s a.y a.self.now.weights (no-mark f c.if-w-eq-NO_BOUND.false)
