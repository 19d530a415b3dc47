-- `rounds::given::put_due` meets its contract: a bound that is not due changes nothing.
use mathlib.Core.Path.{sym, ◌∙◌, ap}
use Rattle.bounds.specs.Flat.{put_bounds}
use Rattle.bounds.specs.BoundsLaws.{put_bounds-none}
use Rattle.rounds.specs.PutGivenLaws.{given-due, given-other}
use borrow.Author.Tests.{not-true, not-false}
use Rattle.rounds.proofs.given.put_due.Goals as goal

pub returns-then-one_next-between : goal.returns-then-one_next-between
returns-then-one_next-between c =
    let a = c.args in
    λ p same.
    sym
    (ap (λ bs. put_bounds a.times.now.early a.times.now.late bs a.table.now.weights)
    (given-other p a.d a.between c.one_next.result (sym c.one_next.ensures) (not-true _ c.if-one_next-between.true))
    ∙ put_bounds-none a.times.now.early a.times.now.late a.table.now.weights)

pub returns : goal.returns
returns c =
    let a = c.args in
    let r = c.one_next in
    λ p same.
    c.put_bound.ensures p same
    ∙ ap (λ bs. put_bounds a.times.now.early a.times.now.late bs a.table.now.weights)
    (sym (given-due p a.d a.between r.result (sym r.ensures) (not-false _ c.if-one_next-between.false)))
