-- `bound_names`: the key, a name, and a name; `names_in-other` without the key, `names_in-key` with it. A name ends within the line (`name_to-fits`).
use mathlib.Core.Path.{sym, ◌∙◌, ap}
use Rattle.text.specs.Bytes.{bytes}
use Rattle.text.specs.LineLaws.{has_key-fits}
use Rattle.plan.specs.BoundNames.{then_second, then_number}
use Rattle.plan.specs.BoundLaws.{name_to-fits, names_in-other, names_in-key}
use Rattle.plan.proofs.bound_line.bound_names.Goals as goal

pub returns-then-not-has_key : goal.returns-then-not-has_key
unfolding bytes
returns-then-not-has_key c = sym (names_in-other c.args.line.now (sym c.if-not-has_key.ensures))

pub name_to-requires : goal.name_to-requires
unfolding bytes
name_to-requires c = has_key-fits (bytes "bound=") c.args.line.now (sym c.if-not-has_key.ensures)

pub returns-in_err-a : goal.returns-in_err-a
unfolding bytes
returns-in_err-a c =
    let l = c.args.line.now in
    c.from_residual.ensures ∙ sym (names_in-key l (sym c.if-not-has_key.ensures) ∙ ap (then_second l) (sym c.in_err-a.ensures))

pub name_to-requires-2 : goal.name_to-requires-2
unfolding bytes
name_to-requires-2 c =
    let l = c.args.line.now in
    name_to-fits l 6 (has_key-fits (bytes "bound=") l (sym c.if-not-has_key.ensures)) (sym c.in_ok-a.ensures)

pub returns-in_err-b : goal.returns-in_err-b
unfolding bytes
returns-in_err-b c =
    let l = c.args.line.now in
    c.from_residual-in_err-b.ensures
    ∙ sym (names_in-key l (sym c.if-not-has_key.ensures)
    ∙ ap (then_second l) (sym c.in_ok-a.ensures)
    ∙ ap (then_number c.in_ok-a.a) (sym c.in_err-b.ensures))

pub returns : goal.returns
unfolding bytes
returns c =
    let l = c.args.line.now in
    sym (names_in-key l (sym c.if-not-has_key.ensures)
    ∙ ap (then_second l) (sym c.in_ok-a.ensures)
    ∙ ap (then_number c.in_ok-a.a) (sym c.in_ok-b.ensures))
