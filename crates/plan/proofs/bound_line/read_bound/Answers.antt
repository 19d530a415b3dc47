-- `read_bound`: one law a way, `bound_of-bare`, `bound_of-value`, `bound_of-fault`.
use mathlib.Core.Path.{sym, ◌∙◌, ap}
use lib.IntN.{ℤ}
use Rattle.std.proofs.Common.{Err}
use Rattle.std.proofs.lemmas.Result.{err_from_is_err_and}
use Rattle.text.specs.LineLaws.{drop-rest}
use Rattle.plan.specs.PlanLines.{judged_bound}
use Rattle.plan.specs.Pairs.{is_wrong_numbered}
use Rattle.plan.specs.BoundLaws.{names_in-fits, c-fits, bound_of-bare, bound_of-value, bound_of-fault}
use Rattle.plan.specs.NarrowLaws.{narrow-fits, narrow-value}
use Rattle.plan.proofs.bound_line.read_bound.Goals as goal

pub returns-in_default : goal.returns-in_default
returns-in_default c = sym (bound_of-bare c.args.jobs (is_wrong_numbered c.args.given.now) c.args.line.now (sym c.in_default.ensures))

pub slice_bounds-read_number-count : goal.slice_bounds-read_number-count
slice_bounds-read_number-count c = names_in-fits c.args.line.now (sym c.in-Some.ensures)

pub slice_bounds-read_number-start : goal.slice_bounds-read_number-start
slice_bounds-read_number-start c = names_in-fits c.args.line.now (sym c.in-Some.ensures)

pub returns-in_err-c : goal.returns-in_err-c
returns-in_err-c c =
    let l = c.args.line.now in
    let p = err_from_is_err_and c.from_residual.result c.from_residual.ensures.1 in
    p.1
    ∙ ap Err p.2
    ∙ sym (bound_of-fault c.args.jobs (is_wrong_numbered c.args.given.now) l (sym c.in-Some.ensures) (drop-rest c.in-Some.at l) c.in_err-c.ensures)

pub overflow_cast-c : goal.overflow_cast-c
overflow_cast-c c = narrow-fits (c-fits _ c.in_ok-c.ensures)

pub returns : goal.returns
returns c =
    let a = c.args in
    let l = a.line.now in
    let wrong = is_wrong_numbered a.given.now in
    c.judge_bound.ensures
    ∙ ap (λ (z : ℤ). judged_bound a.jobs wrong (record { a = c.in-Some.a; b = c.in-Some.b; c = z })) (narrow-value (c-fits _ c.in_ok-c.ensures))
    ∙ sym (bound_of-value a.jobs wrong l (sym c.in-Some.ensures) (drop-rest c.in-Some.at l) c.in_ok-c.ensures)
