-- `read_step`: test by test, by the laws `step_in-..`.
use mathlib.Core.Path.{sym, ap, ◌∙◌}
use Rattle.text.specs.Bytes.{bytes}
use Rattle.session.specs.StepRead.{start_in, finish_in}
use Rattle.session.specs.StepReadLaws.{step_in-ask, step_in-start, step_in-finish, step_in-other}
use Rattle.session.proofs.read.read_step.Goals as goal

pub returns-then-is_text : goal.returns-then-is_text
unfolding bytes
returns-then-is_text c =
    sym (step_in-ask c.args.l.now (sym c.is_text.ensures ∙ c.if-is_text.true))

pub returns-in-Some : goal.returns-in-Some
unfolding bytes
returns-in-Some c =
    let key = c.in-Some.ensures.cases in
    c.start_in.ensures ∙ ap start_in key.1 ∙ sym (step_in-start c.args.l.now (sym c.is_text.ensures ∙ c.if-is_text.false) key.0)

pub returns-in-Some-strip_prefix : goal.returns-in-Some-strip_prefix
unfolding bytes
returns-in-Some-strip_prefix c =
    let key = c.in-Some-strip_prefix.ensures.cases in
    c.finish_in.ensures
    ∙ ap finish_in key.1
    ∙ sym (step_in-finish c.args.l.now (sym c.is_text.ensures ∙ c.if-is_text.false) c.in_default.ensures.cases key.0)

pub returns : goal.returns
unfolding bytes
returns c =
    sym (step_in-other c.args.l.now (sym c.is_text.ensures ∙ c.if-is_text.false) c.in_default.ensures.cases c.in_default-strip_prefix.ensures.cases)
