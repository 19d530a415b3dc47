-- `start_in`: `auto` by `start_in-auto`, else a time by `start_in-time` and then `time_step-value` or `time_step-bad`.
use mathlib.Core.Path.{sym, ◌∙◌}
use Rattle.plan.specs.ReadAtLaws.{passed_on}
use Rattle.text.specs.Bytes.{bytes}
use Rattle.runs.specs.declared.Step.TheVariants.{Start}
use Rattle.runs.specs.declared.Choice.TheVariants.{At}
use Rattle.session.specs.StepReadLaws.{start_in-auto, start_in-time, time_step-value, time_step-bad}
use Rattle.session.proofs.read.start_in.Goals as goal

pub returns-then-is_text : goal.returns-then-is_text
unfolding bytes
returns-then-is_text c =
    sym (start_in-auto c.args.s.now (sym c.is_text.ensures ∙ c.if-is_text.true))

pub returns-in_err-t : goal.returns-in_err-t
unfolding bytes
returns-in_err-t c =
    let s = c.args.s.now in
    rw (passed_on c.from_residual.ensures.1)
    (sym
    (start_in-time s (sym c.is_text.ensures ∙ c.if-is_text.false)
    ∙ time_step-bad (λ t. Start (At t)) s _ (sym c.read_number.ensures ∙ c.in_err-t.was)))

pub returns : goal.returns
unfolding bytes
returns c =
    let s = c.args.s.now in
    sym
    (start_in-time s (sym c.is_text.ensures ∙ c.if-is_text.false)
    ∙ time_step-value (λ t. Start (At t)) s _ (sym c.read_number.ensures ∙ c.in_ok-t.was))
