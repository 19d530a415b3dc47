-- `read_step_at`: a line has no LF, or is a step, or lacks something, by `line_to-bare`, `line_to-value`, `line_to-fault`.
use mathlib.Core.Path.{sym, ◌∙◌}
use native.Mathlib.Omega.{arith}
use Rattle.lines.specs.ReadAtLaws.{line_to-bare, line_to-fault, line_to-value}
use Rattle.session.specs.StepRead.{step_in, step_line}
use Rattle.session.specs.StepReadLaws.{step_at-taken}
use Rattle.session.proofs.read.read_step_at.Goals as goal

pub returns-then-s-next-clause-line_value : goal.returns-then-s-next-clause-line_value
unfolding step_line
returns-then-s-next-clause-line_value c =
    let a = c.args in
    line_to-bare step_in a.s.now a.at a.line c.next_line-next.result c.requires c.next_line-next.ensures (omega arith)

pub returns-in-Ok-clause-line_value : goal.returns-in-Ok-clause-line_value
unfolding step_line
returns-in-Ok-clause-line_value c =
    let a = c.args in
    line_to-value step_in a.s.now a.at a.line c.next_line-next.result c.requires c.next_line-next.ensures (omega arith) (sym c.read_step.ensures ∙ c.in-Ok.is)

pub returns-in-Ok-clause-step_within : goal.returns-in-Ok-clause-step_within
returns-in-Ok-clause-step_within c =
    let a = c.args in
    step_at-taken a.s.now a.at c.next_line-next.result c.requires c.next_line-next.ensures (omega arith) _ (sym c.read_step.ensures ∙ c.in-Ok.is)

pub returns-in-Err-clause-line_value : goal.returns-in-Err-clause-line_value
unfolding step_line
returns-in-Err-clause-line_value c =
    let a = c.args in
    rw c.at.ensures
    (line_to-fault step_in a.s.now a.at a.line c.next_line-next.result c.requires c.next_line-next.ensures (omega arith) (sym c.read_step.ensures ∙ c.in-Err.is))
