-- `put_answers`: one law a way, `answers_so_far-..`; a step's answer names a job of one digit.
use mathlib.Core.Path.{sym, ◌∙◌}
use native.Mathlib.Omega.{arith}
use Rattle.runs.specs.InsideLaws.{inside-step, inside-move}
use Rattle.session.specs.AnswerJobLaws.{answer-job-few}
use Rattle.session.specs.AnswersLaws.{answers_so_far-end, answers_so_far-refused, answers_so_far-last, answers_so_far-more}
use Rattle.session.proofs.steps.put_answers.Goals as goal

pub returns-in-Err : goal.returns-in-Err
returns-in-Err c =
    let w = c.put_refused.ensures in
    let d = answers_so_far-refused c.loop-step.invariant (omega arith) (rw c.in-Err.is at c.in-Some.ensures.steps) w.stored in
    record { stored = d.stored; run_value = d.left; from_bound = d.short }

pub answer_step-answer-requires : goal.answer_step-answer-requires
answer_step-answer-requires c =
    inside-step _ _ _ c.loop-step.invariant.inside

pub put_answer-end-requires-clause-a_bound : goal.put_answer-end-requires-clause-a_bound
put_answer-end-requires-clause-a_bound c = rw c.answer_step-answer.ensures (answer-job-few _ _ _ _ c.loop-step.invariant.inside)

pub move_run-requires : goal.move_run-requires
move_run-requires c = inside-move _ _ _ c.loop-step.invariant.inside

pub returns-then-ends_session : goal.returns-then-ends_session
returns-then-ends_session c =
    let w = c.put_answer-end.ensures in
    let d = answers_so_far-last c.loop-step.invariant w.upper_bound (rw c.in-Ok.is at c.in-Some.ensures.steps) c.answer_step-answer.ensures c.move_run.ensures
    w.stored (sym c.ends_session.ensures ∙ c.if-ends_session.true) in
    record { stored = d.stored; run_value = d.left; from_bound = d.short }

pub loop-step-preserved : goal.loop-step-preserved
loop-step-preserved c =
    let w = c.put_answer-end.ensures in
    answers_so_far-more c.loop-step.invariant w.upper_bound (rw c.in-Ok.is at c.in-Some.ensures.steps) c.answer_step-answer.ensures c.move_run.ensures
    w.stored (sym c.ends_session.ensures ∙ c.if-ends_session.false)

pub returns : goal.returns
returns c =
    let d = answers_so_far-end c.loop-step.invariant c.in-None.ensures.steps in
    record { stored = d.stored; run_value = d.left; from_bound = d.short }
