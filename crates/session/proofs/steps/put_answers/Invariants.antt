-- `put_answers`: the invariant is `AnswersSoFar`, that whatever writes the answers that are left has written all of them, and that the run after them is the
-- run after all.
use Rattle.session.specs.AnswersLaws.{AnswersSoFar}
use Rattle.session.proofs.steps.put_answers.Given as goal

abbrev pub invariant-loop-step : goal.invariant-loop-step
invariant-loop-step l = AnswersSoFar l.p l.c l.initial.out l.initial.lines l.at l.initial.run l.out l.run l.step-iterator l.end
