-- `step_inside`: nothing wraps, of a plan, a calendar and a run inside their limits.
use Rattle.runs.specs.InsideLaws.{inside-step, inside-move}
use Rattle.runs.proofs.steps.step_inside.Goals as goal

pub answer_step-answer-requires : goal.answer_step-answer-requires
answer_step-answer-requires c = inside-step _ _ _ c.requires

pub move_run-requires : goal.move_run-requires
move_run-requires c = inside-move _ _ _ c.requires
