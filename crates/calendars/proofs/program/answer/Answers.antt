-- `answer`: a plan that was read is decided (`plan-accepted`, `text-of-decision`), and one that was refused has its line (`plan-refused`).
use mathlib.Core.Path.{◌∙◌}
use native.Mathlib.Omega.{arith}
use Rattle.lines.specs.WrittenLaws.{wrote_as}
use Rattle.calendars.specs.DecisionsLaws.{plan-accepted, plan-refused, text-of-decision}
use Rattle.calendars.proofs.program.answer.Goals as goal

pub decide-requires : goal.decide-requires
decide-requires c = (plan-accepted c.args.text.now c.in-Ok.ensures).accepted

pub write_decision-requires : goal.write_decision-requires
write_decision-requires c = (plan-accepted c.args.text.now c.in-Ok.ensures).accepted.jobs-most

pub returns-in-Ok : goal.returns-in-Ok
returns-in-Ok c =
    let w = c.write_decision.ensures in
    let told = wrote_as c.args.out.now (omega arith)
    (text-of-decision c.in-Ok.read.plan c.decide.ensures ∙ (plan-accepted c.args.text.now c.in-Ok.ensures).output)
    (w.value, (w.out_after, w.c_len_bound)) in
    record { value = told.0; out_after = told.1.0; text_len_bound = told.1.1 }

pub returns-in-Err : goal.returns-in-Err
returns-in-Err c =
    let w = c.write_refused.ensures in
    let told = wrote_as c.args.out.now (omega arith) (plan-refused c.args.text.now c.in-Err.ensures) (w.value, (w.out_after, w.x_len_bound)) in
    record { value = told.0; out_after = told.1.0; text_len_bound = told.1.1 }
