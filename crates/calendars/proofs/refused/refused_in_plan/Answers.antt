-- `refused_in_plan`: one law for each answer of the reader and each way to state a verdict, `alone-lines`, `alone-settled`, `alone-verdict`.
use Rattle.lines.specs.PartLaws.{part-refused}
use Rattle.calendars.specs.DecisionsLaws.{decision-settled, decision-refused, plan-accepted}
use Rattle.calendars.specs.RefusedLaws.{alone-lines, alone-verdict, alone-settled}
use Rattle.calendars.proofs.refused.refused_in_plan.Goals as goal

pub decide-requires : goal.decide-requires
decide-requires c = (plan-accepted c.args.s.now c.in-Ok.ensures).accepted

pub returns-in-Ok-decide : goal.returns-in-Ok-decide
returns-in-Ok-decide c = alone-settled c.args.s.now c.in-Ok.ensures (decision-settled c.in-Ok.read.plan c.in-Ok-decide.ensures).0

pub returns-in-Err-decide : goal.returns-in-Err-decide
returns-in-Err-decide c =
    let p = c.faulty_part in
    part-refused c.args.s.now _ p.result p.ensures.refusal p.ensures.line
    (alone-verdict c.args.s.now c.in-Ok.ensures (decision-refused c.in-Ok.read.plan c.in-Err-decide.ensures))

pub returns-in-Err : goal.returns-in-Err
returns-in-Err c =
    let p = c.faulty_part-in-Err in
    part-refused c.args.s.now _ p.result p.ensures.refusal p.ensures.line (alone-lines c.args.s.now c.in-Err.ensures)
