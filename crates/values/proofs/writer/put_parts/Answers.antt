use Rattle.std.proofs.Common.{arith}
use Rattle.values.specs.PlanWrittenLaws.{stored-none, stored-part}
use Rattle.values.proofs.writer.put_parts.Goals as goal

pub loop-part-init : goal.loop-part-init
loop-part-init g c = (omega arith, stored-none c.args.out.now c.args.at)

pub loop-part-preserved : goal.loop-part-preserved
loop-part-preserved g c =
    let l = c.loop-part in
    (omega arith, stored-part g.T.Part.text c.args.parts.now l.part-index c.loop-part-test.true c.part-item.is l.invariant.1 c.put-end.ensures.stored)
