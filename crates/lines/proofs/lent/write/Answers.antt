-- `write`: where the text was measured, `measured-none` and `measured-whole`; where every such text has room, `unmeasured-whole`.
use Rattle.std.proofs.Common.{arith}
use mathlib.Core.Path.{refl}
use Rattle.lines.specs.WrittenLaws.{measured-none, measured-whole, unmeasured-whole}
use Rattle.lines.proofs.lent.write.Goals as goal
use Rattle.lines.proofs.lent.write.Goals.{then-out-most+else-out-length, else-out-most}

pub returns-then-out-length-clause-out_after : goal.returns-then-out-length-clause-out_after
returns-then-out-length-clause-out_after g c = (measured-none c.put-length.ensures.stored refl c.if-out-length.true).bytes

pub returns-then-out-length-clause-value : goal.returns-then-out-length-clause-value
returns-then-out-length-clause-value g c = (measured-none c.put-length.ensures.stored refl c.if-out-length.true).answer

pub returns-clause-value : goal.returns-clause-value
returns-clause-value g c =
    let text = c.put.ensures in
    elim c.if-out-most.branch [
      | then-out-most+else-out-length w ↦ (measured-whole w.put-length.ensures.stored refl w.out-is w.if-out-length.false text.stored).answer
      | else-out-most w ↦ (unmeasured-whole w.out-is text.bound (omega (arith, c.most.ensures, w.if-out-most.false)) text.stored).answer
    ]

pub returns-clause-out_after : goal.returns-clause-out_after
returns-clause-out_after g c =
    let text = c.put.ensures in
    elim c.if-out-most.branch [
      | then-out-most+else-out-length w ↦ (measured-whole w.put-length.ensures.stored refl w.out-is w.if-out-length.false text.stored).bytes
      | else-out-most w ↦ (unmeasured-whole w.out-is text.bound (omega (arith, c.most.ensures, w.if-out-most.false)) text.stored).bytes
    ]
