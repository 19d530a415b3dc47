use Rattle.std.proofs.Common.{ℕ, List, ◌+◌, drop, sym, ap, ◌∙◌, arith}
use Rattle.text.specs.Lent.{put}
use Rattle.text.specs.LentLaws.{put-past, put-end}
use Rattle.text.proofs.write.put_bytes.Goals as goal

pub loop-i-preserved : goal.loop-i-preserved
loop-i-preserved c =
    let a = c.args in
    let i = c.loop-i.i in
    c.loop-i.invariant
    ∙ put-past c.loop-i.out a.at a.s.now i (omega arith)
    ∙ ap (λ (o : List ℕ). put o (a.at + (i + 1)) (drop (i + 1) a.s.now)) (sym c.store.ensures)

pub returns : goal.returns
returns c =
    let a = c.args in
    let i = c.loop-i.i in
    record { place = omega arith; slice = sym (c.loop-i.invariant ∙ put-end c.loop-i.out (a.at + i) a.s.now i (omega arith)) }
