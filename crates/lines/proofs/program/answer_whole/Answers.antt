-- `answer_whole`: the answer has room, so it is written whole (`answered-whole`), and what was read is its first n bytes or all of it (`whole-min`).
use Rattle.std.proofs.Common.{◌≡◌, ◌≤◌, ◌∙◌, ap, sym, min, length, take, arith}
use Rattle.lines.specs.Written.{written_whole}
use Rattle.lines.specs.WrittenLaws.{answered-ok, answered-whole, whole-min}
use Rattle.lines.proofs.program.answer_whole.Goals as goal

pub unwrap-requires : goal.unwrap-requires
unwrap-requires g c = answered-ok _ c.args.out.now (omega (arith, c.answer.ensures.bound)) c.answer.ensures.value

whole : (g : _) (c : goal.After-unwrap g) → c.min.result ≡ min c.args.n (length c.args.read.now) → let text = g.P.Program.printed (take c.args.n c.args.read.now) in
    (c.unwrap.result ≡ length text) × ((c.answer.new.out ≡ written_whole text c.args.out.now) × (c.unwrap.result ≤ length c.answer.new.out))
whole g c all =
    let a = c.args in
    let told = c.answer.ensures in
    let p = g.P.Program.printed in
    whole-min p a.read.now a.out.now a.n all
    (answered-whole (p (take c.min.result a.read.now)) a.out.now (omega (arith, told.bound)) told.value told.out_after c.unwrap.ensures)

pub returns-clause-value : goal.returns-clause-value
returns-clause-value g c = (whole g c (c.min.ensures ∙ ap (min c.args.n) (sym c.told-read))).0

pub returns-clause-out_after : goal.returns-clause-out_after
returns-clause-out_after g c = (whole g c (c.min.ensures ∙ ap (min c.args.n) (sym c.told-read))).1.0

pub returns-clause-upper_bound : goal.returns-clause-upper_bound
returns-clause-upper_bound g c = (whole g c (c.min.ensures ∙ ap (min c.args.n) (sym c.told-read))).1.1
