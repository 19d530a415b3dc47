-- `is_text`: two texts of two lengths, by `is_text-other`; of one length, by `is_text-same` and one law a turn: `after_key-other`, `after_key-same`,
-- `after_key-end`.
use mathlib.Core.Path.{refl, sym, ◌∙◌, ap}
use native.Mathlib.Omega.{arith}
use Rattle.text.specs.Lines.{is_some}
use Rattle.text.specs.LineLaws.{after_key-other, after_key-same, after_key-end}
use Rattle.session.specs.StepReadLaws.{is_text-same, is_text-other}
use Rattle.session.proofs.read.is_text.Goals as goal

pub returns : goal.returns
returns c =
    let law = after_key-end c.args.t.now c.args.l.now c.loop-k.k (omega arith) in
    sym (is_text-same c.args.t.now c.args.l.now (omega arith) ∙ ap is_some (c.loop-k.invariant ∙ law))

pub returns-then-l-t : goal.returns-then-l-t
returns-then-l-t c = sym (is_text-other c.args.t.now c.args.l.now c.if-l-t.true)

pub loop-k-init : goal.loop-k-init
loop-k-init c = refl

pub returns-then-l-k : goal.returns-then-l-k
returns-then-l-k c =
    let law = after_key-other c.args.t.now c.args.l.now c.loop-k.k (omega arith) (omega arith) (omega arith) in
    sym (is_text-same c.args.t.now c.args.l.now (omega arith) ∙ ap is_some (c.loop-k.invariant ∙ law))

pub loop-k-preserved : goal.loop-k-preserved
loop-k-preserved c =
    let law = after_key-same c.args.t.now c.args.l.now c.loop-k.k (omega arith) (omega arith) (omega arith) in
    c.loop-k.invariant ∙ law
