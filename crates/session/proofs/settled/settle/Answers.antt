-- `settle`: what the reader of a plan answered, and then its verdict, by the laws `verdict_after-..`; a verdict stands past the text's end (`end_empty`).
use Rattle.std.proofs.Math.Path.{refl, sym, ap}
use Rattle.std.proofs.Common.{◌∙◌}
use Rattle.lines.specs.Reading.{refused}
use Rattle.lines.specs.PartLaws.{end_empty}
use Rattle.plan.specs.ReadAtLaws.{passed_on}
use Rattle.plan.specs.PlanPartLaws.{plan_head-tail}
use Rattle.rounds.specs.TextVerdictLaws.{verdict_after-refused, verdict_after-settled, verdict_after-judged}
use Rattle.calendars.specs.DecisionsLaws.{decision-settled, decision-refused}
use Rattle.session.specs.SettledLaws.{settled-inside, head-read}
use Rattle.session.proofs.settled.settle.Goals as goal

pub returns-in_err-head : goal.returns-in_err-head
returns-in_err-head c =
    let s = c.args.text.now in
    rw (passed_on c.from_residual.ensures.1) (verdict_after-refused s _ (plan_head-tail s) _ c.in_err-head.ensures)

pub decide-requires : goal.decide-requires
decide-requires c = (head-read c.args.text.now c.in_ok-head.ensures).accepted

pub invariant_of-result : goal.invariant_of-result
invariant_of-result c =
    let h = head-read c.args.text.now c.in_ok-head.ensures in record { placed = h.placed; short = h.short; numbered = h.numbered }

pub returns-in-Ok : goal.returns-in-Ok
returns-in-Ok c =
    let s = c.args.text.now in
    let d = decision-settled c.in_ok-head.head.plan c.in-Ok.ensures in
    record { text = refl; reads = verdict_after-settled s _ (plan_head-tail s) _ c.in_ok-head.ensures _ d.0; calendar = d.1 }

pub invariant_of-result-in-Ok : goal.invariant_of-result-in-Ok
invariant_of-result-in-Ok c =
    let p = c.in_ok-head.head.plan in
    let d = decision-settled p c.in-Ok.ensures in
    record { inside = settled-inside p (head-read c.args.text.now c.in_ok-head.ensures).accepted d.0 d.1 }

pub returns-in-Err : goal.returns-in-Err
returns-in-Err c =
    let s = c.args.text.now in
    let d = decision-refused c.in_ok-head.head.plan c.in-Err.ensures in
    verdict_after-judged s _ (plan_head-tail s) _ c.in_ok-head.ensures _ d ∙ ap (refused c.in-Err.refusal) (sym (end_empty s))
