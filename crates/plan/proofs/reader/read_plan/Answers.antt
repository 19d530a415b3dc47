-- `read_plan`: a refused head is the answer, and an accepted one is if nothing follows it: `alone-refused`, `alone-more`, `alone-end`.
use mathlib.Core.Path.{◌∙◌}
use Rattle.plan.specs.PlanLines.{plan_head}
use Rattle.plan.specs.ReadAtLaws.{passed_on}
use Rattle.plan.specs.HeadLaws.{alone-refused, alone-more, alone-end, plan_head-rest}
use Rattle.plan.proofs.reader.read_plan.Goals as goal

pub returns-in_err-r : goal.returns-in_err-r
returns-in_err-r c = let s = c.args.s.now in passed_on c.from_residual.ensures.1 ∙ alone-refused s (plan_head s) c.in_err-r.ensures

pub returns-then-at-s : goal.returns-then-at-s
returns-then-at-s c = let s = c.args.s.now in alone-more s (plan_head s) c.in_ok-r.ensures c.if-at-s.true

pub returns : goal.returns
returns c = let s = c.args.s.now in alone-end s (plan_head s) (plan_head-rest s) c.in_ok-r.ensures c.if-at-s.false
