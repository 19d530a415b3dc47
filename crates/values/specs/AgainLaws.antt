-- A plan as a value that is accepted, written out and read again, is the same plan, but for the places beyond its jobs and bounds, which hold zeros then
-- (`accepted-again`). Of a plan that came from a text, whose places hold zeros already, `plan_alone-again` of the crate `plan` says it.
use Rattle.std.specs.Prelude.{◌≡◌, Result, refl, List, [], ℕ, ◌+◌, ◌*◌}
use Rattle.std.proofs.Common.{◌∙◌, ap}
use Rattle.whole.specs.Clash.{clash}
use Rattle.plan.specs.declared.Plan.{Plan}
use Rattle.lines.specs.declared.Refusal.{Refusal}
use Rattle.lines.specs.Reading.{Reading, read, refused}
use Rattle.plan.specs.PlanLines.{plan_lines, nothing_after, plan_alone}
use Rattle.plan.specs.PlanWritten.{trimmed, plan_text}
use Rattle.plan.specs.Accepted.{Accepted}
use Rattle.plan.specs.HeadLaws.{plan_head-short}
use Rattle.values.specs.JudgedLines.{onward, plan_lines-judged}
use Rattle.values.specs.JudgedLength.{PlanFits, plan_text-short}
use Rattle.values.specs.JudgedLaws.{accepted-by_lines, accepted-fits}

-- a refusal without the text that is left
abbrev bare_refusal : Refusal → Reading Plan
bare_refusal r = refused r []

abbrev without_text : Reading Plan → Reading Plan
without_text (read p s n) = read p s n
without_text (refused r s) = bare_refusal r

without_text-read : (m : Reading Plan) {p : Plan} {s : List ℕ} {n : ℕ} → without_text m ≡ read p s n → m ≡ read p s n
without_text-read (read q t i) e = e
without_text-read (refused r t) e = clash (cc)

-- 'A plan written and read again is the same plan'
pub accepted-again : (p : Plan) → Accepted p → plan_alone (plan_text p) ≡ read (trimmed p) [] (6 + 4 * p.jobs + p.bounds)
unfolding nothing_after
accepted-again p a =
    ap nothing_after
    (plan_head-short (plan_text p) (plan_text-short p f)
    ∙ without_text-read (plan_lines (plan_text p) 1) (plan_lines-judged p f.placed bare_refusal without_text (λ r s. refl) ∙ ap
    (λ (x : Result Unit Refusal). onward bare_refusal x (read (trimmed p) [] n)) (accepted-by_lines p a)))
  where
    n : ℕ
    n = 6 + 4 * p.jobs + p.bounds

    f : PlanFits p
    f = accepted-fits p a
