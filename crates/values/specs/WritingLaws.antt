-- The laws by which a plan as a value is written: one that is judged bad is refused by its own refusal and leaves every byte (`written_plan-refused`), and one
-- that is judged good is written as its text is (`written_plan-accepted`).
use Rattle.std.specs.Prelude.{◌≡◌, Result, Ok, Err, List, ℕ}
use Rattle.std.proofs.Math.Path.{sym}
use Rattle.std.proofs.Common.{◌∙◌, ap}
use Rattle.std.proofs.Math.Option.{Option, none, some}
use Rattle.text.specs.Lent.{written}
use Rattle.plan.specs.declared.Plan.{Plan}
use Rattle.lines.specs.declared.Refusal.{Refusal}
use Rattle.plan.specs.PlanWritten.{plan_text, judged_plan}
use Rattle.lines.specs.Written.{written_as}
use Rattle.values.specs.PlanJudged.{judged_answer}
use Rattle.values.specs.PlanWriting.{written_where, bytes_where, written_plan, plan_bytes}
use Rattle.values.specs.JudgedLaws.{judged_answer-none, judged_answer-some}

module _ (p : Plan) (out : List ℕ) where
  pub written_plan-refused : {x : Refusal} → Err x ≡ judged_answer (judged_plan p) → (Err x ≡ written_plan p out) × (out ≡ plan_bytes p out)
  unfolding written_plan plan_bytes written_where bytes_where
  written_plan-refused {x} e =
      let bad : judged_plan p ≡ some x = judged_answer-some (judged_plan p) x (sym e) in
      (sym (ap (λ (o : Option Refusal). written_where o (plan_text p) out) bad), sym (ap (λ (o : Option Refusal). bytes_where o (plan_text p) out) bad))

  pub written_plan-accepted : Ok tt ≡ judged_answer (judged_plan p) → {r : Result ℕ Refusal} {o : List ℕ}
      → (r ≡ written_as (plan_text p) out) × (o ≡ written (plan_text p) out)
      → (r ≡ written_plan p out) × (o ≡ plan_bytes p out)
  unfolding written_plan plan_bytes written_where bytes_where
  written_plan-accepted e w =
      let good : judged_plan p ≡ none = judged_answer-none (judged_plan p) (sym e) in (
        w.0 ∙ sym (ap (λ (o : Option Refusal). written_where o (plan_text p) out) good),
        w.1 ∙ sym
            (ap (λ (o : Option Refusal). bytes_where o (plan_text p) out) good),
      )
