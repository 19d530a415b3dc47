-- No two answers meet the promise of a public operation: each promise is an equation, and `only` of the crate `text` says the rest.
use Rattle.std.specs.Prelude.{◌≡◌, Result, List, ℕ}
use Rattle.text.specs.Lent.{written}
use Rattle.text.specs.Unique.{only}
use Rattle.plan.specs.declared.Plan.{Plan}
use Rattle.lines.specs.declared.Refusal.{Refusal}
use Rattle.plan.specs.PlanWritten.{judged_plan}
use Rattle.calendars.specs.declared.Decision.{Decision}
use Rattle.lines.specs.Written.{written_as}
use Rattle.values.specs.Decisions.{value_decision, value_text}
use Rattle.values.specs.PlanJudged.{judged_answer}
use Rattle.values.specs.PlanWriting.{written_plan, plan_bytes}

pub judge-plan-unique : (p : Plan) {r q : Result Unit Refusal} → r ≡ judged_answer (judged_plan p) → q ≡ judged_answer (judged_plan p) → r ≡ q
judge-plan-unique p = only

pub write-plan-unique : (p : Plan) (out : List ℕ) {r q : Result ℕ Refusal} → r ≡ written_plan p out → q ≡ written_plan p out → r ≡ q
write-plan-unique p out = only

pub write-plan-bytes-unique : (p : Plan) (out : List ℕ) {o u : List ℕ} → o ≡ plan_bytes p out → u ≡ plan_bytes p out → o ≡ u
write-plan-bytes-unique p out = only

pub decide-value-unique : (p : Plan) {r q : Result Decision Refusal} → r ≡ value_decision p (judged_plan p) → q ≡ value_decision p (judged_plan p) → r ≡ q
decide-value-unique p = only

pub answer-value-unique : (p : Plan) (out : List ℕ) {r q : Result ℕ Refusal} → r ≡ written_as (value_text p (judged_plan p)) out
    → q ≡ written_as (value_text p (judged_plan p)) out
    → r ≡ q
answer-value-unique p out = only

pub answer-value-bytes-unique : (p : Plan) (out : List ℕ) {o u : List ℕ} → o ≡ written (value_text p (judged_plan p)) out
    → u ≡ written (value_text p (judged_plan p)) out
    → o ≡ u
answer-value-bytes-unique p out = only
