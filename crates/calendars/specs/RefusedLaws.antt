-- How a text that begins with a plan is refused, by what the reader of the plan answered: as its lines are (`told-lines`), or as its verdict is
-- (`told-verdict`), whatever comes after the plan; a plan alone that is settled is not refused (`told-settled-alone`). There a is the answer that is reported.
-- Of a plan alone the same, as a reading of the text (`alone-lines`, `alone-verdict`, `alone-settled`).
use Rattle.std.specs.Prelude.{ℕ, ◌≡◌, refl, List, length, drop, Result, Ok, Err}
use Rattle.std.proofs.Common.{sym, ap, subst, ◌∙◌}
use Rattle.lines.specs.declared.FaultyLine.{FaultyLine}
use Rattle.lines.specs.declared.Refusal.{Refusal}
use Rattle.lines.specs.Reading.{Reading, refused}
use Rattle.lines.specs.ReadAt.{faulty_in}
use Rattle.lines.specs.Answers.{answer_number, answer_value, part_at, RefusalReport, reported}
use Rattle.lines.specs.PartLaws.{Tail, leaves, told-refused, told_none, end_empty}
use Rattle.plan.specs.declared.Plan.{Plan}
use Rattle.plan.specs.declared.PlanRead.{PlanRead}
use Rattle.plan.specs.PlanLines.{plan_alone}
use Rattle.plan.specs.PlanAnswers.{plan_read}
use Rattle.plan.specs.PlanPartLaws.{plan_alone-tail}
use Rattle.rounds.specs.Rounds.{verdict, verdict_told}
use Rattle.rounds.specs.TextVerdict.{verdict_after, settled_alone}
use Rattle.rounds.specs.TextVerdictLaws.{verdict_after-refused, verdict_after-settled, verdict_after-judged}

-- what comes after the plan's verdict keeps a refusal
module _ {A : Type 0} (behind : Reading Plan → Reading A) (keeps : (x : Refusal) (t : List ℕ) → behind (refused x t) ≡ refused x t) where
  module _ (s : List ℕ) (m : Reading Plan) (tail : Tail s (leaves m)) (a : Result Unit Refusal) (x : Refusal) (e : a ≡ Err x) where
    refusal-told : {t : List ℕ} → verdict_after m ≡ refused x t → (at : ℕ) → drop at s ≡ t
        → RefusalReport (behind (verdict_after m)) (part_at s at a) (answer_number a) (answer_value a)
    refusal-told {t} f at p =
        subst (λ (m : Reading A). RefusalReport m (part_at s at a) (answer_number a) (answer_value a)) (sym (ap behind f ∙ keeps x t)) (told-refused s a at x e p)

    pub told-lines : (f : FaultyLine) → Err f ≡ plan_read s m → f.refusal ≡ x → RefusalReport (behind (verdict_after m)) (part_at s f.at a) (answer_number a) (answer_value a)
    told-lines f d q = refusal-told (verdict_after-refused s m tail f d ∙ ap (λ (x : Refusal). refused x (drop f.at s)) q) f.at refl

    pub told-verdict : (r : PlanRead) → Ok r ≡ plan_read s m → verdict_told (verdict r.plan) ≡ Err x → (at : ℕ) → at ≡ length s
        → RefusalReport (behind (verdict_after m)) (part_at s at a) (answer_number a) (answer_value a)
    told-verdict r d v at l = refusal-told (verdict_after-judged s m tail r d x v) at (ap (λ (k : ℕ). drop k s) l ∙ end_empty s)

-- a plan alone that is settled
pub told-settled-alone : (s : List ℕ) (r : PlanRead) → Ok r ≡ plan_read s (plan_alone s)
    → (k : ℕ) → verdict_told (verdict r.plan) ≡ Ok k → (a : Result Unit Refusal) → a ≡ Ok tt
    → RefusalReport (settled_alone s) (part_at s r.at a) (answer_number a) (answer_value a)
told-settled-alone s r d k v a e =
    subst (λ (m : Reading Plan). RefusalReport m (part_at s r.at a) (answer_number a) (answer_value a))
    (sym (verdict_after-settled s (plan_alone s) (plan_alone-tail s) r d k v))
    (told_none s a r.at r.plan (drop r.at s) r.line e)

-- a plan alone, as a reading of the text
module _ (s : List ℕ) where
  pub alone-lines : {f : FaultyLine} → Err f ≡ plan_read s (plan_alone s) → settled_alone s ≡ faulty_in s f
  alone-lines {f} d = verdict_after-refused s (plan_alone s) (plan_alone-tail s) f d

  module _ {r : PlanRead} (d : Ok r ≡ plan_read s (plan_alone s)) where
    pub alone-verdict : {x : Refusal} → verdict_told (verdict r.plan) ≡ Err x → settled_alone s ≡ faulty_in s (record { refusal = x; at = length s })
    alone-verdict {x} v = verdict_after-judged s (plan_alone s) (plan_alone-tail s) r d x v ∙ ap (refused x) (sym (end_empty s))

    pub alone-settled : {k : ℕ} → verdict_told (verdict r.plan) ≡ Ok k → Ok tt ≡ reported (settled_alone s)
    alone-settled {k} v = sym (ap reported (verdict_after-settled s (plan_alone s) (plan_alone-tail s) r d k v))
