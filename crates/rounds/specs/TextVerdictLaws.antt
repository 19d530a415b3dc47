-- A verdict that is stated as settled is settled (`told-settled`). By what the reader of a plan answered, the text judged to its end is refused where the
-- reader refused it (`verdict_after-refused`), or read (`verdict_after-settled`), or refused by its verdict, with nothing left of the text
-- (`verdict_after-judged`).
use Rattle.std.specs.Prelude.{ℕ, ◌≡◌, List, [], drop, Result, Ok, Err}
use Rattle.std.proofs.Math.Path.{ap}
use Rattle.std.proofs.Common.{◌∙◌}
use Rattle.whole.specs.Clash.{clash}
use Rattle.plan.specs.declared.Plan.{Plan}
use Rattle.plan.specs.declared.PlanRead.{PlanRead}
use Rattle.lines.specs.declared.FaultyLine.{FaultyLine}
use Rattle.lines.specs.declared.Refusal.{Refusal}
use Rattle.lines.specs.Reading.{Reading, read, refused}
use Rattle.lines.specs.ReadAt.{faulty_in}
use Rattle.plan.specs.PlanAnswers.{plan_read}
use Rattle.lines.specs.PartLaws.{Tail, leaves}
use Rattle.plan.specs.HeadLaws.{plan_read-took, plan_read-fault}
use Rattle.rounds.specs.declared.Verdict.{Verdict}
use Rattle.rounds.specs.declared.Verdict.TheVariants as decided
use Rattle.rounds.specs.Rounds.{verdict, verdict_told}
use Rattle.rounds.specs.TextVerdict.{or_refused, verdict_after}

pub told-settled : (v : Verdict) (m : ℕ) → verdict_told v ≡ Ok m → v ≡ decided.Settled m
told-settled (decided.Settled k) m e = let g : k ≡ m = cc in ap decided.Settled g
told-settled (decided.NoStrategy K) m e = clash (cc)
told-settled (decided.Unsettled rounds) m e = clash (cc)

-- ---- what the reader of a plan answered, and the verdict after it

module _ (s : List ℕ) (m : Reading Plan) (tail : Tail s (leaves m)) where
  pub verdict_after-refused : (f : FaultyLine) → Err f ≡ plan_read s m → verdict_after m ≡ faulty_in s f
  unfolding verdict_after
  verdict_after-refused f d = ap verdict_after (plan_read-fault s {m = m} tail d)

  module _ (r : PlanRead) (d : Ok r ≡ plan_read s m) where
    told-as : (w : Result ℕ Refusal) → verdict_told (verdict r.plan) ≡ w → verdict_after m ≡ or_refused w (read r.plan (drop r.at s) r.line)
    unfolding verdict_after
    told-as w e =
        ap verdict_after (plan_read-took s {m = m} tail d)
        ∙ ap (λ (w : Result ℕ Refusal). or_refused w (read r.plan (drop r.at s) r.line)) e

    pub verdict_after-settled : (k : ℕ) → verdict_told (verdict r.plan) ≡ Ok k → verdict_after m ≡ read r.plan (drop r.at s) r.line
    unfolding or_refused
    verdict_after-settled k e = told-as (Ok k) e

    pub verdict_after-judged : (x : Refusal) → verdict_told (verdict r.plan) ≡ Err x → verdict_after m ≡ refused x []
    unfolding or_refused
    verdict_after-judged x e = told-as (Err x) e
