-- The laws of what is decided. A plan whose verdict is settled has a settled set (`verdict-settled`, `round-settled`), and the calendar made from the joined table is
-- the plan's (`calendar-joined`, `made-settled`), so that both are what is decided (`decided-settled`); beside any other verdict the calendar says nothing
-- (`made-refused`, `made-unsettled`), and the verdict's refusal is what is decided (`decided-refused`). And back: what is decided tells the verdict, and the
-- calendar of a settled plan (`decision-settled`, `decision-refused`). The text of a decision, one case for each way to state its verdict (`text-settled`,
-- `text-refused`), is what the program prints for the plan (`text-of-outcome`, `text-of-decision`), and so for a text that was read (`plan-accepted`) or
-- refused (`plan-refused`).

use Rattle.std.specs.Prelude.{ℕ, ◌≡◌, refl, List, Result, Ok, Err}
use Rattle.std.proofs.Math.Path.{sym}
use Rattle.std.proofs.Common.{ap, ◌∙◌}
use Rattle.whole.specs.Clash.{clash}
use Rattle.plan.specs.declared.Plan.{Plan}
use Rattle.plan.specs.declared.PlanRead.{PlanRead}
use Rattle.lines.specs.declared.FaultyLine.{FaultyLine}
use Rattle.lines.specs.declared.Refusal.{Refusal}
use Rattle.lines.specs.Refusals.{refused_line}
use Rattle.plan.specs.PlanLines.{plan_alone}
use Rattle.plan.specs.PlanAnswers.{plan_read}
use Rattle.plan.specs.PlanLaws.{plan_alone-accepted}
use Rattle.plan.specs.PlanPartLaws.{plan_alone-tail}
use Rattle.plan.specs.HeadLaws.{plan_read-took, plan_read-fault}
use Rattle.plan.specs.Accepted.{Accepted}
use Rattle.bounds.specs.Tables.{Rows, Set, bounds}
use Rattle.bounds.specs.Elimination.{then_set}
use Rattle.rounds.specs.declared.Verdict.{Verdict}
use Rattle.rounds.specs.declared.Verdict.TheVariants.{Settled, NoStrategy, Unsettled}
use Rattle.rounds.specs.Rounds.{C0, joined, Outcome, settled, no_strategy, unsettled, outcome, verdict_of, verdict, verdict_told}
use Rattle.calendars.specs.declared.Calendar.{Calendar}
use Rattle.calendars.specs.declared.Decision.{Decision}
use Rattle.calendars.specs.Calendars.{then_tables, before_starts, calendar_of, calendar, no_calendar, made_calendar, with_calendar, decision}
use Rattle.calendars.specs.CalendarText.{calendar_text, decision_text, outcome_text, answered, calendar_output}

-- ---- by the verdict

pub record SettledIn (p : Plan) (m : ℕ) : Type 0 where
  pub set : Rows
  pub is : outcome p ≡ settled m set

pub round-settled : (p : Plan) (m : ℕ) → Ok m ≡ verdict_told (verdict p) → SettledIn p m
round-settled p m e = of (outcome p) refl e
  where
    of : (o : Outcome) → outcome p ≡ o → Ok m ≡ verdict_told (verdict_of p o) → SettledIn p m
    of (settled k t) h f = let g : m ≡ k = cc in record { set = t; is = h ∙ ap (λ (n : ℕ). settled n t) (sym g) }
    of (no_strategy K) h f = clash (cc)
    of unsettled h f = clash (cc)

calendar-joined : (p : Plan) (t u : Rows) → then_set (C0 p) (λ c0. joined p c0 t) ≡ bounds u → calendar_of p (before_starts p p.jobs u) ≡ calendar p t
unfolding calendar then_tables
calendar-joined p t u e = sym (ap (λ (s : Set). calendar_of p (then_tables s (before_starts p p.jobs))) e)

pub made-settled : (p : Plan) (m : ℕ) (t u : Rows) → outcome p ≡ settled m t → then_set (C0 p) (λ c0. joined p c0 t) ≡ bounds u
    → calendar_of p (before_starts p p.jobs u) ≡ made_calendar p (outcome p)
made-settled p m t u o e = calendar-joined p t u e ∙ sym (ap (made_calendar p) o)

module _ (p : Plan) (v : Verdict) (e : v ≡ verdict p) where
  pub verdict-settled : (m : ℕ) → v ≡ Settled m → SettledIn p m
  verdict-settled m d = of (outcome p) refl (sym d ∙ e)
    where
      of : (o : Outcome) → outcome p ≡ o → Settled m ≡ verdict_of p o → SettledIn p m
      of (settled k t) h f = let g : m ≡ k = cc in record { set = t; is = h ∙ ap (λ (n : ℕ). settled n t) (sym g) }
      of (no_strategy K) h f = clash (cc)
      of unsettled h f = clash (cc)

  pub made-refused : (K : ℕ) → v ≡ NoStrategy K → no_calendar p ≡ made_calendar p (outcome p)
  made-refused K d = of (outcome p) (sym d ∙ e)
    where
      of : (o : Outcome) → NoStrategy K ≡ verdict_of p o → no_calendar p ≡ made_calendar p o
      of (settled k t) f = clash (cc)
      of (no_strategy k) f = refl
      of unsettled f = refl

  pub made-unsettled : (rounds : ℕ) → v ≡ Unsettled rounds → no_calendar p ≡ made_calendar p (outcome p)
  made-unsettled rounds d = of (outcome p) (sym d ∙ e)
    where
      of : (o : Outcome) → Unsettled rounds ≡ verdict_of p o → no_calendar p ≡ made_calendar p o
      of (settled k t) f = clash (cc)
      of (no_strategy k) f = refl
      of unsettled f = refl

pub decided-settled : (p : Plan) (m : ℕ) (t u : Rows) (c : Calendar) → outcome p ≡ settled m t → then_set (C0 p) (λ c0. joined p c0 t) ≡ bounds u
    → c ≡ calendar_of p (before_starts p p.jobs u)
    → Ok (record { round = m; calendar = c }) ≡ decision p (outcome p)
decided-settled p m t u c o e is =
    ap (λ (c : Calendar). Ok (record { round = m; calendar = c })) (is ∙ calendar-joined p t u e)
    ∙ sym (ap (decision p) o)

pub decided-refused : (p : Plan) {x : Refusal} → Err x ≡ verdict_told (verdict p) → Err x ≡ decision p (outcome p)
decided-refused p e = ap (λ (r : Result ℕ Refusal). with_calendar r (made_calendar p (outcome p))) e

-- ---- and back

pub decision-settled : (p : Plan) {d : Decision} → Ok d ≡ decision p (outcome p) → (verdict_told (verdict p) ≡ Ok d.round) × (d.calendar ≡ made_calendar p (outcome p))
decision-settled p {d} e = of (verdict_told (verdict p)) (made_calendar p (outcome p)) e
  where
    of : (r : Result ℕ Refusal) (c : Calendar) → Ok d ≡ with_calendar r c → (r ≡ Ok d.round) × (d.calendar ≡ c)
    of (Ok m) c f = let same : d ≡ record { round = m; calendar = c } = cc in (sym (ap (λ (d : Decision). Ok d.round) same), ap (λ (d : Decision). d.calendar) same)
    of (Err x) c f = clash (cc)

pub decision-refused : (p : Plan) {x : Refusal} → Err x ≡ decision p (outcome p) → verdict_told (verdict p) ≡ Err x
decision-refused p {x} e = of (verdict_told (verdict p)) (made_calendar p (outcome p)) e
  where
    of : (r : Result ℕ Refusal) (c : Calendar) → Err x ≡ with_calendar r c → r ≡ Err x
    of (Ok m) c f = clash (cc)
    of (Err y) c f = let same : y ≡ x = cc in ap Err same

-- ---- the text of a decision

module _ (jobs : ℕ) (v : Verdict) (c : Calendar) (w : Result ℕ Refusal) (d : w ≡ verdict_told v) where
  pub text-settled : (m : ℕ) → w ≡ Ok m → calendar_text jobs m c ≡ decision_text jobs (with_calendar (verdict_told v) c)
  text-settled m e = ap (λ (w : Result ℕ Refusal). decision_text jobs (with_calendar w c)) (sym e ∙ d)

  pub text-refused : (x : Refusal) → w ≡ Err x → refused_line x ≡ decision_text jobs (with_calendar (verdict_told v) c)
  text-refused x e = ap (λ (w : Result ℕ Refusal). decision_text jobs (with_calendar w c)) (sym e ∙ d)

pub text-of-outcome : (p : Plan) (v : Verdict) (c : Calendar) → v ≡ verdict p → c ≡ made_calendar p (outcome p)
    → decision_text p.jobs (with_calendar (verdict_told v) c) ≡ outcome_text p (outcome p)
unfolding outcome_text
text-of-outcome p v c e d =
    ap (λ (v : Verdict). decision_text p.jobs (with_calendar (verdict_told v) c)) e
    ∙ ap (λ (c : Calendar). decision_text p.jobs (with_calendar (verdict_told (verdict p)) c)) d

pub text-of-decision : (p : Plan) {d : Result Decision Refusal} → d ≡ decision p (outcome p) → decision_text p.jobs d ≡ outcome_text p (outcome p)
unfolding outcome_text
text-of-decision p e = ap (decision_text p.jobs) e

-- ---- a text that was read, or refused

pub record PlanTold (s : List ℕ) (r : PlanRead) : Type 0 where
  pub output : outcome_text r.plan (outcome r.plan) ≡ calendar_output s
  pub accepted : Accepted r.plan

module _ (s : List ℕ) where
  pub plan-accepted : {r : PlanRead} → Ok r ≡ plan_read s (plan_alone s) → PlanTold s r
  unfolding answered
  plan-accepted d =
      let e = plan_read-took s {m = plan_alone s} (plan_alone-tail s) d in
      record { output = sym (ap answered e); accepted = plan_alone-accepted s e }

  pub plan-refused : {f : FaultyLine} → Err f ≡ plan_read s (plan_alone s) → refused_line f.refusal ≡ calendar_output s
  unfolding answered
  plan-refused d = sym (ap answered (plan_read-fault s {m = plan_alone s} (plan_alone-tail s) d))
