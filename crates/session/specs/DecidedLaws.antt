-- What a session prints by its plan's verdict: the answers to its steps from a run at its beginning (`judged-settled`), or the plan's one line
-- (`judged-refused`). A settled plan, its calendar and a run at its beginning are inside their limits (`judged-inside`). What is decided of an accepted plan
-- makes it a judged one (`judged-decided`).

use Rattle.std.specs.Prelude.{ℕ, ◌≡◌, refl, List, Result, Ok, Err}
use Rattle.std.proofs.Common.{sym, ◌∙◌}
use Rattle.std.proofs.Math.Path.{ap}
use Rattle.whole.specs.Clash.{clash}
use Rattle.plan.specs.declared.Plan.{Plan}
use Rattle.lines.specs.declared.Refusal.{Refusal}
use Rattle.lines.specs.Refusals.{refused_line}
use Rattle.plan.specs.Accepted.{Accepted}
use Rattle.rounds.specs.declared.Verdict.{Verdict}
use Rattle.rounds.specs.declared.Verdict.TheVariants.{Settled}
use Rattle.calendars.specs.declared.Calendar.{Calendar}
use Rattle.rounds.specs.Rounds.{Outcome, settled, no_strategy, unsettled, outcome, verdict_of, verdict, verdict_told}
use Rattle.calendars.specs.Calendars.{made_calendar}
use Rattle.rounds.specs.TextVerdictLaws.{told-settled}
use Rattle.runs.specs.Steps.{new_run}
use Rattle.runs.specs.ValueLimits.{is_calendar}
use Rattle.runs.specs.KeepsLaws.{new_run-is}
use Rattle.runs.specs.MadeLaws.{made_inside}
use Rattle.runs.specs.Inside.{Inside}
use Rattle.session.specs.Sessions.{answers, verdict_session, judged_session}
use Rattle.session.specs.Decided.{PlanDecided}

-- ---- a plan that was decided

pub judged-decided : (p : Plan) → Accepted p → (v : Verdict) (c : Calendar) → v ≡ verdict p → c ≡ made_calendar p (outcome p) → PlanDecided p v c
judged-decided p a v c e d =
    record { accepted = a; verdict = e; calendar = d; inside = λ m t o. ap (is_calendar p) (d ∙ ap (made_calendar p) o) ∙ made_inside p a m t o }

-- ---- what a judged session prints

module _ (p : Plan) (v : Verdict) (c : Calendar) (j : PlanDecided p v c) where
  pub judged-inside : (w : Result ℕ Refusal) → w ≡ verdict_told v → (m : ℕ) → w ≡ Ok m → Inside p c new_run
  judged-inside w d m e = of (outcome p) refl (sym (told-settled v m (sym d ∙ e)) ∙ j.verdict)
    where
      of : (o : Outcome) → outcome p ≡ o → Settled m ≡ verdict_of p o → Inside p c new_run
      of (settled k t) d f = record { plan = j.accepted; calendar = j.inside k t d; run = new_run-is p j.accepted }
      of (no_strategy K) d f = clash (cc)
      of unsettled d f = clash (cc)

  -- by its verdict: settled, or refused
  module _ (s : List ℕ) (n : ℕ) (w : Result ℕ Refusal) (d : w ≡ verdict_told v) where
    judged-told : verdict_session p w c s n ≡ judged_session p (outcome p) s n
    unfolding judged_session
    judged-told =
        ap (λ (w : Result ℕ Refusal). verdict_session p w c s n) (d ∙ ap verdict_told j.verdict)
        ∙ ap (λ (c : Calendar). verdict_session p (verdict_told (verdict p)) c s n) j.calendar

    pub judged-settled : (m : ℕ) → w ≡ Ok m → answers p c new_run s n ≡ judged_session p (outcome p) s n
    judged-settled m e = sym (ap (λ (w : Result ℕ Refusal). verdict_session p w c s n) e) ∙ judged-told

    pub judged-refused : (x : Refusal) → w ≡ Err x → refused_line x ≡ judged_session p (outcome p) s n
    judged-refused x e = sym (ap (λ (w : Result ℕ Refusal). verdict_session p w c s n) e) ∙ judged-told
