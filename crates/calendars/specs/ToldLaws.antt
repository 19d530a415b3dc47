-- What follows from the calendar program's output. Where it prints `refused=4,K`, its text was read as a plan whose verdict is 'no strategy', K
-- (`calendar-told`); and where what it prints begins with `settled=`, as a plan that is settled (`calendar-settled`).
use Rattle.std.specs.Prelude.{ℕ, ◌≡◌, refl, List, ◌++◌, pos, get_or}
use Rattle.std.proofs.Common.{ap, arith}
use Rattle.text.specs.Bytes.{bytes}
use Rattle.plan.specs.declared.Plan.{Plan}
use Rattle.lines.specs.declared.Refusal.{Refusal}
use Rattle.lines.specs.declared.Refusal.TheVariants as refusal
use Rattle.lines.specs.Reading.{Reading, read, refused, line}
use Rattle.lines.specs.Refusals.{refused_line}
use Rattle.lines.specs.Reading as reading
use Rattle.plan.specs.PlanLines.{plan_alone}
use Rattle.lines.specs.Keyed.{keyed}
use Rattle.rounds.specs.declared.Verdict.TheVariants.{Settled, NoStrategy}
use Rattle.rounds.specs.Rounds.{Outcome, settled, no_strategy, unsettled, outcome, verdict_of, verdict}
use Rattle.calendars.specs.Calendars.{calendar}
use Rattle.calendars.specs.CalendarText.{job_texts, calendar_text, outcome_text, answered, calendar_output}
use Rattle.lines.specs.RefusalLaws.{refused_line-one}
use Rattle.lines.specs.FormLaws.{ByForm}
use Rattle.plan.specs.PlanFormLaws.{plan_alone-form}

-- the plan that a text was read as, of verdict 'no strategy', K
pub record ToldNone (m : Reading Plan) (K : ℕ) : Type 0 where
  pub plan : Plan
  pub rest : List ℕ
  pub line : ℕ
  pub read : m ≡ reading.read plan rest line
  pub none : verdict plan ≡ NoStrategy K

-- a calendar begins with another letter
settled-not-refused : (m : ℕ) (t : List ℕ) (x : Refusal) → keyed (bytes "settled=") (pos m) t ≡ refused_line x → ⊥
unfolding refused_line bytes
settled-not-refused m t x e = let d : ◌≡◌ {A = ℕ} 115 114 = ap (λ (s : List ℕ). get_or s 0 0) e in omega arith

outcome-told : (p : Plan) (o : Outcome) (K : ℕ) → outcome_text p o ≡ refused_line (refusal.NoStrategy K) → verdict_of p o ≡ NoStrategy K
unfolding outcome_text calendar_text
outcome-told p (settled m c) K e = absurd (settled-not-refused m (job_texts p.jobs (calendar p c) 0 p.jobs) (refusal.NoStrategy K) e)
outcome-told p (no_strategy k) K e =
    ap NoStrategy (refused_line-one (refusal.NoStrategy k) (refusal.NoStrategy K) e).value
outcome-told p unsettled K e = absurd (omega (arith, (refused_line-one (refusal.Unsettled p.rounds) (refusal.NoStrategy K) e).number))

pub calendar-told : (s : List ℕ) (K : ℕ) → calendar_output s ≡ refused_line (refusal.NoStrategy K) → ToldNone (plan_alone s) K
unfolding answered
calendar-told s K e = by (plan_alone s) refl (plan_alone-form s) e
  where
    by : (m : Reading Plan) → plan_alone s ≡ m → ByForm m → answered m ≡ refused_line (refusal.NoStrategy K) → ToldNone (plan_alone s) K
    by (read p t n) d h f = record { plan = p; rest = t; line = n; read = d; none = outcome-told p (outcome p) K f }
    by (refused x t) d h f = absurd (omega (arith, (refused_line-one x (refusal.NoStrategy K) f).number))

-- the plan that a text was read as, settled in some round
pub record ToldSettled (m : Reading Plan) : Type 0 where
  pub plan : Plan
  pub rest : List ℕ
  pub line : ℕ
  pub read : m ≡ reading.read plan rest line
  pub round : ℕ
  pub settled : verdict plan ≡ Settled round

refused-not-settled : (x : Refusal) (t : List ℕ) → refused_line x ≡ bytes "settled=" ++ t → ⊥
unfolding refused_line bytes
refused-not-settled x t e = let d : ◌≡◌ {A = ℕ} 114 115 = ap (λ (s : List ℕ). get_or s 0 0) e in omega arith

pub calendar-settled : (s t : List ℕ) → calendar_output s ≡ bytes "settled=" ++ t → ToldSettled (plan_alone s)
unfolding answered outcome_text
calendar-settled s t e = by (plan_alone s) refl e
  where
    by-outcome : (p : Plan) (u : List ℕ) (n : ℕ) → plan_alone s ≡ read p u n → (o : Outcome) → outcome p ≡ o
        → outcome_text p o ≡ bytes "settled=" ++ t → ToldSettled (plan_alone s)
    by-outcome p u n d (settled m c) a f = record { plan = p; rest = u; line = n; read = d; round = m; settled = ap (verdict_of p) a }
    by-outcome p u n d (no_strategy K) a f = absurd (refused-not-settled (refusal.NoStrategy K) t f)
    by-outcome p u n d unsettled a f = absurd (refused-not-settled (refusal.Unsettled p.rounds) t f)

    by : (m : Reading Plan) → plan_alone s ≡ m → answered m ≡ bytes "settled=" ++ t → ToldSettled (plan_alone s)
    by (read p u n) d f = by-outcome p u n d (outcome p) refl f
    by (refused x u) d f = absurd (refused-not-settled x t f)
