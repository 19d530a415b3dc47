-- The places beyond a plan's jobs and bounds have no part in its calendar: two plans that differ in such places alone have the same tables before each start
-- (`before_starts-agrees`), the same calendar of a settled set (`calendar-agrees`) and the same text of an outcome (`outcome_text-agrees`). So an accepted plan
-- and the same plan with zeros in these places have one calendar and one text (`calendar-trimmed`, `text-trimmed`). That they have one outcome says
-- `TrimmedLaws` of `rounds`.
use Prim.Native.Nat.{ℕ, zero, suc, ◌+◌, ◌≤◌, ◌<◌}
use Rattle.std.specs.Prelude.{◌≡◌, ℤ, pos}
use Rattle.std.proofs.Math.Path.{refl, ap}
use Rattle.std.proofs.Common.{ap₂, ◌∙◌}
use mathlib.Core.List.{List, [], ◌∷◌, ◌++◌}
use native.Mathlib.Omega.{arith}
use Rattle.plan.specs.declared.Job.{Job}
use Rattle.plan.specs.declared.Bound.{Bound}
use Rattle.plan.specs.declared.Plan.{Plan}
use Rattle.plan.specs.PlanLines.{filled}
use Rattle.plan.specs.PlanWritten.{trimmed}
use Rattle.plan.specs.Accepted.{Accepted}
use Rattle.bounds.specs.Tables.{Rows, Set, contradiction, bounds}
use Rattle.rounds.specs.Rounds.{Outcome, settled, no_strategy, unsettled, outcome}
use Rattle.rounds.specs.TrimmedLaws.{
  with_places,
  SamePlaces,
  then_set-same,
  without_finish-agrees,
  without_start-agrees,
  C0-agrees,
  joined-agrees,
  trimmed-agrees,
  outcome-trimmed,
}
use Rattle.calendars.specs.declared.Terms.{Terms}
use Rattle.events.specs.Bits.{most_events}
use Rattle.calendars.specs.Calendars.{then_tables, before_starts, terms_of, least_cs, most_cs, all_terms, all_cs, calendar_of, calendar}
use Rattle.calendars.specs.CalendarText.{calendar_text, outcome_text}

then_tables-same : {s u : Set} {f g : Rows → List Rows} → s ≡ u → ((t : Rows) → f t ≡ g t) → then_tables s f ≡ then_tables u g
unfolding then_tables
then_tables-same {s} {u} {f} {g} e h = ap (λ (x : Set). then_tables x f) e ∙ of u
  where
    of : (x : Set) → then_tables x f ≡ then_tables x g
    of contradiction = refl
    of (bounds t) = h t

all_cs-same : (f g : ℕ → Rows → List ℤ) → ((i : ℕ) (t : Rows) → f i t ≡ g i t) → (i : ℕ) (ts : List Rows) → all_cs f i ts ≡ all_cs g i ts
unfolding all_cs
all_cs-same f g h i [] = refl
all_cs-same f g h i (t ∷ ts) = ap₂ (λ (cs ds : List ℤ). filled most_events (pos 0) cs ++ ds) (h i t) (all_cs-same f g h (suc i) ts)

module _ (p : Plan) (job : List Job) (bound : List Bound) (same : SamePlaces p job bound) where
  abbrev q : Plan
  q = with_places p job bound

  before_starts-agrees : (count : ℕ) (t : Rows) → count ≤ p.jobs → before_starts q count t ≡ before_starts p count t
  unfolding before_starts
  before_starts-agrees zero t h = refl
  before_starts-agrees (suc count) t h =
      let l : p.jobs + count < p.jobs + p.jobs = omega arith in
      then_tables-same (without_finish-agrees p job bound same (p.jobs + count) t l)
      (λ u. ap (λ (ts : List Rows). ts ++ (u ∷ []))
      (then_tables-same (without_start-agrees p job bound same (p.jobs + count) u l) (λ v. before_starts-agrees count v (omega arith))))

  all_terms-agrees : (i : ℕ) (ts : List Rows) → all_terms q i ts ≡ all_terms p i ts
  unfolding all_terms terms_of
  all_terms-agrees i [] = refl
  all_terms-agrees i (t ∷ ts) = ap (λ (us : List Terms). terms_of p i t ∷ us) (all_terms-agrees (suc i) ts)

  least-agrees : (i : ℕ) (t : Rows) → least_cs q i t ≡ least_cs p i t
  unfolding least_cs
  least-agrees i t = refl

  most-agrees : (i : ℕ) (t : Rows) → most_cs q i t ≡ most_cs p i t
  unfolding most_cs
  most-agrees i t = refl

  calendar_of-agrees : (ts : List Rows) → calendar_of q ts ≡ calendar_of p ts
  unfolding calendar_of
  calendar_of-agrees ts =
      rw (all_terms-agrees 0 ts, all_cs-same (least_cs q) (least_cs p) least-agrees 0 ts, all_cs-same (most_cs q) (most_cs p) most-agrees 0 ts)

  calendar-agrees : (t : Rows) → calendar q t ≡ calendar p t
  unfolding calendar
  calendar-agrees t =
      calendar_of-agrees _
      ∙ ap (calendar_of p)
      (then_tables-same (then_set-same (C0-agrees p job bound same) (λ c0. joined-agrees p job bound same c0 t))
      (λ u. before_starts-agrees p.jobs u (omega arith)))

  outcome_text-agrees : (o : Outcome) → outcome_text q o ≡ outcome_text p o
  unfolding outcome_text
  outcome_text-agrees (settled m t) = ap (calendar_text p.jobs m) (calendar-agrees t)
  outcome_text-agrees (no_strategy K) = refl
  outcome_text-agrees unsettled = refl

-- ---- zeros in the places beyond

module _ (p : Plan) (a : Accepted p) where
  pub calendar-trimmed : (t : Rows) → calendar (trimmed p) t ≡ calendar p t
  unfolding trimmed
  calendar-trimmed = calendar-agrees p _ _ (trimmed-agrees p a)

  pub text-trimmed : outcome_text (trimmed p) (outcome (trimmed p)) ≡ outcome_text p (outcome p)
  unfolding trimmed
  text-trimmed = outcome_text-agrees p _ _ (trimmed-agrees p a) (outcome (trimmed p)) ∙ ap (outcome_text p) (outcome-trimmed p a)
