-- What follows from `refused=4,K` where the dispatch program prints it: no step is answered by 4 (`stepped-not-four`), and no other line begins like a
-- refusal, so its text began with a plan whose verdict is 'no strategy', K (`dispatch-told`).
use Rattle.std.specs.Prelude.{ℕ, Bool, cond, ltb, ℤ, ◌+ℤ◌, get_or, Result, Ok, Err}
use Rattle.std.proofs.Math.Path.{◌≡◌, refl, sym}
use Rattle.std.proofs.Common.{ap, ◌∙◌}
use Rattle.std.proofs.Math.Bool.{true, false}
use mathlib.Core.List.{List, [], ◌∷◌, ◌++◌}
use native.Mathlib.Omega.{arith}
use Rattle.std.specs.Int.Signed.{lt_z}
use Rattle.text.specs.Bytes.{bytes}
use Rattle.text.specs.Numbers.{within}
use Rattle.clock.specs.declared.RunTime.{RunTime}
use Rattle.plan.specs.declared.Job.{Job}
use Rattle.plan.specs.declared.Plan.{Plan}
use Rattle.lines.specs.declared.Refusal.{Refusal}
use Rattle.lines.specs.declared.Refusal.TheVariants as refusal
use Rattle.lines.specs.Refusals.{number, refused_line, outside_limits}
use Rattle.lines.specs.Reading.{Reading, read, refused}
use Rattle.plan.specs.PlanLines.{plan_head}
use Rattle.rounds.specs.declared.Verdict.TheVariants.{NoStrategy}
use Rattle.rounds.specs.Rounds.{Outcome, settled, no_strategy, unsettled, outcome, verdict_of}
use Rattle.calendars.specs.declared.Calendar.{Calendar}
use Rattle.calendars.specs.Calendars.{calendar}
use Rattle.lines.specs.RefusalLaws.{refused_line-same, refused_line-one}
use Rattle.lines.specs.FormLaws.{ByForm, line-form}
use Rattle.plan.specs.PlanFormLaws.{plan_head-form}
use Rattle.calendars.specs.ToldLaws.{ToldNone}
use Rattle.runs.specs.declared.Phase.{Phase}
use Rattle.runs.specs.declared.Phase.TheVariants.{Waiting, Running}
use Rattle.runs.specs.declared.Run.{Run}
use Rattle.runs.specs.declared.Opening.{Opening}
use Rattle.runs.specs.declared.Choice.{Choice}
use Rattle.runs.specs.declared.Choice.TheVariants.{At, Auto}
use Rattle.runs.specs.declared.Step.{Step}
use Rattle.runs.specs.declared.Step.TheVariants.{Ask, Start, Finish}
use Rattle.runs.specs.declared.Answer.{Answer}
use Rattle.runs.specs.declared.Answer.TheVariants.{Offered, Started, Final, Refused}
use Rattle.runs.specs.ValueLimits.{is_time, job_of_phase}
use Rattle.runs.specs.Offers.{Turn, turn_of, offer_at, opening_of, opening_at}
use Rattle.runs.specs.Steps.{new_run, asked, started, finished, answer_at, stepped}
use Rattle.session.specs.StepRead.{step_in, step_line}
use Rattle.session.specs.AnswerText.{answer_line}
use Rattle.session.specs.Sessions.{answers, dispatched_within, judged_session, session_of, dispatch_output}
use Rattle.session.specs.SessionLaws.{answers-refused, answers-first}

-- ---- no step is answered by 4

abbrev NotFour : Answer → Type 0
NotFour (Offered o) = Unit {0}
NotFour (Started j i t) = Unit {0}
NotFour (Final j i t) = Unit {0}
NotFour (Refused x) = number x ≡ 4 → ⊥

abbrev ShutNotFour : Result Opening Refusal → Type 0
ShutNotFour (Ok at) = Unit {0}
ShutNotFour (Err x) = number x ≡ 4 → ⊥

module _ (d : Turn) (cs ds : List ℤ) (r : Run) where
  opening-or : (f : Phase) → ShutNotFour (opening_at d cs ds r f)
  unfolding opening_at
  opening-or (Waiting j i) = by (ltb d.last j) (lt_z (offer_at d cs ds r j i).to.0 (offer_at d cs ds r j i).from.0)
    where
      by : (b e : Bool) → ShutNotFour (cond b (Err refusal.Over) (cond e (Err refusal.EmptyOffer) (Ok (opening_of j i (offer_at d cs ds r j i)))))
      by true e = λ e. omega arith
      by false true = λ e. omega arith
      by false false = tt
  opening-or (Running j i t) = λ e. omega arith

asked-or : (x : Result Opening Refusal) → ShutNotFour x → NotFour (asked x)
unfolding asked
asked-or (Ok at) h = tt
asked-or (Err x) h = h

unless-refused : (b : Bool) (a : Answer) (x : Refusal) → NotFour a → (number x ≡ 4 → ⊥) → NotFour (cond b a (Refused x))
unless-refused true a x h g = h
unless-refused false a x h g = g

started-or : (choice : Choice) (x : Result Opening Refusal) → ShutNotFour x → NotFour (started choice x)
unfolding started
started-or (At t) (Ok at) h =
    unless-refused (within at.offer.from.0 at.offer.to.0 t.0) (Started at.window at.job t) refusal.OutsideOffer tt (λ e. omega arith)
started-or Auto (Ok at) h = unless-refused (is_time at.offer.from) (Started at.window at.job at.offer.from) outside_limits tt (λ e. omega arith)
started-or choice (Err x) h = h

finished-or : (job : Job) (t : RunTime) (f : Phase) → NotFour (finished job t f)
unfolding finished
finished-or job t (Waiting j i) = λ e. omega arith
finished-or job t (Running j i s) =
    unless-refused (within (s.0 +ℤ job.min) (s.0 +ℤ job.max) t.0) (Final j i t) refusal.OutsideTimes tt (λ e. omega arith)

answer-or : (d : Turn) (cs ds : List ℤ) (r : Run) (st : Step) → NotFour (answer_at d cs ds r st)
unfolding answer_at
answer-or d cs ds r Ask = asked-or (opening_at d cs ds r r.phase) (opening-or d cs ds r r.phase)
answer-or d cs ds r (Start choice) = started-or choice (opening_at d cs ds r r.phase) (opening-or d cs ds r r.phase)
answer-or d cs ds r (Finish t) = finished-or d.job t r.phase

stepped-not-four : (p : Plan) (c : Calendar) (r : Run) (st : Step) → NotFour (stepped p c r st).answer
stepped-not-four p c r st = answer-or (turn_of p c (job_of_phase r.phase)) c.at_least c.at_most r st

-- ---- nor printed so, whatever follows the answer

first-is : (s : List ℕ) (x : Refusal) → s ≡ refused_line x → get_or s 0 0 ≡ 114
unfolding refused_line bytes
first-is s x e = ap (λ (s : List ℕ). get_or s 0 0) e

line-not-four : (a : Answer) → NotFour a → (s : List ℕ) (K : ℕ) → answer_line a ++ s ≡ refused_line (refusal.NoStrategy K) → ⊥
unfolding answer_line bytes
line-not-four (Offered o) h s K e = let d : ◌≡◌ {A = ℕ} 111 114 = first-is _ (refusal.NoStrategy K) e in omega arith
line-not-four (Started j i t) h s K e = let d : ◌≡◌ {A = ℕ} 115 114 = first-is _ (refusal.NoStrategy K) e in omega arith
line-not-four (Final j i t) h s K e = let d : ◌≡◌ {A = ℕ} 102 114 = first-is _ (refusal.NoStrategy K) e in omega arith
line-not-four (Refused x) h s K e = h (refused_line-same x (refusal.NoStrategy K) s e).number

module _ (p : Plan) (c : Calendar) (K : ℕ) where
  answers-not-four : (r : Run) (s : List ℕ) (n : ℕ) → answers p c r s n ≡ refused_line (refusal.NoStrategy K) → ⊥
  unfolding dispatched_within step_line
  answers-not-four r [] n e = let d : ◌≡◌ {A = ℕ} 0 114 = first-is [] (refusal.NoStrategy K) e in omega arith
  answers-not-four r (b ∷ s) n e = by (step_line (b ∷ s) n) refl (line-form step_in (b ∷ s) n)
    where
      by : (m : Reading Step) → step_line (b ∷ s) n ≡ m → ByForm m → ⊥
      by (read st t k) d h =
          let first = answers-first p c r (b ∷ s) n (omega arith) st t k (stepped p c r st) d refl in
          line-not-four (stepped p c r st).answer (stepped-not-four p c r st) first.0 K (sym first.1 ∙ e)
      by (refused x part) d h =
          let f = sym (answers-refused p c r (b ∷ s) n (omega arith) x part d) ∙ e in
          omega (arith, (refused_line-one x (refusal.NoStrategy K) f).number)

session-told : (p : Plan) (o : Outcome) (s : List ℕ) (n K : ℕ) → judged_session p o s n ≡ refused_line (refusal.NoStrategy K) → verdict_of p o ≡ NoStrategy K
unfolding judged_session
session-told p (settled m c) s n K e = absurd (answers-not-four p (calendar p c) K new_run s n e)
session-told p (no_strategy k) s n K e =
    ap NoStrategy (refused_line-one (refusal.NoStrategy k) (refusal.NoStrategy K) e).value
session-told p unsettled s n K e = absurd (omega (arith, (refused_line-one (refusal.Unsettled p.rounds) (refusal.NoStrategy K) e).number))

pub dispatch-told : (s : List ℕ) (K : ℕ) → dispatch_output s ≡ refused_line (refusal.NoStrategy K) → ToldNone (plan_head s) K
unfolding session_of
dispatch-told s K e = by (plan_head s) refl (plan_head-form s) e
  where
    by : (m : Reading Plan) → plan_head s ≡ m → ByForm m → session_of m ≡ refused_line (refusal.NoStrategy K) → ToldNone (plan_head s) K
    by (read p t n) d h f = record { plan = p; rest = t; line = n; read = d; none = session-told p (outcome p) t n K f }
    by (refused x t) d h f = absurd (omega (arith, (refused_line-one x (refusal.NoStrategy K) f).number))
