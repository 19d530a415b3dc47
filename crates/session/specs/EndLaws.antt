-- Which answers go on: an opening is shut by a refusal that goes on (`opening-goes-on`), so no step ends a session but an auto start outside the range of T;
-- where that is answered while the run waits and lasts, none does (`answer-goes`).
use Rattle.std.specs.Prelude.{ℕ, ◌≤◌, ◌≡◌, Bool, cond, List, ltb, ℤ, ◌+ℤ◌, Result, Ok, Err}
use Rattle.std.proofs.Math.Path.{refl}
use Rattle.std.proofs.Math.Bool.{true, false}
use Rattle.std.specs.Int.Signed.{lt_z}
use Rattle.std.proofs.Common.{ltb-true, ltb-false}
use Rattle.text.specs.Numbers.{within}
use Rattle.lines.specs.declared.Refusal.{Refusal}
use Rattle.lines.specs.declared.Refusal.TheVariants as refusal
use Rattle.lines.specs.Refusals.{ends}
use Rattle.clock.specs.declared.RunTime.{RunTime}
use Rattle.plan.specs.declared.Job.{Job}
use Rattle.plan.specs.declared.Plan.{Plan}
use Rattle.calendars.specs.declared.Calendar.{Calendar}
use Rattle.runs.specs.declared.Phase.{Phase}
use Rattle.runs.specs.declared.Phase.TheVariants.{Waiting, Running}
use Rattle.runs.specs.declared.Run.{Run}
use Rattle.runs.specs.declared.Offer.{Offer}
use Rattle.runs.specs.declared.Opening.{Opening}
use Rattle.runs.specs.declared.Choice.TheVariants.{At, Auto}
use Rattle.runs.specs.declared.Step.{Step}
use Rattle.runs.specs.declared.Step.TheVariants.{Ask, Start, Finish}
use Rattle.runs.specs.declared.Answer.TheVariants.{Started, Final, Refused}
use Rattle.runs.specs.ValueLimits.{job_of_phase}
use Rattle.runs.specs.Offers.{Turn, turn_of, offer_at, opening_of, opened, opening_at}
use Rattle.runs.specs.Steps.{asked, started, finished, answer_at, answer_of}
use Rattle.runs.specs.StepLaws.{opening-over, opening-running}
use Rattle.session.specs.AnswerText.{ends_session}

-- an opening that is shut, if it is, by a refusal that goes on
abbrev ShutGoesOn : Result Opening Refusal → Type 0
ShutGoesOn (Ok at) = Unit
ShutGoesOn (Err x) = ends x ≡ false

opened-goes-on : (j i : ℕ) (o : Offer) → ShutGoesOn (opened j i o)
opened-goes-on j i o = of (lt_z o.to.0 o.from.0)
  where
    of : (b : Bool) → ShutGoesOn (cond b (Err refusal.EmptyOffer) (Ok (opening_of j i o)))
    of true = refl
    of false = tt

module _ (d : Turn) (cs ds : List ℤ) (r : Run) where
  opening-goes-on : (f : Phase) → ShutGoesOn (opening_at d cs ds r f)
  unfolding opening_at
  opening-goes-on (Waiting j i) = of (ltb d.last j)
    where
      of : (b : Bool) → ShutGoesOn (cond b (Err refusal.Over) (opened j i (offer_at d cs ds r j i)))
      of true = refl
      of false = opened-goes-on j i (offer_at d cs ds r j i)
  opening-goes-on (Running j i t) = refl

asked-goes : (o : Result Opening Refusal) → ShutGoesOn o → ends_session (asked o) ≡ false
unfolding asked ends_session
asked-goes (Ok at) q = refl
asked-goes (Err x) q = q

started-goes : (t : RunTime) (o : Result Opening Refusal) → ShutGoesOn o → ends_session (started (At t) o) ≡ false
unfolding started ends_session
started-goes t (Ok at) q = of (within at.offer.from.0 at.offer.to.0 t.0)
  where
    of : (b : Bool) → ends_session (cond b (Started at.window at.job t) (Refused refusal.OutsideOffer)) ≡ false
    of true = refl
    of false = refl
started-goes t (Err x) q = q

finished-goes : (job : Job) (t : RunTime) (f : Phase) → ends_session (finished job t f) ≡ false
unfolding finished ends_session
finished-goes job t (Waiting j i) = refl
finished-goes job t (Running j i s) = of (within (s.0 +ℤ job.min) (s.0 +ℤ job.max) t.0)
  where
    of : (b : Bool) → ends_session (cond b (Final j i t) (Refused refusal.OutsideTimes)) ≡ false
    of true = refl
    of false = refl

-- an auto start goes on wherever the run is over or running; so it is enough to know the rest
module _ (p : Plan) (c : Calendar) (r : Run)
    (auto : (j i : ℕ) → r.phase ≡ Waiting j i → j ≤ p.last → ends_session (answer_of p c r (Start Auto)) ≡ false) where
  shut-goes : {x : Result Opening Refusal} → opening_at (turn_of p c (job_of_phase r.phase)) c.at_least c.at_most r r.phase ≡ x
      → ends_session (started Auto x) ≡ false
      → ends_session (answer_of p c r (Start Auto)) ≡ false
  unfolding answer_at
  shut-goes {x} e h = rw e h

  over-or-lasts : (j i : ℕ) → r.phase ≡ Waiting j i → (b : Bool) → ltb p.last j ≡ b → ends_session (answer_of p c r (Start Auto)) ≡ false
  unfolding started ends_session
  over-or-lasts j i e true d = shut-goes (opening-over _ _ _ r r.phase j i e (ltb-true p.last j d)) refl
  over-or-lasts j i e false d = auto j i e (ltb-false p.last j d)

  auto-goes : (f : Phase) → r.phase ≡ f → ends_session (answer_of p c r (Start Auto)) ≡ false
  unfolding started ends_session
  auto-goes (Waiting j i) e = over-or-lasts j i e (ltb p.last j) refl
  auto-goes (Running j i t) e = shut-goes (opening-running _ _ _ r r.phase j i t e) refl

  pub answer-goes : (st : Step) → ends_session (answer_of p c r st) ≡ false
  unfolding answer_at
  answer-goes Ask = asked-goes (opening_at _ _ _ r r.phase) (opening-goes-on _ _ _ r r.phase)
  answer-goes (Start (At t)) = started-goes t (opening_at _ _ _ r r.phase) (opening-goes-on _ _ _ r r.phase)
  answer-goes (Start Auto) = auto-goes r.phase refl
  answer-goes (Finish t) = finished-goes _ t r.phase
