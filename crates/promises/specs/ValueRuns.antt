-- Runs that are made on values: by `new_run`, and by `ask`, `start_at`, `start_auto` and `finish_at` of it, with an accepted plan and its own calendar.
-- Whatever the steps are, such a run is inside its limits and is one of which the theorems on offers speak (`values-from-new`): a step inside its limits
-- is a step of the run, and any other is refused and leaves the run.
use Rattle.std.specs.Prelude.{ℕ, ◌≡◌, Bool, true, false}
use Rattle.std.proofs.Math.Path.{refl}
use Rattle.std.proofs.Common.{sym, subst}
use mathlib.Core.List.{List, [], ◌∷◌}
use Rattle.plan.specs.declared.Plan.{Plan}
use Rattle.plan.specs.Accepted.{Accepted}
use Rattle.bounds.specs.Tables.{Rows}
use Rattle.rounds.specs.Rounds.{settled, outcome}
use Rattle.calendars.specs.declared.Calendar.{Calendar}
use Rattle.calendars.specs.Calendars.{calendar}
use Rattle.runs.specs.declared.Run.{Run}
use Rattle.runs.specs.declared.Step.{Step}
use Rattle.runs.specs.declared.Answered.{Answered}
use Rattle.runs.specs.Steps.{new_run, is_step, step, after_values}
use Rattle.runs.specs.Inside.{Inside}
use Rattle.runs.specs.ValueStepLaws.{step-inside, step-outside}
use Rattle.runs.specs.KeepsLaws.{new_run-is, step_keeps}
use Rattle.runs.specs.MadeLaws.{made_inside}
use Rattle.strategy.specs.Reaching.{begun, ReachedWith}
use Rattle.strategy.proofs.ReachingLaws.{step-reached}

pub record InsideReached (p : Plan) (c : Calendar) (r : Run) : Type 0 where
  pub inside : Inside p c r
  pub reached : ReachedWith p c r

module _ (p : Plan) (c : Calendar) where
  one-reached : (r : Run) → InsideReached p c r → (st : Step) (b : Bool) → is_step st ≡ b → ReachedWith p c (step p c r st).run
  one-reached r k st true e =
      subst (λ (a : Answered). ReachedWith p c a.run) (sym (step-inside p c r st k.inside e)) (step-reached p c k.reached.reached st)
  one-reached r k st false e = subst (λ (a : Answered). ReachedWith p c a.run) (sym (step-outside p c r st k.inside e)) k.reached

  all-reached : (sts : List Step) (r : Run) → InsideReached p c r → InsideReached p c (after_values p c r sts)
  unfolding after_values
  all-reached [] r k = k
  all-reached (st ∷ sts) r k =
      all-reached sts (step p c r st).run (record { inside = step_keeps p c r st k.inside; reached = one-reached r k st (is_step st) refl })

pub values-from-new : (p : Plan) → Accepted p → (m : ℕ) (c : Rows) → outcome p ≡ settled m c → (sts : List Step)
    → InsideReached p (calendar p c) (after_values p (calendar p c) new_run sts)
values-from-new p a m c e sts =
    all-reached p (calendar p c) sts new_run
    (record {
      inside = record { plan = a; calendar = made_inside p a m c e; run = new_run-is p a };
      reached = record { history = []; reached = begun };
    })
