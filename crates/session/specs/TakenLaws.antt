-- The run that a session hands back is the run after the steps that it took (`takes_run`), and of every text some steps are taken (`session-takes`).
use Rattle.std.specs.Prelude.{ℕ, zero, suc, ◌≤◌, ◌<◌, ◌≡◌, Bool, true, false, length}
use Rattle.std.proofs.Math.Path.{refl, ap}
use Rattle.std.proofs.Common.{◌∙◌, arith}
use mathlib.Core.List.{List, [], ◌∷◌}
use Rattle.plan.specs.declared.Plan.{Plan}
use Rattle.lines.specs.Reading.{Reading, read, refused}
use Rattle.calendars.specs.declared.Calendar.{Calendar}
use Rattle.runs.specs.declared.Run.{Run}
use Rattle.runs.specs.declared.Step.{Step}
use Rattle.runs.specs.Steps.{stepped, after_steps}
use Rattle.session.specs.StepRead.{step_line}
use Rattle.session.specs.AnswerText.{ends_session}
use Rattle.session.specs.Sessions.{Dispatched, dispatched}
use Rattle.session.specs.Taken.{Takes, end, no_step, last, then}
use Rattle.session.specs.SessionLaws.{step_line-shorter, dispatched-end, dispatched-refused, dispatched-last, dispatched-more}

module _ (p : Plan) (c : Calendar) where
  pub takes_run : {r : Run} {s : List ℕ} {n : ℕ} {sts : List Step} → Takes p c r s n sts → (dispatched p c r s n).run ≡ after_steps p c r sts
  unfolding after_steps
  takes_run {r} {s} {n} end = ap (λ (d : Dispatched). d.run) (dispatched-end p c r [] 0 n (omega arith))
  takes_run {r} {s} {n} (no_step {part = part} {x = x} some e) = ap (λ (d : Dispatched). d.run) (dispatched-refused p c r s n some x part e)
  takes_run {r} {s} {n} (last {t = t} {m = m} {st = st} some e ends) =
      ap (λ (d : Dispatched). d.run) (dispatched-last p c r s n some st t m (stepped p c r st) e refl ends)
  takes_run {r} {s} {n} (then {t = t} {m = m} {st = st} some e goes later) =
      ap (λ (d : Dispatched). d.run) (dispatched-more p c r s n some st t m (stepped p c r st) e refl goes) ∙ takes_run later

  -- some steps are taken of every text
  abbrev Taken : Run → List ℕ → ℕ → Type 0
  Taken r s n = (sts : List Step) × Takes p c r s n sts

  from-answer : (r : Run) (s : List ℕ) (n : ℕ) → 0 < length s → (st : Step) (t : List ℕ) (m : ℕ) → step_line s n ≡ read st t m
      → Taken (stepped p c r st).run t m → (b : Bool) → ends_session (stepped p c r st).answer ≡ b → Taken r s n
  from-answer r s n some st t m e later true ends = (st ∷ [], last some e ends)
  from-answer r s n some st t m e later false goes = (st ∷ later.0, then some e goes later.1)

  from-line : (r : Run) (s : List ℕ) (n : ℕ) → 0 < length s → (l : Reading Step) → step_line s n ≡ l
      → ((r' : Run) (t : List ℕ) (m : ℕ) → length t < length s → Taken r' t m) → Taken r s n
  from-line r s n some (read st t m) e later =
      from-answer r s n some st t m e (later (stepped p c r st).run t m (step_line-shorter s n some e)) (ends_session (stepped p c r st).answer) refl
  from-line r s n some (refused x part) e later = ([], no_step some e)

  within : (k : ℕ) (r : Run) (s : List ℕ) (n : ℕ) → length s ≤ k → Taken r s n
  within zero r [] n h = ([], end)
  within zero r (b ∷ s) n h = absurd (omega arith)
  within (suc k) r [] n h = ([], end)
  within (suc k) r (b ∷ s) n h = from-line r (b ∷ s) n (omega arith) (step_line (b ∷ s) n) refl (λ r' t m l. within k r' t m (omega arith))

  pub session-takes : (r : Run) (s : List ℕ) (n : ℕ) → (sts : List Step) × Takes p c r s n sts
  session-takes r s n = within (length s) r s n (omega arith)
