-- The laws of a session's steps, which are answered one at a time: where nothing is left there is no answer (`dispatched-end`); a line that is no step is the
-- last (`dispatched-refused`); a step's answer is the last where it ends the session (`dispatched-last`), and else what follows comes after it
-- (`dispatched-more`). The same of the answer lines alone (`answers-..`), of which the last step's is the last (`answers-only`).

use Prim.Native.Nat.{ℕ, zero, suc, ◌+◌, ◌≤◌, ◌<◌}
use Rattle.std.specs.Prelude.{◌≡◌, Bool, true, false, length, drop}
use Rattle.std.proofs.Math.Path.{refl, ap}
use Rattle.std.proofs.Common.{sym, ◌∙◌, arith, length-drop, drop_of_length-le}
use Rattle.std.proofs.Math.Bool.{cond}
use mathlib.Core.List.{List, [], ◌∷◌, ◌++◌, append-nil}
use Rattle.text.specs.Lines.{LF, len_to}
use Rattle.plan.specs.declared.Plan.{Plan}
use Rattle.lines.specs.declared.Refusal.{Refusal}
use Rattle.lines.specs.Refusals.{refused_line}
use Rattle.lines.specs.Reading.{Reading, read, refused}
use Rattle.lines.specs.ReadingLaws.{line_read}
use Rattle.calendars.specs.declared.Calendar.{Calendar}
use Rattle.runs.specs.declared.Step.{Step}
use Rattle.runs.specs.declared.Run.{Run}
use Rattle.runs.specs.declared.Answered.{Answered}
use Rattle.runs.specs.Steps.{stepped}
use Rattle.session.specs.StepRead.{step_in, step_line}
use Rattle.session.specs.AnswerText.{answer_line, ends_session}
use Rattle.session.specs.Sessions.{Dispatched, answered_step, after_step, dispatched_within, dispatched, answers}

-- what follows a step's line is shorter than the text from that line on
pub step_line-shorter : (s : List ℕ) (n : ℕ) {st : Step} {t : List ℕ} {m : ℕ} → 0 < length s → step_line s n ≡ read st t m → length t < length s
unfolding step_line
step_line-shorter s n h e =
    omega (arith, ap length (line_read step_in s n e).rest, length-drop (len_to LF s + 1) s)

module _ (p : Plan) (c : Calendar) where
  -- ---- the text's length is enough of steps

  after_step-same : (r : Run) (m : Reading Step) (f g : Run → List ℕ → ℕ → Dispatched)
      → ((r' : Run) (st : Step) (t : List ℕ) (k : ℕ) → m ≡ read st t k → f r' t k ≡ g r' t k) → after_step p c r m f ≡ after_step p c r m g
  unfolding after_step answered_step
  after_step-same r (read st t k) f g h =
      let a = stepped p c r st in
      ap
      (λ (rest : Dispatched).
      let behind = cond (ends_session a.answer) (record { lines = []; run = a.run }) rest in
      record { lines = answer_line a.answer ++ behind.lines; run = behind.run })
      (h a.run st t k refl)
  after_step-same r (refused x part) f g h = refl

  dispatched_within-enough : (j k : ℕ) (r : Run) (s : List ℕ) (n : ℕ) → length s ≤ j → length s ≤ k → dispatched_within p c j r s n ≡ dispatched_within p c k r s n
  unfolding dispatched_within
  dispatched_within-enough zero zero r s n g h = refl
  dispatched_within-enough zero (suc k) r [] n g h = refl
  dispatched_within-enough zero (suc k) r (b ∷ s) n g h = absurd (omega arith)
  dispatched_within-enough (suc j) zero r [] n g h = refl
  dispatched_within-enough (suc j) zero r (b ∷ s) n g h = absurd (omega arith)
  dispatched_within-enough (suc j) (suc k) r [] n g h = refl
  dispatched_within-enough (suc j) (suc k) r (b ∷ s) n g h =
      after_step-same r (step_line (b ∷ s) n) (dispatched_within p c j) (dispatched_within p c k)
      (λ r' st t m e.
      let l = step_line-shorter (b ∷ s) n (omega arith) e in
      dispatched_within-enough j k r' t m (omega arith) (omega arith))

  -- ---- one step

  dispatched-read : (r : Run) (s : List ℕ) (n : ℕ) → 0 < length s → dispatched p c r s n ≡ after_step p c r (step_line s n) (dispatched p c)
  unfolding dispatched_within
  dispatched-read r [] n h = absurd (omega arith)
  dispatched-read r (b ∷ s) n h =
      after_step-same r (step_line (b ∷ s) n) (dispatched_within p c (length s)) (dispatched p c)
      (λ r' st t m e.
      let l = step_line-shorter (b ∷ s) n h e in
      dispatched_within-enough (length s) (length t) r' t m (omega arith) (omega arith))

  pub dispatched-end : (r : Run) (s : List ℕ) (i n : ℕ) → length s ≤ i → dispatched p c r (drop i s) n ≡ record { lines = []; run = r }
  unfolding dispatched_within
  dispatched-end r s i n h = rw (drop_of_length-le s h)

  module _ (r : Run) (s : List ℕ) (n : ℕ) (h : 0 < length s) where
    pub dispatched-refused : (x : Refusal) (part : List ℕ) → step_line s n ≡ refused x part → dispatched p c r s n ≡ record { lines = refused_line x; run = r }
    unfolding after_step
    dispatched-refused x part e = dispatched-read r s n h ∙ ap (λ (m : Reading Step). after_step p c r m (dispatched p c)) e

    module _ (st : Step) (t : List ℕ) (m : ℕ) (a : Answered) (e : step_line s n ≡ read st t m) (d : a ≡ stepped p c r st) where
      -- the answer's line, and what follows it
      by_end : Bool → Dispatched
      by_end b =
          let behind = cond b (record { lines = []; run = a.run }) (dispatched p c a.run t m) in
          record { lines = answer_line a.answer ++ behind.lines; run = behind.run }

      dispatched-step : dispatched p c r s n ≡ by_end (ends_session a.answer)
      unfolding after_step answered_step by_end
      dispatched-step =
          dispatched-read r s n h
          ∙ ap (λ (m : Reading Step). after_step p c r m (dispatched p c)) e
          ∙ ap (λ (q : Answered). answered_step q (λ r'. dispatched p c r' t m)) (sym d)

      pub dispatched-last : ends_session a.answer ≡ true → dispatched p c r s n ≡ record { lines = answer_line a.answer; run = a.run }
      unfolding by_end
      dispatched-last g =
          dispatched-step ∙ ap by_end g
          ∙ ap (λ (l : List ℕ). record { lines = l; run = a.run }) (append-nil (answer_line a.answer))

      pub dispatched-more : ends_session a.answer ≡ false
          → dispatched p c r s n ≡ record { lines = answer_line a.answer ++ answers p c a.run t m; run = (dispatched p c a.run t m).run }
      unfolding by_end
      dispatched-more g = dispatched-step ∙ ap by_end g

  -- ---- the lines alone

  pub answers-end : (r : Run) (s : List ℕ) (i n : ℕ) → length s ≤ i → answers p c r (drop i s) n ≡ []
  answers-end r s i n h = ap (λ (d : Dispatched). d.lines) (dispatched-end r s i n h)

  module _ (r : Run) (s : List ℕ) (n : ℕ) (h : 0 < length s) where
    pub answers-refused : (x : Refusal) (part : List ℕ) → step_line s n ≡ refused x part → answers p c r s n ≡ refused_line x
    answers-refused x part e = ap (λ (d : Dispatched). d.lines) (dispatched-refused r s n h x part e)

    module _ (st : Step) (t : List ℕ) (m : ℕ) (a : Answered) (e : step_line s n ≡ read st t m) (d : a ≡ stepped p c r st) where
      pub answers-last : ends_session a.answer ≡ true → answers p c r s n ≡ answer_line a.answer
      answers-last g = ap (λ (d : Dispatched). d.lines) (dispatched-last r s n h st t m a e d g)

      pub answers-more : ends_session a.answer ≡ false → answers p c r s n ≡ answer_line a.answer ++ answers p c a.run t m
      answers-more g = ap (λ (d : Dispatched). d.lines) (dispatched-more r s n h st t m a e d g)

      -- whatever follows it, a step's answer comes first
      pub answers-first : (rest : List ℕ) × (answers p c r s n ≡ answer_line a.answer ++ rest)
      unfolding by_end
      answers-first = (_, ap (λ (d : Dispatched). d.lines) (dispatched-step r s n h st t m a e d))

    -- the last step, whatever its answer
    pub answers-only : (st : Step) (m : ℕ) (a : Answered) → step_line s n ≡ read st [] m → a ≡ stepped p c r st → answers p c r s n ≡ answer_line a.answer
    answers-only st m a e d = by (ends_session a.answer) refl
      where
        by : (b : Bool) → ends_session a.answer ≡ b → answers p c r s n ≡ answer_line a.answer
        by true g = answers-last st [] m a e d g
        by false g =
            answers-more st [] m a e d g
            ∙ ap (λ (rest : List ℕ). answer_line a.answer ++ rest) (answers-end a.run [] 0 m (omega arith))
            ∙ append-nil (answer_line a.answer)
