-- What ends a session before the end of its text, and what `refused_in_session` of the crate `session` hands back: where a session's text is refused, the
-- dispatch program's output ends with the line of that refusal (`refused-ends`); where it is not, every line was taken, and the output is the answers to all
-- steps, none of which ends a session (`taken-whole`). For no step of a settled plan's session is answered by 1 or 2 (`goes_on`): an auto start outside the
-- range of T is not reached (`auto-taken`).
use Prim.Native.Nat.{ℕ, zero, suc, ◌≤◌, ◌<◌}
use Rattle.std.specs.Prelude.{◌≡◌, false}
use Rattle.std.proofs.Math.Path.{refl, ap}
use Rattle.std.proofs.Common.{sym, subst, ◌∙◌}
use mathlib.Core.List.{List, [], ◌∷◌, ◌++◌, append_assoc}
use native.Mathlib.Omega.{arith}
use Rattle.std.proofs.Math.ListN.{length}
use Rattle.whole.specs.Clash.{clash}
use Rattle.plan.specs.declared.Plan.{Plan}
use Rattle.lines.specs.declared.Refusal.{Refusal}
use Rattle.lines.specs.declared.Refusal.TheVariants as refusal
use Rattle.lines.specs.Refusals.{refused_line}
use Rattle.lines.specs.Reading.{Reading, read, refused, next}
use Rattle.plan.specs.PlanLines.{plan_head, plan_alone}
use Rattle.plan.specs.PlanLaws.{plan_head-accepted}
use Rattle.plan.specs.Accepted.{Accepted}
use Rattle.bounds.specs.Tables.{Rows}
use Rattle.rounds.specs.Rounds.{Outcome, settled, no_strategy, unsettled, outcome, verdict_of, verdict_told}
use Rattle.rounds.specs.TextVerdict.{or_refused, verdict_after, settled_alone}
use Rattle.calendars.specs.declared.Calendar.{Calendar}
use Rattle.calendars.specs.Calendars.{calendar}
use Rattle.calendars.specs.CalendarText.{outcome_text, answered, calendar_output}
use Rattle.runs.specs.declared.Run.{Run}
use Rattle.runs.specs.declared.Step.{Step}
use Rattle.runs.specs.Steps.{new_run, stepped, after_steps}
use Rattle.runs.specs.StepEffectLaws.{after_steps-more}
use Rattle.session.specs.StepRead.{step_line}
use Rattle.session.specs.AnswerText.{answer_line, ends_session}
use Rattle.session.specs.Sessions.{dispatched_within, answers, judged_session, session_of, dispatch_output}
use Rattle.session.specs.SessionLaws.{step_line-shorter, answers-refused}
use Rattle.session.specs.EndLaws.{answer-goes}
use Rattle.session.specs.SessionRead.{steps_within, step_lines, session_read}
use Rattle.session.specs.SessionReadLaws.{step_lines-refused, step_lines-more}
use Rattle.promises.specs.Demands.{session-kept, auto-taken}
use Rattle.promises.specs.Printed.{session-printed, step-printed}

-- ---- no step of a settled plan's session is answered by 1 or 2

module _ (p : Plan) (good : Accepted p) (m : ℕ) (c : Rows) (accepted : outcome p ≡ settled m c) (sts : List Step) where
  abbrev run : Run
  run = after_steps p (calendar p c) new_run sts

  pub goes_on : (st : Step) → ends_session (stepped p (calendar p c) run st).answer ≡ false
  unfolding ends_session
  goes_on st =
      answer-goes p (calendar p c) run
      (λ j i e l.
      let k = session-kept p good m c accepted sts in
      ap ends_session (auto-taken p good m c accepted run k.history k.reached j i e l))
      st

-- ---- a text that is refused

-- an output that ends with the line of a refusal
pub record EndsWith (out : List ℕ) (x : Refusal) : Type 0 where
  pub earlier : List ℕ
  pub is : out ≡ earlier ++ refused_line x

only-line : {out : List ℕ} {x y : Refusal} → y ≡ x → out ≡ refused_line y → EndsWith out x
only-line e d = record { earlier = []; is = d ∙ ap refused_line e }

module _ (p : Plan) (good : Accepted p) (m : ℕ) (c : Rows) (accepted : outcome p ≡ settled m c) (x : Refusal) (part : List ℕ) where
  steps-end : (left : ℕ) (sts : List Step) (s : List ℕ) (n : ℕ) → length s ≤ left → step_lines s n ≡ refused x part
      → EndsWith (answers p (calendar p c) (after_steps p (calendar p c) new_run sts) s n) x
  unfolding steps_within
  steps-end zero sts [] n h e = clash (cc)
  steps-end zero sts (b ∷ s) n h e = absurd (omega arith)
  steps-end (suc left) sts [] n h e = clash (cc)
  steps-end (suc left) sts (b ∷ s) n h e = of (step_line (b ∷ s) n) refl (λ st u k l d. steps-end left (sts ++ (st ∷ [])) u k l d)
    where
      some : 0 < length (b ∷ s)
      some = omega arith

      of : (m : Reading Step) → step_line (b ∷ s) n ≡ m
          → ((st : Step) (u : List ℕ) (k : ℕ) → length u ≤ left → step_lines u k ≡ refused x part → EndsWith
          (answers p (calendar p c) (after_steps p (calendar p c) new_run (sts ++ (st ∷ []))) u k) x)
          → EndsWith (answers p (calendar p c) (after_steps p (calendar p c) new_run sts) (b ∷ s) n) x
      of (refused y u) d later =
          let f = step_lines-refused (b ∷ s) n some y u d in
          let same : y ≡ x = cc in
          only-line same (answers-refused p (calendar p c) (after_steps p (calendar p c) new_run sts) (b ∷ s) n some y u d)
      of (read st u k) d later =
          let l = step_line-shorter (b ∷ s) n some d in
          let rest = later st u k (omega arith) (sym (step_lines-more (b ∷ s) n some st u k d) ∙ e) in
          let line = answer_line (stepped p (calendar p c) (after_steps p (calendar p c) new_run sts) st).answer in
          record {
            earlier = line ++ rest.earlier;
            is =
                step-printed p (calendar p c) sts (b ∷ s) n some st u k d (goes_on p good m c accepted sts st)
                ∙ ap (λ (o : List ℕ). line ++ o) rest.is
                ∙ sym (append_assoc line rest.earlier (refused_line x));
          }

pub refused-ends : (s : List ℕ) (x : Refusal) (part : List ℕ) → session_read s ≡ refused x part → EndsWith (dispatch_output s) x
unfolding verdict_after or_refused next session_of judged_session after_steps
refused-ends s x part e = of (plan_head s) refl e
  where
    by-outcome : (p : Plan) (u : List ℕ) (n : ℕ) → plan_head s ≡ read p u n → (o : Outcome) → outcome p ≡ o
        → next (or_refused (verdict_told (verdict_of p o)) (read p u n)) (λ p. step_lines) ≡ refused x part → EndsWith (dispatch_output s) x
    by-outcome p u n d (settled m c) a f =
        subst (λ (out : List ℕ). EndsWith out x) (sym (session-printed s d m c a))
        (steps-end p (plan_head-accepted s d) m c a x part (length u) [] u n (omega arith) f)
    by-outcome p u n d (no_strategy K) a f =
        let same : refusal.NoStrategy K ≡ x = cc in
        only-line same (ap session_of d ∙ ap (λ (o : Outcome). judged_session p o u n) a)
    by-outcome p u n d unsettled a f =
        let same : refusal.Unsettled p.rounds ≡ x = cc in
        only-line same (ap session_of d ∙ ap (λ (o : Outcome). judged_session p o u n) a)

    of : (k : Reading Plan) → plan_head s ≡ k → next (verdict_after k) (λ p. step_lines) ≡ refused x part → EndsWith (dispatch_output s) x
    of (read p u n) d f = by-outcome p u n d (outcome p) refl f
    of (refused y u) d f =
        let same : y ≡ x = cc in
        only-line same (ap session_of d)

-- a plan's text that is refused, its verdict included, has that line for its whole answer
pub refused-printed : (s : List ℕ) (x : Refusal) (part : List ℕ) → settled_alone s ≡ refused x part → calendar_output s ≡ refused_line x
unfolding verdict_after or_refused answered outcome_text
refused-printed s x part e = of (plan_alone s) e
  where
    by-outcome : (p : Plan) (u : List ℕ) (n : ℕ) (o : Outcome) → or_refused (verdict_told (verdict_of p o)) (read p u n) ≡ refused x part
        → outcome_text p o ≡ refused_line x
    by-outcome p u n (settled m c) f = clash (cc)
    by-outcome p u n (no_strategy K) f = let same : refusal.NoStrategy K ≡ x = cc in ap refused_line same
    by-outcome p u n unsettled f = let same : refusal.Unsettled p.rounds ≡ x = cc in ap refused_line same

    of : (m : Reading Plan) → verdict_after m ≡ refused x part → answered m ≡ refused_line x
    of (read p u n) f = by-outcome p u n (outcome p) f
    of (refused y u) f = let same : y ≡ x = cc in ap refused_line same

-- ---- a text that is not refused

-- the answers to steps, one after the other, from a run on
unfoldable pub answers_to : Plan → Calendar → Run → List Step → List ℕ
answers_to p c r [] = []
answers_to p c r (st ∷ sts) = answer_line (stepped p c r st).answer ++ answers_to p c (stepped p c r st).run sts

-- a text whose lines are just these steps, one after the other
pub data LinesAre : List ℕ → ℕ → List Step → Type 0 where
  none : {n : ℕ} → LinesAre [] n []
  then : {s u : List ℕ} {n k : ℕ} {st : Step} {sts : List Step} → step_line s n ≡ read st u k → LinesAre u k sts → LinesAre s n (st ∷ sts)

-- every line after a settled plan is a step, and the output is the answers to all of them; none ends the session (`goes_on`)
pub record TakenWhole (s : List ℕ) : Type 0 where
  pub plan : Plan
  pub steps-text : List ℕ
  pub first-line : ℕ
  pub plan-read : plan_head s ≡ read plan steps-text first-line
  pub round : ℕ
  pub set : Rows
  pub plan-settled : outcome plan ≡ settled round set
  pub steps : List Step
  pub lines : LinesAre steps-text first-line steps
  pub printed : dispatch_output s ≡ answers_to plan (calendar plan set) new_run steps

module _ (p : Plan) (good : Accepted p) (m : ℕ) (c : Rows) (accepted : outcome p ≡ settled m c) where
  record StepsTaken (done : List Step) (s : List ℕ) (n : ℕ) : Type 0 where
    later : List Step
    lines : LinesAre s n later
    is : answers p (calendar p c) (after_steps p (calendar p c) new_run done) s n ≡ answers_to p (calendar p c) (after_steps p (calendar p c) new_run done) later

  steps-taken : (left : ℕ) (done : List Step) (s : List ℕ) (n : ℕ) → length s ≤ left → {t : List ℕ} {k : ℕ} → step_lines s n ≡ read tt t k → StepsTaken done s n
  unfolding dispatched_within answers_to
  steps-taken zero done [] n h e = record { later = []; lines = none; is = refl }
  steps-taken zero done (b ∷ s) n h e = absurd (omega arith)
  steps-taken (suc left) done [] n h e = record { later = []; lines = none; is = refl }
  steps-taken (suc left) done (b ∷ s) n h {t} {k} e = of (step_line (b ∷ s) n) refl (λ st u i l d. steps-taken left (done ++ (st ∷ [])) u i l d)
    where
      some : 0 < length (b ∷ s)
      some = omega arith

      of : (m : Reading Step) → step_line (b ∷ s) n ≡ m
          → ((st : Step) (u : List ℕ) (i : ℕ) → length u ≤ left → step_lines u i ≡ read tt t k → StepsTaken (done ++ (st ∷ [])) u i)
          → StepsTaken done (b ∷ s) n
      of (refused y u) d more =
          let f = step_lines-refused (b ∷ s) n some y u d in
          clash (cc)
      of (read st u i) d more =
          let l = step_line-shorter (b ∷ s) n some d in
          let rest = more st u i (omega arith) (sym (step_lines-more (b ∷ s) n some st u i d) ∙ e) in
          let r = after_steps p (calendar p c) new_run done in
          let line = answer_line (stepped p (calendar p c) r st).answer in
          record {
            later = st ∷ rest.later;
            lines = then d rest.lines;
            is =
                step-printed p (calendar p c) done (b ∷ s) n some st u i d (goes_on p good m c accepted done st)
                ∙ ap (λ (o : List ℕ). line ++ o)
                (rest.is ∙ ap (λ (r : Run). answers_to p (calendar p c) r rest.later) (after_steps-more p (calendar p c) new_run done st));
          }

pub taken-whole : (s t : List ℕ) (k : ℕ) → session_read s ≡ read tt t k → TakenWhole s
unfolding verdict_after or_refused next after_steps
taken-whole s t k e = of (plan_head s) refl e
  where
    by-outcome : (p : Plan) (u : List ℕ) (n : ℕ) → plan_head s ≡ read p u n → (o : Outcome) → outcome p ≡ o
        → next (or_refused (verdict_told (verdict_of p o)) (read p u n)) (λ p. step_lines) ≡ read tt t k → TakenWhole s
    by-outcome p u n d (settled m c) a f =
        let w = steps-taken p (plan_head-accepted s d) m c a (length u) [] u n (omega arith) f in
        record {
          plan = p;
          steps-text = u;
          first-line = n;
          plan-read = d;
          round = m;
          set = c;
          plan-settled = a;
          steps = w.later;
          lines = w.lines;
          printed = session-printed s d m c a ∙ w.is;
        }
    by-outcome p u n d (no_strategy K) a f = clash (cc)
    by-outcome p u n d unsettled a f = clash (cc)

    of : (m : Reading Plan) → plan_head s ≡ m → next (verdict_after m) (λ p. step_lines) ≡ read tt t k → TakenWhole s
    of (read p u n) d f = by-outcome p u n d (outcome p) refl f
    of (refused y u) d f = clash (cc)
