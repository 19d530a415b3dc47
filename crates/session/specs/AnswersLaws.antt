-- The loop over the steps of a session, of which the lines l are left of l₀: where it stands (`AnswersSoFar`), and one law for each way on. It begins
-- (`answers_so_far-start`); it ends where nothing is left (`answers_so_far-end`), at a line that is no step (`answers_so_far-refused`) and at a step's answer that
-- ends the session (`answers_so_far-last`); else it goes on (`answers_so_far-more`).

use Rattle.std.specs.Prelude.{ℕ, ◌+◌, ◌*◌, ◌≤◌, ◌<◌, ◌≡◌, refl, true, false, List, [], ◌++◌, length, drop}
use Rattle.std.proofs.Common.{sym, ap, ◌∙◌, add-zero, arith, length-drop}
use Rattle.text.specs.Lent.{Stored}
use Rattle.text.specs.LentLaws.{stored-append, put-nil, put-length}
use Rattle.plan.specs.declared.Plan.{Plan}
use Rattle.lines.specs.declared.FaultyLine.{FaultyLine}
use Rattle.lines.specs.Refusals.{refused_line}
use Rattle.calendars.specs.declared.Calendar.{Calendar}
use Rattle.runs.specs.declared.Step.{Step}
use Rattle.runs.specs.declared.Run.{Run}
use Rattle.runs.specs.declared.Answer.{Answer}
use Rattle.runs.specs.declared.Answered.{Answered}
use Rattle.runs.specs.Steps.{answer_of, moved, stepped}
use Rattle.runs.specs.Inside.{Inside}
use Rattle.runs.specs.KeepsLaws.{stepped-keeps}
use Rattle.session.specs.declared.StepLines.{StepLines}
use Rattle.session.specs.StepAt.{StepRead, StepRefused}
use Rattle.session.specs.AnswerText.{answer_line, longest_answer, ends_session}
use Rattle.session.specs.Sessions.{Dispatched, dispatched}
use Rattle.session.specs.Settled.{lines_dispatched}
use Rattle.session.specs.SessionLaws.{dispatched-end, dispatched-refused, dispatched-last, dispatched-more}

-- where the loop ends: all answers are written, the run is the one after them, and their length has a bound from that of the text
pub record AnswersDone (out₀ : List ℕ) (l₀ : StepLines) (at : ℕ) (whole : Dispatched) (out : List ℕ) (end : ℕ) (run : Run) : Type 0 where
  pub stored : Stored out₀ at whole.lines out end
  pub left : run ≡ whole.run
  pub short : end + 7 * l₀.at ≤ at + 7 * length l₀.text.now + longest_answer

-- where it stands: whatever writes the answers that are left has written all of them
pub record AnswersSoFar (p : Plan) (c : Calendar) (out₀ : List ℕ) (l₀ : StepLines) (at : ℕ) (run₀ : Run) (out : List ℕ) (run : Run) (l : StepLines)
    (end : ℕ) : Type 0 where
  pub left : (o : List ℕ) (e : ℕ) → Stored out end (lines_dispatched p c run l).lines o e → Stored out₀ at (lines_dispatched p c run₀ l₀).lines o e
  pub same-run : (lines_dispatched p c run l).run ≡ (lines_dispatched p c run₀ l₀).run
  pub same : length out ≡ length out₀
  pub inside : Inside p c run
  pub same_text : l.text.now ≡ l₀.text.now
  pub near : end + 7 * l₀.at ≤ at + 7 * l.at

nothing_stored : (out : List ℕ) (end : ℕ) → Stored out end [] out end
nothing_stored out end = record { place = sym (add-zero end); slice = sym (put-nil out end) }

pub answers_so_far-start : {p : Plan} {c : Calendar} {run₀ : Run} (out₀ : List ℕ) (l₀ : StepLines) (at : ℕ) → Inside p c run₀
    → AnswersSoFar p c out₀ l₀ at run₀ out₀ run₀ l₀ at
answers_so_far-start out₀ l₀ at i = record { left = λ o e s. s; same-run = refl; same = refl; inside = i; same_text = refl; near = omega arith }

module _ {p : Plan} {c : Calendar} {out₀ : List ℕ} {l₀ : StepLines} {at : ℕ} {run₀ : Run} {out : List ℕ} {run : Run} {l : StepLines} {end : ℕ}
    (g : AnswersSoFar p c out₀ l₀ at run₀ out run l end) where
  -- what is left to answer is known, and it is written
  all_done : (rest : Dispatched) → lines_dispatched p c run l ≡ rest → (o : List ℕ) (e : ℕ) → Stored out end rest.lines o e
      → e + 7 * l₀.at ≤ at + 7 * length l₀.text.now + longest_answer → AnswersDone out₀ l₀ at (lines_dispatched p c run₀ l₀) o e rest.run
  all_done rest d o e s h =
      record { stored = g.left o e (rw (ap (λ (d : Dispatched). d.lines) d) s); left = sym (ap (λ (d : Dispatched). d.run) d) ∙ g.same-run; short = h }

  at_most : l.at ≤ length l₀.text.now
  at_most = omega (arith, l.placed, ap length g.same_text)

  some : l.at < length l.text.now → 0 < length (drop l.at l.text.now)
  some h = omega (arith, length-drop l.at l.text.now)

  pub answers_so_far-end : length l.text.now ≤ l.at → AnswersDone out₀ l₀ at (lines_dispatched p c run₀ l₀) out end run
  answers_so_far-end h = all_done _ (dispatched-end p c run l.text.now l.at l.line h) out end (nothing_stored out end) (omega (arith, at_most))

  module _ {o : List ℕ} {e : ℕ} (short : e ≤ end + longest_answer) where
    pub answers_so_far-refused : {f : FaultyLine} → StepRefused l f → Stored out end (refused_line f.refusal) o e
        → AnswersDone out₀ l₀ at (lines_dispatched p c run₀ l₀) o e run
    answers_so_far-refused {f} r s =
        all_done _ (dispatched-refused p c run (drop l.at l.text.now) l.line (some r.some_left) f.refusal (drop f.at l.text.now) r.reads) o e s
        (omega (arith, at_most))

    module _ {st : Step} {m : StepLines} (r : StepRead l st m) {a : Answer} {run' : Run} (d : a ≡ answer_of p c run st) (q : run' ≡ moved p.jobs run a)
        (s : Stored out end (answer_line a) o e) where
      answered : ◌≡◌ {A = Answered} (record { answer = a; run = run' }) (stepped p c run st)
      answered = rw (q, d)

      pub answers_so_far-last : ends_session a ≡ true → AnswersDone out₀ l₀ at (lines_dispatched p c run₀ l₀) o e run'
      answers_so_far-last y =
          all_done _ (dispatched-last p c run (drop l.at l.text.now) l.line (some r.some_left) st (drop m.at l.text.now) m.line _ r.reads answered y) o e s
          (omega (arith, at_most))

      pub answers_so_far-more : ends_session a ≡ false → AnswersSoFar p c out₀ l₀ at run₀ o run' m e
      answers_so_far-more y =
          let more =
          dispatched-more p c run (drop l.at l.text.now) l.line (some r.some_left) st (drop m.at l.text.now) m.line _ r.reads answered y
          ∙ ap
          (λ (t : List ℕ).
          let d : Dispatched = dispatched p c run' (drop m.at t) m.line in
          record { lines = answer_line a ++ d.lines; run = d.run })
          (sym r.same_text) in
          let i = g.inside in
          record {
            left = λ o' e' s'. g.left o' e' (rw (ap (λ (d : Dispatched). d.lines) more) (stored-append s s'));
            same-run = sym (ap (λ (d : Dispatched). d.run) more) ∙ g.same-run;
            same = ap length s.slice ∙ put-length out end (answer_line a) ∙ g.same;
            inside =
                record {
                  plan = i.plan;
                  calendar = i.calendar;
                  run = rw (q, d) (stepped-keeps p run i.run c st r.taken.timed);
                };
            same_text = r.same_text ∙ g.same_text;
            near = omega (arith, r.taken.least);
          }
