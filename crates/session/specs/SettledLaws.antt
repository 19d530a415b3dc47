-- What a session prints, and what ends it, by its plan and its plan's verdict. The plan that was read at a text's head is accepted, and the lines after it
-- begin at a place of the text (`head-read`); the session prints as that plan is judged (`head-accepted`), or the refusal of its lines (`head-refused`). Where
-- it is settled, the session prints the answers to its steps (`settled-printed`), and ends as its step lines do (`settled-ends`, `session_read-settled`); where
-- the plan or its verdict is refused, it prints that one line (`refused-printed`), and ends so (`refused-read`). A settled plan, its calendar and a run at its
-- beginning are inside their limits (`settled-inside`).
use Rattle.std.specs.Prelude.{ℕ, ◌+◌, ◌≤◌, ◌≡◌, refl, List, length, drop, Result, Ok, Err}
use Rattle.std.proofs.Common.{sym, subst, ◌∙◌, arith, length-drop}
use Rattle.std.proofs.Math.Path.{ap}
use Rattle.whole.specs.Clash.{clash}
use Rattle.plan.specs.declared.Plan.{Plan}
use Rattle.plan.specs.Accepted.{Accepted}
use Rattle.plan.specs.declared.PlanRead.{PlanRead}
use Rattle.plan.specs.PlanLines.{plan_head}
use Rattle.plan.specs.PlanLaws.{plan_head-accepted, plan_head-fits}
use Rattle.plan.specs.PlanAnswers.{plan_read}
use Rattle.plan.specs.PlanPartLaws.{plan_head-tail}
use Rattle.plan.specs.PlanCountedLaws.{plan_head-line}
use Rattle.plan.specs.HeadLaws.{plan_read-took, plan_read-fault, plan_read-placed}
use Rattle.lines.specs.declared.Refusal.{Refusal}
use Rattle.lines.specs.declared.FaultyLine.{FaultyLine}
use Rattle.lines.specs.Refusals.{refused_line}
use Rattle.lines.specs.Reading.{longest_text, Reading, read, refused, next}
use Rattle.lines.specs.ReadAt.{faulty_in}
use Rattle.lines.specs.Answers.{reported}
use Rattle.rounds.specs.Rounds.{outcome, verdict, verdict_told}
use Rattle.rounds.specs.TextVerdict.{or_refused, verdict_after, settled_head}
use Rattle.rounds.specs.TextVerdictLaws.{verdict_after-settled}
use Rattle.calendars.specs.declared.Calendar.{Calendar}
use Rattle.calendars.specs.Calendars.{made_calendar}
use Rattle.runs.specs.Steps.{new_run}
use Rattle.runs.specs.Inside.{Inside}
use Rattle.session.specs.declared.Session.{Session}
use Rattle.session.specs.Sessions.{answers, judged_session, session_of, dispatch_output}
use Rattle.session.specs.SessionRead.{step_lines, session_read}
use Rattle.session.specs.StepAt.{lines_read, Ends}
use Rattle.session.specs.Settled.{session_lines, SettledAs}
use Rattle.session.specs.DecidedLaws.{judged-decided, judged-inside, judged-settled, judged-refused}

-- ---- a plan that was decided

pub settled-inside : (p : Plan) → Accepted p → {m : ℕ} → verdict_told (verdict p) ≡ Ok m → {c : Calendar} → c ≡ made_calendar p (outcome p)
    → Inside p c new_run
settled-inside p a {m} e {c} d = judged-inside p (verdict p) c (judged-decided p a (verdict p) c refl d) (verdict_told (verdict p)) refl m e

-- ---- the plan at a text's head, as the reader answered it

pub record HeadRead (s : List ℕ) (h : PlanRead) : Type 0 where
  pub accepted : Accepted h.plan
  pub placed : h.at ≤ length s
  pub short : length s ≤ longest_text
  pub numbered : h.line ≤ h.at + 1

pub head-read : (s : List ℕ) {h : PlanRead} → Ok h ≡ plan_read s (plan_head s) → HeadRead s h
head-read s {h} d =
    let e = plan_read-took s (plan_head-tail s) d in
    let at : h.at ≤ length s = plan_read-placed s (plan_head s) d in
    record { accepted = plan_head-accepted s e; placed = at; short = plan_head-fits s e; numbered = omega (arith, plan_head-line s e, length-drop h.at s) }

pub head-accepted : (s : List ℕ) {h : PlanRead} → Ok h ≡ plan_read s (plan_head s)
    → (judged_session h.plan (outcome h.plan) (drop h.at s) h.line ≡ dispatch_output s) × HeadRead s h
unfolding session_of
head-accepted s d = (sym (ap session_of (plan_read-took s (plan_head-tail s) d)), head-read s d)

pub head-refused : (s : List ℕ) {f : FaultyLine} → Err f ≡ plan_read s (plan_head s) → refused_line f.refusal ≡ dispatch_output s
unfolding session_of
head-refused s d = sym (ap session_of (plan_read-fault s (plan_head-tail s) d))

-- ---- what a session prints

record SettledFirst (m : Reading Plan) (p : Plan) (t : List ℕ) (n : ℕ) : Type 0 where
  round : ℕ
  reads : m ≡ read p t n
  settles : verdict_told (verdict p) ≡ Ok round

module _ (p : Plan) (t : List ℕ) (n : ℕ) where
  settled-first : (m : Reading Plan) → verdict_after m ≡ read p t n → SettledFirst m p t n
  unfolding verdict_after or_refused
  settled-first (refused x part) e = clash (cc)
  settled-first (read q s k) e = of (verdict_told (verdict q)) refl e
    where
      of : (w : Result ℕ Refusal) → verdict_told (verdict q) ≡ w → or_refused w (read q s k) ≡ read p t n → SettledFirst (read q s k) p t n
      of (Err x) d f = clash (cc)
      of (Ok j) d f =
          let same : q ≡ p = cc in
          record { round = j; reads = f; settles = ap (λ (q : Plan). verdict_told (verdict q)) (sym same) ∙ d }

  head-decided : (s : List ℕ) → verdict_after (plan_head s) ≡ read p t n → answers p (made_calendar p (outcome p)) new_run t n ≡ dispatch_output s
  unfolding session_of
  head-decided s e =
      let h = settled-first (plan_head s) e in
      let c = made_calendar p (outcome p) in
      judged-settled p (verdict p) c (judged-decided p (plan_head-accepted s h.reads) (verdict p) c refl refl) t n (verdict_told (verdict p)) refl h.round h.settles
      ∙ sym (ap session_of h.reads)

refused-decided : (x : Refusal) (t : List ℕ) (m : Reading Plan) → ((p : Plan) (s : List ℕ) (n : ℕ) → m ≡ read p s n → Accepted p)
    → verdict_after m ≡ refused x t
    → refused_line x ≡ session_of m
unfolding verdict_after or_refused session_of
refused-decided x t (refused y part) a e = let same : x ≡ y = cc in ap refused_line same
refused-decided x t (read p s n) a e = of (verdict_told (verdict p)) refl e
  where
    of : (w : Result ℕ Refusal) → verdict_told (verdict p) ≡ w → or_refused w (read p s n) ≡ refused x t
        → refused_line x ≡ judged_session p (outcome p) s n
    of (Ok j) d f = clash (cc)
    of (Err y) d f =
        let same : x ≡ y = cc in
        let c = made_calendar p (outcome p) in
        ap refused_line same ∙ judged-refused p (verdict p) c (judged-decided p (a p s n refl) (verdict p) c refl refl) s n (Err y) (sym d) y refl

pub settled-printed : {s : List ℕ} {h : Session} → SettledAs s h → session_lines h ≡ dispatch_output s
settled-printed {s} {h} w =
    ap (λ (s : List ℕ). answers h.plan h.calendar new_run (drop h.lines.at s) h.lines.line) w.text
    ∙ ap (λ (c : Calendar). answers h.plan c new_run (drop h.lines.at s) h.lines.line) w.calendar
    ∙ head-decided h.plan (drop h.lines.at s) h.lines.line s w.reads

pub refused-printed : (s : List ℕ) (f : FaultyLine) → settled_head s ≡ faulty_in s f → refused_line f.refusal ≡ dispatch_output s
refused-printed s f e = refused-decided f.refusal (drop f.at s) (plan_head s) (λ p t n d. plan_head-accepted s d) e

pub settled-read : {s : List ℕ} {h : Session} → SettledAs s h → session_read s ≡ lines_read h.lines
unfolding next
settled-read {s} {h} w =
    ap (λ (m : Reading Plan). next m (λ p. step_lines)) w.reads ∙ ap (λ (s : List ℕ). step_lines (drop h.lines.at s) h.lines.line) (sym w.text)

pub refused-read : (s : List ℕ) (f : FaultyLine) → settled_head s ≡ faulty_in s f → session_read s ≡ faulty_in s f
unfolding next
refused-read s f e = ap (λ (m : Reading Plan). next m (λ p. step_lines)) e

pub settled-ends : {s : List ℕ} {h : Session} → SettledAs s h → (r : Result Unit FaultyLine) → Ends h.lines.text.now (lines_read h.lines) r
    → Ends s (session_read s) r
settled-ends {s} {h} w r e =
    subst (λ (m : Reading Unit). Ends s m r) (sym (settled-read w)) (subst (λ (t : List ℕ). Ends t (lines_read h.lines) r) w.text e)

pub ends-reported : (s : List ℕ) (m : Reading Unit) → Ends s m (Ok tt) → Ok tt ≡ reported m
ends-reported s (read a t n) h = refl
ends-reported s (refused x t) h = absurd h

-- ---- the whole text, by what the reader of its plan answered: the step lines after a plan

abbrev pub steps_behind : Reading Plan → Reading Unit
steps_behind m = next m (λ p. step_lines)

pub steps_behind-keeps : (x : Refusal) (t : List ℕ) → steps_behind (refused x t) ≡ refused x t
unfolding next
steps_behind-keeps x t = refl

pub session_read-settled : (s : List ℕ) (r : PlanRead) → Ok r ≡ plan_read s (plan_head s) → (k : ℕ) → verdict_told (verdict r.plan) ≡ Ok k
    → session_read s ≡ step_lines (drop r.at s) r.line
unfolding next
session_read-settled s r d k v = ap steps_behind (verdict_after-settled s (plan_head s) (plan_head-tail s) r d k v)
