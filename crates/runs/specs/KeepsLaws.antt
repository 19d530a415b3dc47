-- A run at its beginning is inside its limits (`new_run-is`), and a run inside its limits stays there, whatever step comes (`stepped-keeps`): a refusal leaves
-- it as it is, a start is at a time on offer or brought with the step, and a finish is recorded at a place below the next job's. So it is for steps on
-- values, with a plan and a calendar inside theirs (`step_keeps`).
use Rattle.std.specs.Prelude.{ℕ, zero, suc, ◌+◌, ◌*◌, ◌-◌, ◌≤◌, ◌<◌, ◌≡◌, refl, Bool, cond, List, [], ◌∷◌, leb, ltb, ℤ, pos}
use Rattle.std.proofs.Common.{sym, ap, arith}
use Rattle.std.proofs.Math.Path.{subst}
use Rattle.std.proofs.Math.Bool.{true, false}
use borrow.Author.Tests.{le-leb, eq-eqb, ltb-true, ltb-false, leb-true, leb-false}
use Rattle.clock.specs.declared.RunTime.{RunTime}
use Rattle.plan.specs.declared.Plan.{Plan}
use Rattle.plan.specs.Accepted.{Accepted}
use Rattle.calendars.specs.declared.Calendar.{Calendar}
use Rattle.calendars.specs.Calendars.{events_ahead, events_before}
use Rattle.runs.specs.declared.Answer.{Answer}
use Rattle.runs.specs.declared.Answer.TheVariants.{Offered, Started, Final, Refused}
use Rattle.runs.specs.declared.Answered.{Answered}
use Rattle.runs.specs.declared.Before.TheVariants.{Window}
use Rattle.runs.specs.declared.Phase.{Phase}
use Rattle.runs.specs.declared.Phase.TheVariants.{Waiting, Running}
use Rattle.runs.specs.declared.Run.{Run}
use Rattle.runs.specs.declared.Step.{Step}
use Rattle.runs.specs.TestLaws.{and-true, or-of-true, or_with_true}
use Rattle.runs.specs.Seen.{time_at, time_put, first_seen, job_seen, front_from, to_front}
use Rattle.runs.specs.ValueLimits.{is_time, are_times, is_turn, is_phase, job_of_phase, is_run}
use Rattle.runs.specs.Steps.{new_run, answer_of, closed_since, closed, moved, stepped, is_step, step}
use Rattle.runs.specs.Inside.{Inside}
use Rattle.runs.specs.SeenLaws.{first_seen-most}
use Rattle.runs.specs.ValueStepLaws.{step-inside, step-outside}
use Rattle.runs.specs.InsideLaws.{TurnOfPlan, run-phase, run-seen, are_times-at, waiting-turn, running-turn, running-time}
use Rattle.runs.specs.AnswerLaws.{answer-started, answer-final}

-- ---- a run from its phase and its times

are_times-all : (seen : List ℤ) (n e : ℕ) → ((k : ℕ) → e ≤ k → k < e + n → is_time (time_at seen k) ≡ true) → are_times seen e n ≡ true
unfolding are_times
are_times-all seen zero e h = refl
are_times-all seen (suc n) e h =
    and-true _ _ (h e (omega arith) (omega arith)) (are_times-all seen n (suc e) (λ k l m. h k (omega arith) (omega arith)))

-- every time that a run has seen, up to a place of its present window
abbrev SeenTo : Plan → Run → ℕ → Type 0
SeenTo p r i = (k : ℕ) → first_seen p.jobs r.before ≤ k → k < events_before p i → is_time (time_at r.seen k) ≡ true

is_run-of : (p : Plan) (r : Run) → is_phase p.last p.jobs r.phase ≡ true → SeenTo p r (job_of_phase r.phase - 1) → is_run p r ≡ true
unfolding is_run
is_run-of p r a h = and-true _ _ a (are_times-all r.seen _ _ (λ k l m. h k l (omega (arith, first_seen-most p.jobs r.before))))

run-times : (p : Plan) (r : Run) → is_run p r ≡ true → SeenTo p r (job_of_phase r.phase - 1)
run-times p r e k l m = are_times-at r.seen _ _ (run-seen p r e) k l (omega (arith, first_seen-most p.jobs r.before))

is_turn-on : (p : Plan) (j i : ℕ) → TurnOfPlan p j i → is_turn p.last p.jobs j i ≡ true
is_turn-on p j i t =
    and-true _ _ (and-true _ _ (le-leb 1 j t.window-least) (le-leb j p.last t.window-most))
    (and-true _ _ (le-leb 1 i t.job-least) (le-leb i p.jobs t.job-most))

waiting-is : (p : Plan) (j i : ℕ) → TurnOfPlan p j i → is_phase p.last p.jobs (Waiting j i) ≡ true
unfolding is_phase
waiting-is p j i t = or-of-true (is_turn p.last p.jobs j i) _ (is_turn-on p j i t)

-- ---- times that were put

-- a place past the last holds the time 0
zero-time : is_time (record { 0 = pos 0 }) ≡ true
zero-time = refl

time_put-time : (seen : List ℤ) (e k : ℕ) (t : RunTime) → (k ≡ e → is_time t ≡ true) → ((k ≡ e → ⊥) → is_time (time_at seen k) ≡ true)
    → is_time (time_at (time_put seen e t) k) ≡ true
time_put-time [] e k t h o = zero-time
time_put-time (x ∷ seen) zero zero t h o = h refl
time_put-time (x ∷ seen) zero (suc k) t h o = o (λ z. omega arith)
time_put-time (x ∷ seen) (suc e) zero t h o = o (λ z. omega arith)
time_put-time (x ∷ seen) (suc e) (suc k) t h o = time_put-time seen e k t (λ z. h (ap suc z)) (λ z. o (λ y. z (omega arith)))

job_seen-time : (jobs i : ℕ) (s t : RunTime) (seen : List ℤ) (k : ℕ) → is_time s ≡ true → is_time t ≡ true
    → ((k ≡ events_ahead jobs i → ⊥) → (k ≡ events_ahead jobs i + 1 → ⊥) → is_time (time_at seen k) ≡ true)
    → is_time (time_at (job_seen jobs i s t seen) k) ≡ true
unfolding job_seen
job_seen-time jobs i s t seen k a b h =
    time_put-time (time_put seen (events_ahead jobs i) s) (events_ahead jobs i + 1) k t (λ e. b)
    (λ n. time_put-time seen (events_ahead jobs i) k s (λ e. a) (λ m. h m n))

front-time : (n : ℕ) (seen : List ℤ) (e left k : ℕ) → e + left ≤ n → k < e + left → ((d : ℕ) → d < n → is_time (time_at seen (n + d)) ≡ true)
    → (k < e → is_time (time_at seen k) ≡ true) → is_time (time_at (front_from n e left seen) k) ≡ true
unfolding front_from
front-time n seen e zero k most to all done = done (omega arith)
front-time n seen e (suc left) k most to all done =
    front-time n (time_put seen e (time_at seen (n + e))) (suc e) left k (omega arith) (omega arith)
    (λ d l. time_put-time seen e (n + d) _ (λ x. all e (omega arith)) (λ x. all d l))
    (λ l. time_put-time seen e k _ (λ x. all e (omega arith)) (λ x. done (omega arith)))

-- ---- a run at its beginning

pub new_run-is : (p : Plan) → Accepted p → is_run p new_run ≡ true
unfolding is_phase
new_run-is p a =
    is_run-of p new_run
    (waiting-is p 1 1 (record { window-least = omega arith; window-most = a.last-least; job-least = omega arith; job-most = a.jobs-least }))
    (λ k l m. absurd (omega arith))

-- ---- what an answer makes of a run

module _ (p : Plan) (r : Run) (e : is_run p r ≡ true) where
  started-keeps : (j i : ℕ) (t : RunTime) → r.phase ≡ Waiting j i → j ≤ p.last → is_time t ≡ true
      → is_run p (record { phase = Running j i t; before = r.before; seen = r.seen }) ≡ true
  unfolding is_phase
  started-keeps j i t w l h =
      is_run-of p _ (and-true _ _ (is_turn-on p j i (waiting-turn p r.phase j i (run-phase p r e) w l)) h)
      (subst (λ (f : Phase). SeenTo p r (job_of_phase f - 1)) w (run-times p r e))

  -- the first window past the last is the run's end
  over-or-next : (j i : ℕ) → TurnOfPlan p j i → 1 ≤ p.jobs → (b : Bool) → leb (j + 1) p.last ≡ b → is_phase p.last p.jobs (Waiting (j + 1) 1) ≡ true
  unfolding is_phase
  over-or-next j i t h true x =
      waiting-is p (j + 1) 1
      (record { window-least = omega arith; window-most = leb-true (j + 1) p.last x; job-least = omega arith; job-most = h })
  over-or-next j i t h false x =
      or_with_true (is_turn p.last p.jobs (j + 1) 1) _
      (and-true _ _ (eq-eqb (j + 1) (p.last + 1) (omega (arith, leb-false (j + 1) p.last x, t.window-most))) (eq-eqb 1 1 refl))

  module _ (j i : ℕ) (s t : RunTime) (runs : r.phase ≡ Running j i s) (h : is_time t ≡ true) where
    abbrev seen : List ℤ
    seen = job_seen p.jobs (i - 1) s t r.seen

    on : TurnOfPlan p j i
    on = running-turn p r.phase j i s (run-phase p r e) runs

    seen-time : (k : ℕ) → first_seen p.jobs r.before ≤ k → k < events_before p (i - 1) + 2 → is_time (time_at seen k) ≡ true
    seen-time k l m =
        let before = subst (λ (f : Phase). SeenTo p r (job_of_phase f - 1)) runs (run-times p r e) in
        job_seen-time p.jobs (i - 1) s t r.seen k (running-time p r.phase j i s (run-phase p r e) runs) h (λ a b. before k l (omega arith))

    closed-by : (b : Bool) → ltb i p.jobs ≡ b
        → is_run p
        (cond b
        (record { phase = Waiting j (i + 1); before = r.before; seen = seen })
        (record { phase = Waiting (j + 1) 1; before = Window; seen = to_front (2 * p.jobs) seen }))
        ≡ true
    closed-by true x =
        let o = on in
        is_run-of p _
        (waiting-is p j (i + 1)
        (record {
          window-least = o.window-least;
          window-most = o.window-most;
          job-least = omega arith;
          job-most = omega (arith, ltb-true i p.jobs x);
        }))
        (λ k l m. seen-time k l (omega arith))
    closed-by false x =
        let o = on in
        let last = ltb-false i p.jobs x in
        is_run-of p _ (over-or-next j i o (omega arith) (leb (j + 1) p.last) refl)
        (λ k l m.
        front-time (2 * p.jobs) seen 0 (2 * p.jobs) k (omega arith) (omega arith)
        (λ d n. seen-time (2 * p.jobs + d) (omega (arith, first_seen-most p.jobs r.before)) (omega arith))
        (λ n. absurd (omega arith)))

    closed-keeps : is_run p (closed_since p.jobs r j i s t) ≡ true
    closed-keeps = closed-by (ltb i p.jobs) refl

  module _ (c : Calendar) (st : Step) (h : is_step st ≡ true) where
    moved_keeps : (a : Answer) → answer_of p c r st ≡ a → is_run p (moved p.jobs r a) ≡ true
    unfolding moved closed
    moved_keeps (Offered o) x = e
    moved_keeps (Started j i t) x =
        let k = answer-started _ _ _ r st j i t x in started-keeps j i t k.opens.waits k.opens.lasts (k.timed h)
    moved_keeps (Final j i t) x =
        let k = answer-final _ _ _ r st j i t x in
        let time : is_time t ≡ true = subst (λ (st : Step). is_step st ≡ true) k.step h in
        subst (λ (f : Phase). is_run p (closed p.jobs r t f) ≡ true) (sym k.runs) (closed-keeps j i k.since t k.runs time)
    moved_keeps (Refused x) y = e

    pub stepped-keeps : is_run p (stepped p c r st).run ≡ true
    stepped-keeps = moved_keeps (answer_of p c r st) refl

-- ---- steps on values

module _ (p : Plan) (c : Calendar) (r : Run) (st : Step) (inside : Inside p c r) where
  run-after : (b : Bool) → is_step st ≡ b → is_run p (step p c r st).run ≡ true
  run-after true e = subst (λ (a : Answered). is_run p a.run ≡ true) (sym (step-inside p c r st inside e)) (stepped-keeps p r inside.run c st e)
  run-after false e = subst (λ (a : Answered). is_run p a.run ≡ true) (sym (step-outside p c r st inside e)) inside.run

  pub step_keeps : Inside p c (step p c r st).run
  step_keeps = record { plan = inside.plan; calendar = inside.calendar; run = run-after (is_step st) refl }
