-- Of a plan, a calendar and a run inside their limits nothing that a step adds up wraps (`inside-step`), nor what a move does (`inside-move`), and no job has
-- a place past the last (`inside-job`).
use Rattle.std.specs.Prelude.{ℕ, zero, suc, ◌+◌, ◌*◌, ◌-◌, ◌≤◌, ◌<◌, ◌≡◌, refl, ◌⊎◌, Bool, true, false, not, ◌&&◌, List, eqb, leb, ℤ, pos, ◌+ℤ◌, get_or, ◌≤ℤ◌}
use Rattle.std.proofs.Common.{sym, ap, subst, ◌∙◌, inl, inr, ⊎_elim, arith, leb-true, eqb-true, ne_eqb, SFits}
use Rattle.std.specs.Int.Signed.{le_z}
use Rattle.std.proofs.lemmas.Bool.{not-true, not-false}
use Rattle.std.specs.Int.{w64}
use Rattle.whole.specs.Rules.{whole, wholes}
use Rattle.whole.specs.Order.{le_z-true-iff}
use Rattle.clock.specs.declared.RunTime.{RunTime}
use Rattle.clock.specs.Spans.{NearBeginning}
use Rattle.plan.specs.declared.Plan.{Plan}
use Rattle.plan.specs.Limits.{least_c, greatest_c, most_jobs}
use Rattle.bounds.specs.BuildLaws.{any_below-none}
use Rattle.calendars.specs.declared.Terms.{Terms}
use Rattle.calendars.specs.declared.Calendar.{Calendar}
use Rattle.events.specs.Bits.{bits_of, has_event, is_below, most_events}
use Rattle.calendars.specs.Calendars.{events_before}
use Rattle.runs.specs.declared.Phase.{Phase}
use Rattle.runs.specs.declared.Phase.TheVariants.{Waiting, Running}
use Rattle.runs.specs.declared.Run.{Run}
use Rattle.runs.specs.Seen.{time_at, first_seen}
use Rattle.runs.specs.ValueLimits.{last_time, is_time, are_times, is_turn, is_phase, job_of_phase, is_run, is_c, is_out, is_side, are_terms_of, are_terms, is_calendar}
use Rattle.runs.specs.TestLaws.{here-or-later, and_left, and_right, and-not, or_left}
use Rattle.runs.specs.Offers.{Turn, turn_of}
use Rattle.runs.specs.Inside.{Inside, TermsFit, OfferInside, FinishInside, StepInside, MoveInside}

-- ---- what has its times, and a c in range

is_c-near : (c : ℤ) → is_c c ≡ true → NearBeginning c
is_c-near c e =
    record { least = (le_z-true-iff least_c c).0 (and_left _ _ e); greatest = (le_z-true-iff c greatest_c).0 (and_right (le_z least_c c) _ e) }

record TimeInRange (z : ℤ) : Type 0 where
  least : pos 0 ≤ℤ z
  greatest : z ≤ℤ last_time

is_time-timed : (t : RunTime) → is_time t ≡ true → TimeInRange t.0
is_time-timed t e =
    record {
      least = (le_z-true-iff (pos 0) t.0).0 (and_left _ _ e);
      greatest = (le_z-true-iff t.0 last_time).0 (and_right (le_z (pos 0) t.0) _ e);
    }

-- every event that a run has seen has its time
pub are_times-at : (seen : List ℤ) (e n : ℕ) → are_times seen e n ≡ true → (k : ℕ) → e ≤ k → k < e + n → is_time (time_at seen k) ≡ true
unfolding are_times
are_times-at seen e zero h k from to = absurd (omega arith)
are_times-at seen e (suc n) h k from to =
    ⊎_elim (λ (here : k ≡ e). rw here (and_left _ _ h))
    (λ (later : suc e ≤ k). are_times-at seen (suc e) n (and_right (is_time (time_at seen e)) _ h) k later (omega arith))
    (here-or-later e k from)

term_fits : (t c : ℤ) → TimeInRange t → NearBeginning c → SFits w64 (t +ℤ c)
term_fits t c p q = omega wholes

-- ---- one side

-- every c that the set names from one place on is in range
record NamedNear (set : ℕ) (cs : List ℤ) (at count : ℕ) : Type 0 where
  near : (k : ℕ) → k < count → has_event k set ≡ true → NearBeginning (get_or cs (at + k) (pos 0))

side-named : (p : Plan) (i set : ℕ) (cs : List ℤ) → is_side p.jobs i set cs ≡ true → NamedNear set cs (i * most_events) (events_before p i)
unfolding is_side
side-named p i set cs e =
    record {
      near = λ k l m.
          is_c-near _
          (and-not (has_event k set) _
          (any_below-none (events_before p i) (λ e. is_out set e (get_or cs (i * most_events + e) (pos 0)))
          (not-true _ (and_right (is_below (events_before p i) set) _ e)) k l) m);
    }

terms-fit : (p : Plan) (r : Run) (i set : ℕ) (cs : List ℤ) → NamedNear set cs (i * most_events) (events_before p i)
    → are_times r.seen (first_seen p.jobs r.before) (events_before p i - first_seen p.jobs r.before) ≡ true
    → TermsFit r.seen set cs (i * most_events) (first_seen p.jobs r.before) (events_before p i)
terms-fit p r i set cs n t =
    record {
      fit = λ e from to m.
          let z = is_time-timed (time_at r.seen e) (are_times-at r.seen _ _ t e from (omega arith)) in
          term_fits _ _ z (n.near e to m);
    }

-- ---- the run

module _ (p : Plan) (r : Run) (e : is_run p r ≡ true) where
  pub run-phase : is_phase p.last p.jobs r.phase ≡ true
  unfolding is_run
  run-phase = and_left _ _ e

  pub run-seen : are_times r.seen (first_seen p.jobs r.before) (events_before p (job_of_phase r.phase - 1) - first_seen p.jobs r.before) ≡ true
  unfolding is_run
  run-seen = and_right (is_phase p.last p.jobs r.phase) _ e

pub record TurnOfPlan (p : Plan) (j i : ℕ) : Type 0 where
  pub window-least : 1 ≤ j
  pub window-most : j ≤ p.last
  pub job-least : 1 ≤ i
  pub job-most : i ≤ p.jobs

turn-of : (p : Plan) (j i : ℕ) → is_turn p.last p.jobs j i ≡ true → TurnOfPlan p j i
turn-of p j i e =
    let windows = and_left (leb 1 j && leb j p.last) _ e in
    let jobs = and_right (leb 1 j && leb j p.last) _ e in
    record {
      window-least = leb-true 1 j (and_left _ _ windows);
      window-most = leb-true j p.last (and_right (leb 1 j) _ windows);
      job-least = leb-true 1 i (and_left _ _ jobs);
      job-most = leb-true i p.jobs (and_right (leb 1 i) _ jobs);
    }

pub waiting-turn : (p : Plan) (f : Phase) (j i : ℕ) → is_phase p.last p.jobs f ≡ true → f ≡ Waiting j i → j ≤ p.last → TurnOfPlan p j i
unfolding is_phase
waiting-turn p f j i h e l =
    let w : is_phase p.last p.jobs (Waiting j i) ≡ true = ap (is_phase p.last p.jobs) (sym e) ∙ h in
    turn-of p j i (or_left (is_turn p.last p.jobs j i) _ w (rw (ne_eqb j (p.last + 1) (λ x. omega arith))))

pub running-turn : (p : Plan) (f : Phase) (j i : ℕ) (t : RunTime) → is_phase p.last p.jobs f ≡ true → f ≡ Running j i t → TurnOfPlan p j i
unfolding is_phase
running-turn p f j i t h e =
    let w : is_phase p.last p.jobs (Running j i t) ≡ true = ap (is_phase p.last p.jobs) (sym e) ∙ h in
    turn-of p j i (and_left (is_turn p.last p.jobs j i) _ w)

pub running-time : (p : Plan) (f : Phase) (j i : ℕ) (t : RunTime) → is_phase p.last p.jobs f ≡ true → f ≡ Running j i t → is_time t ≡ true
unfolding is_phase
running-time p f j i t h e =
    let w : is_phase p.last p.jobs (Running j i t) ≡ true = ap (is_phase p.last p.jobs) (sym e) ∙ h in and_right (is_turn p.last p.jobs j i) _ w

record RunsSince (p : Plan) (j i : ℕ) (t : RunTime) : Type 0 where
  turn : TurnOfPlan p j i
  timed : TimeInRange t.0

running-since : (p : Plan) (f : Phase) (j i : ℕ) (t : RunTime) → is_phase p.last p.jobs f ≡ true → f ≡ Running j i t → RunsSince p j i t
running-since p f j i t h e = record { turn = running-turn p f j i t h e; timed = is_time-timed t (running-time p f j i t h e) }

-- ---- the calendar

record TermsInside (p : Plan) (i : ℕ) (t : Terms) (cs ds : List ℤ) : Type 0 where
  low : NearBeginning t.low.0
  high : NearBeginning t.high.0
  lower : NamedNear (bits_of t.below) cs (i * most_events) (events_before p i)
  upper : NamedNear (bits_of t.above) ds (i * most_events) (events_before p i)

terms-inside : (p : Plan) (i : ℕ) (t : Terms) (cs ds : List ℤ) → are_terms_of p.jobs i t cs ds ≡ true → TermsInside p i t cs ds
unfolding are_terms_of
terms-inside p i t cs ds e =
    let three = and_left (is_c t.low.0 && is_c t.high.0 && is_side p.jobs i (bits_of t.below) cs) _ e in
    let two = and_left (is_c t.low.0 && is_c t.high.0) _ three in
    record {
      low = is_c-near _ (and_left _ _ two);
      high = is_c-near _ (and_right (is_c t.low.0) _ two);
      lower = side-named p i (bits_of t.below) cs (and_right (is_c t.low.0 && is_c t.high.0) _ three);
      upper = side-named p i (bits_of t.above) ds (and_right (is_c t.low.0 && is_c t.high.0 && is_side p.jobs i (bits_of t.below) cs) _ e);
    }

calendar-terms : (p : Plan) (c : Calendar) → is_calendar p c ≡ true → (i : ℕ) → i < p.jobs → are_terms p c i ≡ true
unfolding is_calendar
calendar-terms p c e i h = not-false _ (any_below-none p.jobs (λ i. not (are_terms p c i)) (not-true _ e) i h)

-- ---- the phase

-- the job of a phase is one of the plan's, or the first where the run is over
phase-job : (p : Plan) (f : Phase) → is_phase p.last p.jobs f ≡ true → (job_of_phase f ≤ p.jobs) ⊎ (job_of_phase f ≡ 1)
unfolding is_phase
phase-job p (Waiting j i) e = go (is_turn p.last p.jobs j i) refl
  where
    go : (b : Bool) → is_turn p.last p.jobs j i ≡ b → (i ≤ p.jobs) ⊎ (i ≡ 1)
    go true x = inl (turn-of p j i x).job-most
    go false x = let over : (eqb j (p.last + 1) && eqb i 1) ≡ true = (rw (x) at e) in inr (eqb-true i 1 (and_right (eqb j (p.last + 1)) _ over))
phase-job p (Running j i t) e = inl (turn-of p j i (and_left (is_turn p.last p.jobs j i) _ e)).job-most

-- no more jobs have finished in the present window than it has
pub phase_done : (p : Plan) (f : Phase) → is_phase p.last p.jobs f ≡ true → job_of_phase f - 1 ≤ p.jobs
phase_done p f e = ⊎_elim (λ (h : job_of_phase f ≤ p.jobs). omega arith) (λ (h : job_of_phase f ≡ 1). omega arith) (phase-job p f e)

-- ---- a step

module _ (p : Plan) (c : Calendar) (r : Run) (h : Inside p c r) where
  abbrev place : ℕ
  place = job_of_phase r.phase - 1

  abbrev turn : Turn
  turn = turn_of p c (job_of_phase r.phase)

  offer-inside : (j i : ℕ) → job_of_phase r.phase ≡ i → TurnOfPlan p j i → OfferInside turn c.at_least c.at_most r j i
  offer-inside j i e t =
      let inside = terms-inside p place _ c.at_least c.at_most (calendar-terms p c h.calendar place (omega arith)) in
      let seen = run-seen p r h.run in
      let fits : (set : ℕ) (cs : List ℤ) → NamedNear set cs (place * most_events) (events_before p place)
      → TermsFit r.seen set cs ((i - 1) * most_events) (first_seen p.jobs r.before) (events_before p (i - 1)) =
      λ set cs n.
      subst (λ (k : ℕ). TermsFit r.seen set cs ((k - 1) * most_events) (first_seen p.jobs r.before) (events_before p (k - 1))) e
      (terms-fit p r place set cs n seen) in
      let a = h.plan in
      record {
        spanned = record { least = omega whole; greatest = omega whole; first = t.window-least; last = omega arith };
        low = inside.low;
        high = inside.high;
        jobs-most = a.jobs-most;
        job-least = t.job-least;
        job-most = t.job-most;
        lower = fits _ _ inside.lower;
        upper = fits _ _ inside.upper;
      }

  finish-inside : (j i : ℕ) (t : RunTime) → job_of_phase r.phase ≡ i → RunsSince p j i t → FinishInside turn.job t
  finish-inside j i t e s =
      let a = h.plan in
      let u = s.turn in
      let limits = a.job-at place (omega arith) in
      record {
        start-least = s.timed.least;
        start-most = s.timed.greatest;
        min = record { least = omega whole; greatest = omega whole };
        max = record { least = omega whole; greatest = omega whole };
      }

  pub inside-step : StepInside turn c.at_least c.at_most r
  inside-step =
      record {
        waiting = λ j i e l. offer-inside j i (ap job_of_phase e) (waiting-turn p r.phase j i (run-phase p r h.run) e l);
        running = λ j i t e. finish-inside j i t (ap job_of_phase e) (running-since p r.phase j i t (run-phase p r h.run) e);
      }

  pub inside-move : MoveInside p.jobs r.phase
  inside-move =
      record {
        running = λ j i t e.
            let u = running-turn p r.phase j i t (run-phase p r h.run) e in
            let a = h.plan in
            record { window-most = omega arith; jobs-most = a.jobs-most; job-least = u.job-least; job-most = u.job-most };
      }

  pub inside-job : job_of_phase r.phase ≤ most_jobs
  inside-job =
      let a = h.plan in
      ⊎_elim (λ (l : job_of_phase r.phase ≤ p.jobs). omega arith) (λ (l : job_of_phase r.phase ≡ 1). omega arith)
      (phase-job p r.phase (run-phase p r h.run))
