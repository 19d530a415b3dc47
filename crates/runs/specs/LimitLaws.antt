-- The limits as the code looks at them, one place after the other: the times that were seen (`are_times-more`), the phase and the run by their tests, and
-- whether something is wrong from one place on (`any_from`), which is how a side and a calendar are walked (`is_side-walk`, `is_calendar-walk`).
use Prim.Native.Nat.{ℕ, zero, suc, ◌+◌, ◌*◌, ◌-◌, ◌≤◌, ◌<◌}
use Rattle.std.specs.Prelude.{◌≡◌, refl, Bool, true, false, not, ◌&&◌, ◌||◌, List, eqb, ℤ, pos, get_or, ◌≤ℤ◌}
use Rattle.std.proofs.Common.{sym, ap, ap₂, ◌∙◌, add-zero, add-suc, suc-add, zero-add}
use Rattle.std.proofs.Math.Numerals.{add-one}
use native.Mathlib.Omega.{arith}
use Rattle.std.specs.Int.Signed.{le_z}
use Rattle.whole.specs.Rules.{whole}
use Rattle.clock.specs.declared.RunTime.{RunTime}
use Rattle.bounds.specs.Tables.{any_below}
use Rattle.plan.specs.declared.Plan.{Plan}
use Rattle.plan.specs.Limits.{least_c, greatest_c}
use Rattle.calendars.specs.declared.Terms.{Terms}
use Rattle.calendars.specs.declared.Calendar.{Calendar}
use Rattle.events.specs.Bits.{bits_of, is_below, most_events}
use Rattle.calendars.specs.Calendars.{events_ahead, events_before, no_terms}
use Rattle.runs.specs.declared.Phase.{Phase}
use Rattle.runs.specs.declared.Phase.TheVariants.{Waiting, Running}
use Rattle.runs.specs.declared.Run.{Run}
use Rattle.runs.specs.TestLaws.{and-of-true, and-of-false, or-of-true, or-of-false}
use Rattle.runs.specs.Seen.{time_at, first_seen}
use Rattle.runs.specs.ValueLimits.{is_time, are_times, is_turn, is_phase, job_of_phase, is_run, is_c, is_out, is_side, are_terms_of, is_calendar}

-- ---- times

module _ (seen : List ℤ) (e count : ℕ) where
  pub are_times-more : e < count → are_times seen e (count - e) ≡ (is_time (time_at seen e) && are_times seen (e + 1) (count - (e + 1)))
  unfolding are_times
  are_times-more h = let left : count - e ≡ suc (count - suc e) = omega arith in rw (left, add-one e)

  pub are_times-none : count ≤ e → are_times seen e (count - e) ≡ true
  unfolding are_times
  are_times-none h = let left : count - e ≡ 0 = omega arith in rw left

-- ---- the phase

module _ (last jobs : ℕ) (f : Phase) (j i : ℕ) where
  pub is_phase-turn : f ≡ Waiting j i → is_turn last jobs j i ≡ true → is_phase last jobs f ≡ true
  unfolding is_phase
  is_phase-turn e h = rw (e) (or-of-true (is_turn last jobs j i) _ h)

  pub is_phase-over : f ≡ Waiting j i → is_turn last jobs j i ≡ false → is_phase last jobs f ≡ (eqb j (last + 1) && eqb i 1)
  unfolding is_phase
  is_phase-over e h = rw (e) (or-of-false (is_turn last jobs j i) _ h)

  pub is_phase-running : (t : RunTime) → f ≡ Running j i t → is_turn last jobs j i ≡ true → is_phase last jobs f ≡ is_time t
  unfolding is_phase
  is_phase-running t e h = rw (e) (and-of-true (is_turn last jobs j i) _ h)

  pub is_phase-never : (t : RunTime) → f ≡ Running j i t → is_turn last jobs j i ≡ false → is_phase last jobs f ≡ false
  unfolding is_phase
  is_phase-never t e h = rw (e) (and-of-false (is_turn last jobs j i) _ h)

-- ---- the run

module _ (p : Plan) (r : Run) where
  pub is_run-phase : is_phase p.last p.jobs r.phase ≡ false → is_run p r ≡ false
  unfolding is_run
  is_run-phase h = rw (h)

  pub is_run-seen : is_phase p.last p.jobs r.phase ≡ true → (first count : ℕ) → first ≡ first_seen p.jobs r.before
      → count ≡ events_before p (job_of_phase r.phase - 1) → is_run p r ≡ are_times r.seen first (count - first)
  unfolding is_run
  is_run-seen h first count e f = rw (h, e, f)

-- ---- whether some place below a number

unfoldable pub any_from : (ℕ → Bool) → ℕ → ℕ → Bool
any_from f e zero = false
any_from f e (suc n) = f e || any_from f (suc e) n

any_below-same : (n : ℕ) (f g : ℕ → Bool) → ((k : ℕ) → f k ≡ g k) → any_below n f ≡ any_below n g
unfolding any_below
any_below-same zero f g h = refl
any_below-same (suc n) f g h = ap₂ (λ (a b : Bool). a || b) (h 0) (any_below-same n (λ k. f (suc k)) (λ k. g (suc k)) (λ k. h (suc k)))

any_below-from : (f : ℕ → Bool) (n e : ℕ) → any_below n (λ k. f (e + k)) ≡ any_from f e n
unfolding any_below any_from
any_below-from f zero e = refl
any_below-from f (suc n) e =
    ap₂ (λ (a b : Bool). a || b) (ap f (add-zero e))
    (any_below-same n (λ k. f (e + suc k)) (λ k. f (suc e + k)) (λ k. ap f (add-suc e k ∙ sym (suc-add e k))) ∙ any_below-from f n (suc e))

pub any_from-is : (f : ℕ → Bool) (n : ℕ) → any_below n f ≡ any_from f 0 n
any_from-is f n = any_below-same n f (λ k. f (0 + k)) (λ k. ap f (sym (zero-add k))) ∙ any_below-from f n 0

module _ (f : ℕ → Bool) where
  pub any_from-more : (n e : ℕ) → e < n → f e ≡ false → any_from f e (n - e) ≡ any_from f (e + 1) (n - (e + 1))
  unfolding any_from
  any_from-more n e h y = let left : n - e ≡ suc (n - suc e) = omega arith in rw (left, add-one e, y)

  pub any_from-found : (n e : ℕ) → e < n → f e ≡ true → any_from f e (n - e) ≡ true
  unfolding any_from
  any_from-found n e h y = let left : n - e ≡ suc (n - suc e) = omega arith in rw (left, y)

  pub any_from-none : (n e : ℕ) → n ≤ e → any_from f e (n - e) ≡ false
  unfolding any_from
  any_from-none n e h = let left : n - e ≡ 0 = omega arith in rw (left)

-- ---- one side of a job

pub is_c-in : (c : ℤ) → least_c ≤ℤ c → c ≤ℤ greatest_c → is_c c ≡ true
is_c-in c g h = let l : le_z least_c c ≡ true = omega whole in let k : le_z c greatest_c ≡ true = omega whole in rw (l, k)

-- whether something is wrong with event e
abbrev pub out_at : ℕ → ℕ → List ℤ → ℕ → Bool
out_at i set cs e = is_out set e (get_or cs (i * most_events + e) (pos 0))

module _ (jobs i set : ℕ) (cs : List ℤ) where
  pub is_side-past : is_below (events_ahead jobs i) set ≡ false → is_side jobs i set cs ≡ false
  unfolding is_side
  is_side-past h = rw h

  pub is_side-walk : is_below (events_ahead jobs i) set ≡ true → (b : Bool) → any_from (out_at i set cs) 0 (events_ahead jobs i) ≡ b → is_side jobs i set cs ≡ not b
  unfolding is_side
  is_side-walk h b e = rw (h, any_from-is (out_at i set cs) (events_ahead jobs i) ∙ e)

-- ---- the calendar

module _ (jobs i : ℕ) (t : Terms) (cs ds : List ℤ) where
  pub are_terms_of-low : is_c t.low.0 ≡ false → are_terms_of jobs i t cs ds ≡ false
  unfolding are_terms_of
  are_terms_of-low a = rw (a)

  pub are_terms_of-high : is_c t.low.0 ≡ true → is_c t.high.0 ≡ false → are_terms_of jobs i t cs ds ≡ false
  unfolding are_terms_of
  are_terms_of-high a b = rw (a, b)

  pub are_terms_of-below : is_c t.low.0 ≡ true → is_c t.high.0 ≡ true → is_side jobs i (bits_of t.below) cs ≡ false → are_terms_of jobs i t cs ds ≡ false
  unfolding are_terms_of
  are_terms_of-below a b k = rw (a, b, k)

  pub are_terms_of-above : is_c t.low.0 ≡ true → is_c t.high.0 ≡ true → is_side jobs i (bits_of t.below) cs ≡ true
      → are_terms_of jobs i t cs ds ≡ is_side jobs i (bits_of t.above) ds
  unfolding are_terms_of
  are_terms_of-above a b k = rw (a, b, k)

-- whether the terms of the job at place i are outside the limits
abbrev pub terms_out : ℕ → List Terms → List ℤ → List ℤ → ℕ → Bool
terms_out jobs ts cs ds i = not (are_terms_of jobs i (get_or ts i no_terms) cs ds)

pub is_calendar-walk : (p : Plan) (c : Calendar) (b : Bool) → any_from (terms_out p.jobs c.terms c.at_least c.at_most) 0 p.jobs ≡ b
    → is_calendar p c ≡ not b
unfolding is_calendar
is_calendar-walk p c b e = rw (any_from-is (terms_out p.jobs c.terms c.at_least c.at_most) p.jobs ∙ e)
