-- What a run has seen, place by place. A job that was seen is there at its two places (`job_seen-start`, `job_seen-finish`), and no other place has moved
-- (`job_seen-other`). At a window's end each place of the previous window holds what that of the present window held (`to_front-at`), which a loop does one
-- place after the other, as a loop does it (`front-more`, `front-none`), and as a copy of them
-- all at once does (`to_front-copied`). No place is lost (`job_seen-length`, `to_front-length`).
use Prim.Native.Nat.{ℕ, zero, suc, ◌+◌, ◌*◌, ◌-◌, ◌≤◌, ◌<◌}
use Rattle.std.specs.Prelude.{◌≡◌, Bool, true, false, List, leb, ℤ, pos, length, get_or}
use Rattle.std.specs.List.{CopiedTo, SameFrom}
use Rattle.std.proofs.lemmas.List.{ext_get_or}
use Rattle.std.proofs.Math.Path.{refl, ap}
use Rattle.std.proofs.Common.{add-one, leb-true, leb-false, sym, ◌∙◌, get_or-set_same, get_or-set_other}
use Rattle.std.proofs.Math.Logic.{⊎_elim}
use native.Mathlib.Omega.{arith}
use Rattle.std.proofs.Math.ListN.{length-set}
use Rattle.clock.specs.declared.RunTime.{RunTime}
use Rattle.calendars.specs.Calendars.{events_ahead}
use Rattle.runs.specs.declared.Before.{Before}
use Rattle.runs.specs.declared.Before.TheVariants.{Nothing, Window}
use Rattle.runs.specs.TestLaws.{here-or-later}
use Rattle.runs.specs.Seen.{time_at, time_put, first_seen, job_seen, front_from, to_front}

-- ---- one place

module _ (seen : List ℤ) (e : ℕ) where
  time_put-same : (t : RunTime) → e < length seen → time_at (time_put seen e t) e ≡ t
  time_put-same t h = ap (λ (z : ℤ). record { 0 = z }) (get_or-set_same seen e t.0 (pos 0) h)

  time_put-other : (k : ℕ) (t : RunTime) → (k ≡ e → ⊥) → time_at (time_put seen e t) k ≡ time_at seen k
  time_put-other k t h = ap (λ (z : ℤ). record { 0 = z }) (get_or-set_other seen e k t.0 (pos 0) h)

-- ---- the first event seen

pub first_seen-most : (jobs : ℕ) (b : Before) → first_seen jobs b ≤ 2 * jobs
first_seen-most jobs Nothing = omega arith
first_seen-most jobs Window = omega arith

-- ---- the end of a window

module _ (n : ℕ) where
  pub front-more : (seen : List ℤ) (e : ℕ) → e < n → front_from n e (n - e) seen ≡ front_from n (e + 1) (n - (e + 1)) (time_put seen e (time_at seen (n + e)))
  unfolding front_from
  front-more seen e h = let left : n - e ≡ suc (n - suc e) = omega arith in rw (left, add-one e)

  pub front-none : (seen : List ℤ) (e : ℕ) → n ≤ e → front_from n e (n - e) seen ≡ seen
  unfolding front_from
  front-none seen e h = let left : n - e ≡ 0 = omega arith in rw left

  front_length : (seen : List ℤ) (e left : ℕ) → length (front_from n e left seen) ≡ length seen
  unfolding front_from
  front_length seen e zero = refl
  front_length seen e (suc left) = front_length (time_put seen e (time_at seen (n + e))) (suc e) left ∙ length-set seen e (time_at seen (n + e)).0

  front-behind : (seen : List ℤ) (e left k : ℕ) → k < e → time_at (front_from n e left seen) k ≡ time_at seen k
  unfolding front_from
  front-behind seen e zero k h = refl
  front-behind seen e (suc left) k h =
      front-behind (time_put seen e (time_at seen (n + e))) (suc e) left k (omega arith) ∙ time_put-other seen e k _ (λ x. omega arith)

  front_at : (seen : List ℤ) (e left k : ℕ) → e + left ≤ n → e ≤ k → k < e + left → n ≤ length seen → time_at (front_from n e left seen) k ≡ time_at seen (n + k)
  unfolding front_from
  front_at seen e zero k most from to long = absurd (omega arith)
  front_at seen e (suc left) k most from to long =
      let size = length-set seen e (time_at seen (n + e)).0 in
      ⊎_elim
      (λ (here : k ≡ e).
      front-behind (time_put seen e (time_at seen (n + e))) (suc e) left k (omega arith)
      ∙ ap (time_at (time_put seen e (time_at seen (n + e)))) here
      ∙ time_put-same seen e (time_at seen (n + e)) (omega arith)
      ∙ ap (λ (j : ℕ). time_at seen (n + j)) (sym here))
      (λ (later : suc e ≤ k).
      front_at (time_put seen e (time_at seen (n + e))) (suc e) left k (omega arith) later (omega arith) (omega arith)
      ∙ time_put-other seen e (n + k) _ (λ y. omega arith))
      (here-or-later e k from)

  front-beyond : (seen : List ℤ) (e left k : ℕ) → e + left ≤ k → time_at (front_from n e left seen) k ≡ time_at seen k
  unfolding front_from
  front-beyond seen e zero k h = refl
  front-beyond seen e (suc left) k h =
      front-beyond (time_put seen e (time_at seen (n + e))) (suc e) left k (omega arith) ∙ time_put-other seen e k _ (λ x. omega arith)

  pub to_front-at : (seen : List ℤ) → n ≤ length seen → (e : ℕ) → e < n → time_at (to_front n seen) e ≡ time_at seen (n + e)
  to_front-at seen long e h = front_at seen 0 n e (omega arith) (omega arith) (omega arith) long

  pub to_front-length : (seen : List ℤ) → length (to_front n seen) ≡ length seen
  to_front-length seen = front_length seen 0 n

  -- what a copy of m places to the front makes, where they are n
  pub to_front-copied : (seen after : List ℤ) (m : ℕ) → m ≡ n → n + n ≤ length seen → length after ≡ length seen → CopiedTo seen after n 0 m
      → SameFrom seen after (0 + m) → after ≡ to_front n seen
  to_front-copied seen after m size room long copied same =
      ext_get_or (pos 0) after (to_front n seen) (long ∙ sym (to_front-length seen)) (λ k h. by k (leb (suc k) n) refl)
    where
      by : (k : ℕ) (b : Bool) → leb (suc k) n ≡ b → get_or after k (pos 0) ≡ get_or (to_front n seen) k (pos 0)
      by k true e =
          let below : k < n = leb-true (suc k) n e in
          let left : k - 0 ≡ k = omega arith in
          copied k (pos 0) (omega arith) (omega arith)
          ∙ ap (λ (j : ℕ). get_or seen (n + j) (pos 0)) left
          ∙ sym (ap (λ t. t.0) (to_front-at seen (omega arith) k below))
      by k false e =
          let beyond : n ≤ k = omega (arith, leb-false (suc k) n e) in
          same k (pos 0) (omega arith) ∙ sym (ap (λ t. t.0) (front-beyond seen 0 n k (omega arith)))

-- ---- a job that was seen

module _ (jobs i : ℕ) (start finish : RunTime) (seen : List ℤ) where
  pub job_seen-length : length (job_seen jobs i start finish seen) ≡ length seen
  unfolding job_seen
  job_seen-length = length-set (time_put seen (events_ahead jobs i) start) (events_ahead jobs i + 1) finish.0 ∙ length-set seen (events_ahead jobs i) start.0

  pub job_seen-other : (e : ℕ) → (e ≡ events_ahead jobs i → ⊥) → (e ≡ events_ahead jobs i + 1 → ⊥)
      → time_at (job_seen jobs i start finish seen) e ≡ time_at seen e
  unfolding job_seen
  job_seen-other e a b =
      time_put-other (time_put seen (events_ahead jobs i) start) (events_ahead jobs i + 1) e finish b
      ∙ time_put-other seen (events_ahead jobs i) e start a

  module _ (room : events_ahead jobs i + 1 < length seen) where
    pub job_seen-start : time_at (job_seen jobs i start finish seen) (events_ahead jobs i) ≡ start
    unfolding job_seen
    job_seen-start =
        time_put-other (time_put seen (events_ahead jobs i) start) (events_ahead jobs i + 1) (events_ahead jobs i) finish (λ e. omega arith)
        ∙ time_put-same seen (events_ahead jobs i) start (omega arith)

    pub job_seen-finish : time_at (job_seen jobs i start finish seen) (events_ahead jobs i + 1) ≡ finish
    unfolding job_seen
    job_seen-finish =
        time_put-same (time_put seen (events_ahead jobs i) start) (events_ahead jobs i + 1) finish
        (omega (arith, length-set seen (events_ahead jobs i) start.0))
