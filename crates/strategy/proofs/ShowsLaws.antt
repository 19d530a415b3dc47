-- What a run shows after a finish: its history with one job more. The window goes on (`goes_on`), or the next one begins (`next-begins`).
use Rattle.std.specs.Prelude.{ℕ, zero, suc, ◌+◌, ◌*◌, ◌-◌, ◌≤◌, ◌<◌, ◌≡◌, refl, List, [], ◌∷◌, ◌++◌, ℤ, length}
use Rattle.std.proofs.Common.{sym, ap, subst, ◌∙◌, ⊎_elim, add-one, arith, lt-ltb, le-ltb}
use Rattle.clock.specs.declared.RunTime.{RunTime}
use Rattle.plan.specs.declared.Plan.{Plan}
use Rattle.plan.specs.Limits.{most_jobs}
use Rattle.events.specs.Bits.{most_events}
use Rattle.calendars.specs.Calendars.{events_ahead}
use Rattle.runs.specs.declared.Phase.TheVariants.{Waiting}
use Rattle.runs.specs.declared.Phase.{Phase}
use Rattle.runs.specs.declared.Run.{Run}
use Rattle.runs.specs.Seen.{time_at, job_seen, to_front}
use Rattle.runs.specs.SeenLaws.{job_seen-start, job_seen-finish, job_seen-other, job_seen-length, to_front-at, to_front-length}
use Rattle.runs.specs.Steps.{closed_since}
use Rattle.strategy.specs.Histories.{Ran, History}
use Rattle.strategy.specs.Strategies.{ran_in}
use Rattle.strategy.proofs.EliminationLaws.{below-or-last}
use Rattle.strategy.proofs.HistoryLaws.{ran-old, ran-new}
use Rattle.strategy.proofs.RunLaws.{ShowsJob, ShowsPrevious, ShowsHistory}

module _ (p : Plan) (r : Run) (h : History) (j i : ℕ) (sh : ShowsHistory p r h j i) (few : p.jobs ≤ most_jobs) (low : i < p.jobs)
    (size : length h ≡ j * p.jobs + i) (since finish : RunTime) where
  abbrev q : Ran
  q = record { start = since.0; finish = finish.0 }

  abbrev h' : History
  h' = h ++ (q ∷ [])

  abbrev seen : List ℤ
  seen = job_seen p.jobs (suc i - 1) since finish r.seen

  here : suc i - 1 ≡ i
  here = omega arith

  room : (k : ℕ) → k < p.jobs + p.jobs → 1 + 2 * k < length r.seen
  room k l = omega (arith, sh.places)

  -- the job that has finished
  shows-new : ShowsJob seen (p.jobs + i) q
  shows-new =
      let n : events_ahead p.jobs (suc i - 1) ≡ 2 * (p.jobs + i) = ap (events_ahead p.jobs) here in
      let m : events_ahead p.jobs (suc i - 1) + 1 ≡ 1 + 2 * (p.jobs + i) = omega arith in
      let l = room (p.jobs + i) (omega arith) in
      record {
        start = ap (λ e. (time_at seen e).0) (sym n) ∙ ap (λ t. t.0) (job_seen-start p.jobs (suc i - 1) since finish r.seen (omega arith));
        finish = ap (λ e. (time_at seen e).0) (sym m) ∙ ap (λ t. t.0) (job_seen-finish p.jobs (suc i - 1) since finish r.seen (omega arith));
      }

  -- another one
  shows-old : (k : ℕ) (u : Ran) → (k ≡ p.jobs + i → ⊥) → ShowsJob r.seen k u → ShowsJob seen k u
  shows-old k u other s =
      record {
        start = ap (λ t. t.0) (job_seen-other p.jobs (suc i - 1) since finish r.seen (2 * k) (λ e. other (omega arith)) (λ e. omega arith)) ∙ s.start;
        finish = ap (λ t. t.0) (job_seen-other p.jobs (suc i - 1) since finish r.seen (1 + 2 * k) (λ e. omega arith) (λ e. other (omega arith)))
            ∙ s.finish;
      }

  present-more : (k : ℕ) → k < suc i → ShowsJob seen (p.jobs + k) (ran_in h' (j * p.jobs + k))
  present-more k l =
      ⊎_elim
      (λ (a : k < i).
      shows-old (p.jobs + k) _ (λ e. omega arith)
      (subst (ShowsJob r.seen (p.jobs + k)) (sym (ran-old h q (j * p.jobs + k) (omega arith))) (sh.present k a)))
      (λ (a : k ≡ i).
      subst (λ k. ShowsJob seen (p.jobs + k) (ran_in h' (j * p.jobs + k))) (sym a)
      (subst (ShowsJob seen (p.jobs + i)) (sym (ran-new h q (j * p.jobs + i) size)) shows-new))
      (below-or-last k i l)

  previous-stays : (f : Phase) (j' : ℕ) → j ≡ j' → ShowsPrevious p r h j' → ShowsPrevious p (record { phase = f; before = r.before; seen = seen }) h' j'
  previous-stays f zero e s = s
  previous-stays f (suc j') e s = (
    s.0,
    λ k l.
        let b : j * p.jobs ≡ suc j' * p.jobs = ap (λ j. j * p.jobs) e in
        shows-old k _ (λ x. omega arith) (subst (ShowsJob r.seen k) (sym (ran-old h q (j' * p.jobs + k) (omega arith))) (s.1 k l)),
  )

  -- the window goes on
  pub goes_on : suc i < p.jobs → let after = closed_since p.jobs r (suc j) (suc i) since finish in
      (after.phase ≡ Waiting (suc j) (suc (suc i))) × ShowsHistory p after h' j (suc i)
  goes_on l =
      rw (lt-ltb (suc i) p.jobs l) (
        ap (Waiting (suc j)) (add-one (suc i)),
        record {
          places = job_seen-length p.jobs (suc i - 1) since finish r.seen ∙ sh.places;
          present = present-more;
          previous = previous-stays (Waiting (suc j) (suc i + 1)) j refl sh.previous;
        },
      )

  -- the present window's jobs at the places of the previous one
  shows-front : (k : ℕ) (u : Ran) → k < p.jobs → ShowsJob seen (p.jobs + k) u → ShowsJob (to_front (2 * p.jobs) seen) k u
  shows-front k u l s =
      let long : length seen ≡ most_events = job_seen-length p.jobs (suc i - 1) since finish r.seen ∙ sh.places in
      let a : 2 * p.jobs + 2 * k ≡ 2 * (p.jobs + k) = omega arith in
      let b : 2 * p.jobs + (1 + 2 * k) ≡ 1 + 2 * (p.jobs + k) = omega arith in
      record {
        start = ap (λ t. t.0) (to_front-at (2 * p.jobs) seen (omega arith) (2 * k) (omega arith) ∙ ap (time_at seen) a) ∙ s.start;
        finish = ap (λ t. t.0) (to_front-at (2 * p.jobs) seen (omega arith) (1 + 2 * k) (omega arith) ∙ ap (time_at seen) b) ∙ s.finish;
      }

  -- the next window begins
  pub next-begins : suc i ≡ p.jobs → let after = closed_since p.jobs r (suc j) (suc i) since finish in
      (after.phase ≡ Waiting (suc (suc j)) 1) × ShowsHistory p after h' (suc j) 0
  next-begins e =
      rw (le-ltb (suc i) p.jobs (omega arith)) (
        ap (λ j. Waiting j 1) (add-one (suc j)),
        record {
          places = to_front-length (2 * p.jobs) seen ∙ job_seen-length p.jobs (suc i - 1) since finish r.seen ∙ sh.places;
          present = λ k l. absurd (omega arith);
          previous = (refl, λ k l. shows-front k _ l (present-more k (omega arith)));
        },
      )
