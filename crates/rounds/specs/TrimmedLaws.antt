-- The places beyond a plan's jobs and bounds are no part of it: nothing that decides reads them. Two plans that differ in such places alone have the same jobs
-- (`job_at-agrees`), judge every bound alike (`judged_set-agrees`), eliminate alike (`eliminated-agrees`), begin alike (`C0-agrees`), join alike
-- (`joined-agrees`) and come to one outcome (`outcome-agrees`). So an accepted plan and the same plan with zeros in these places do (`trimmed-agrees`,
-- `outcome-trimmed`).
use Prim.Native.Nat.{ℕ, zero, suc, ◌+◌, ◌-◌, ◌/◌, ◌%◌, ◌≤◌, ◌<◌}
use Rattle.std.specs.Prelude.{◌≡◌, Bool, eqb, ℤ, length, take}
use Rattle.std.proofs.Math.Path.{refl, ap, ap₂}
use Rattle.std.proofs.Common.{◌∙◌, length-take}
use Rattle.std.proofs.Math.Bool.{true, false, cond}
use mathlib.Core.List.{List, [], ◌∷◌, ◌++◌}
use native.Mathlib.Omega.{arith}
use Rattle.std.proofs.Math.ListN.{get_or}
use borrow.Author.Tests.{ltb-true, ltb-false}
use Rattle.plan.specs.declared.Letter.{Letter}
use Rattle.plan.specs.declared.Letter.TheVariants.{This, Next}
use Rattle.plan.specs.declared.Job.{Job}
use Rattle.plan.specs.declared.Bound.{Bound}
use Rattle.plan.specs.declared.Plan.{Plan}
use Rattle.plan.specs.Limits.{most_jobs, most_bounds}
use Rattle.plan.specs.PlanLines.{no_job, no_bound, filled}
use Rattle.plan.specs.PlanWritten.{jobs_of, bounds_of, trimmed}
use Rattle.plan.specs.Accepted.{Accepted}
use Rattle.plan.specs.ListLaws.{filled_at, filled-all}
use Rattle.bounds.specs.declared.Event.{Event}
use Rattle.bounds.specs.declared.Event.TheVariants.{Origin, Start, Finish}
use Rattle.bounds.specs.declared.Judgement.{Judgement}
use Rattle.bounds.specs.Events.{is_this, job_at, shift, earliest, latest, start_node, finish_node, event_of, nodes}
use Rattle.bounds.specs.Judgements.{judged}
use Rattle.bounds.specs.Tables.{
  Cell,
  off,
  upto,
  lesser_cell,
  Rows,
  at,
  build,
  Between,
  least_of,
  judgement,
  is_contradiction,
  kept_cell,
  Set,
  contradiction,
  bounds,
  contradicts,
  kept_rows,
  judged_set,
}
use Rattle.bounds.specs.TablesLaws.{any_below-ext, build-ext, judged_set-ext}
use Rattle.bounds.specs.Elimination.{finish_cell, without_finish, without_start, then_set, without_place, eliminated}
use Rattle.rounds.specs.Given.{place_of, meant, has_next, given_bounds, ranges, orders, own_bounds, in_order, between_bounds}
use Rattle.rounds.specs.Rounds.{C0, on_next, joined, round, fails_alone, is_contradictory, Outcome, decided, rounds_from, outcome_from, outcome}

-- the same plan with other lists of jobs and bounds
abbrev pub with_places : Plan → List Job → List Bound → Plan
with_places p job bound =
    record { window = p.window; rounds = p.rounds; last = p.last; jobs = p.jobs; job = job; bounds = p.bounds; bound = bound }

-- lists that hold the plan's jobs and bounds at their first places
pub record SamePlaces (p : Plan) (job : List Job) (bound : List Bound) : Type 0 where
  pub job-at : (i : ℕ) → i < p.jobs → get_or job i no_job ≡ get_or p.job i no_job
  pub bounds-of : take p.bounds bound ≡ bounds_of p

pub then_set-same : {s u : Set} {f g : Rows → Set} → s ≡ u → ((t : Rows) → f t ≡ g t) → then_set s f ≡ then_set u g
unfolding then_set
then_set-same {s} {u} {f} {g} e h = ap (λ (x : Set). then_set x f) e ∙ of u
  where
    of : (x : Set) → then_set x f ≡ then_set x g
    of contradiction = refl
    of (bounds t) = h t

module _ (p : Plan) (job : List Job) (bound : List Bound) (same : SamePlaces p job bound) where
  abbrev q : Plan
  q = with_places p job bound

  -- ---- jobs, and the judgement of a bound

  job_at-agrees : (k : ℕ) → k < p.jobs + p.jobs → job_at q k ≡ job_at p k
  unfolding job_at
  job_at-agrees k h = of (is_this p k) refl
    where
      of : (b : Bool) → is_this p k ≡ b → get_or job (cond b k (k - p.jobs)) no_job ≡ get_or p.job (cond b k (k - p.jobs)) no_job
      of true e = same.job-at k (ltb-true k p.jobs e)
      of false e = same.job-at (k - p.jobs) (let l = ltb-false k p.jobs e in omega arith)

  -- an event of this window or of the next
  abbrev Near : Event → Type 0
  Near Origin = Unit
  Near (Start k) = k < p.jobs + p.jobs
  Near (Finish k) = k < p.jobs + p.jobs

  earliest-agrees : (e : Event) → Near e → earliest q e ≡ earliest p e
  unfolding earliest shift
  earliest-agrees Origin h = refl
  earliest-agrees (Start k) h = rw (job_at-agrees k h)
  earliest-agrees (Finish k) h = rw (job_at-agrees k h)

  latest-agrees : (e : Event) → Near e → latest q e ≡ latest p e
  unfolding latest shift
  latest-agrees Origin h = refl
  latest-agrees (Start k) h = rw (job_at-agrees k h)
  latest-agrees (Finish k) h = rw (job_at-agrees k h)

  judged-agrees : (y z : Event) (w : ℤ) → Near y → Near z → judged q y z w ≡ judged p y z w
  unfolding judged
  judged-agrees Origin Origin w g h = refl
  judged-agrees Origin (Start k) w g h = rw (earliest-agrees (Start k) h, latest-agrees Origin g)
  judged-agrees Origin (Finish k) w g h = rw (earliest-agrees (Finish k) h, latest-agrees Origin g)
  judged-agrees (Start j) Origin w g h = rw (earliest-agrees Origin h, latest-agrees (Start j) g)
  judged-agrees (Start j) (Start k) w g h = rw (earliest-agrees (Start j) g, latest-agrees (Start j) g, earliest-agrees (Start k) h, latest-agrees (Start k) h)
  judged-agrees (Start j) (Finish k) w g h =
      rw (earliest-agrees (Start j) g, latest-agrees (Start j) g, earliest-agrees (Finish k) h, latest-agrees (Finish k) h, job_at-agrees k h)
  judged-agrees (Finish j) Origin w g h = rw (earliest-agrees Origin h, latest-agrees (Finish j) g)
  judged-agrees (Finish j) (Start k) w g h =
      rw (earliest-agrees (Finish j) g, latest-agrees (Finish j) g, earliest-agrees (Start k) h, latest-agrees (Start k) h, job_at-agrees k h)
  judged-agrees (Finish j) (Finish k) w g h = rw (
    earliest-agrees (Finish j) g,
    latest-agrees (Finish j) g,
    earliest-agrees (Finish k) h,
    latest-agrees (Finish k) h,
  )

  near : (y : ℕ) → y < nodes (p.jobs + p.jobs) → Near (event_of y)
  unfolding event_of
  near zero h = tt
  near (suc m) h = of (eqb (m % 2) 0)
    where
      of : (b : Bool) → Near (cond b (Start (m / 2)) (Finish (m / 2)))
      of true = omega arith
      of false = omega arith

  judgement-agrees : (y z : ℕ) (c : Cell) → y < nodes (p.jobs + p.jobs) → z < nodes (p.jobs + p.jobs) → judgement q y z c ≡ judgement p y z c
  unfolding judgement
  judgement-agrees y z off g h = refl
  judgement-agrees y z (upto w) g h = judged-agrees (event_of y) (event_of z) w (near y g) (near z h)

  judged_set-agrees : (k : ℕ) (f : ℕ → ℕ → Cell) → k ≤ nodes (p.jobs + p.jobs) → judged_set q k f ≡ judged_set p k f
  unfolding judged_set contradicts kept_rows
  judged_set-agrees k f l =
      let t = build k f in
      let same-judged : (y z : ℕ) → y < k → z < k → judgement q y z (at t y z) ≡ judgement p y z (at t y z) =
      λ y z a b. judgement-agrees y z (at t y z) (omega arith) (omega arith) in
      ap₂ (λ (b : Bool) (u : Rows). cond b contradiction (bounds u))
      (any_below-ext k _ _ (λ y a. any_below-ext k _ _ (λ z b. ap is_contradiction (same-judged y z a b))))
      (build-ext k _ _ (λ y z a b. ap (λ (d : Judgement). kept_cell d (at t y z)) (same-judged y z a b)))

  -- ---- elimination

  finish_cell-agrees : (k : ℕ) (t : Rows) (y z : ℕ) → k < p.jobs + p.jobs → finish_cell q k t y z ≡ finish_cell p k t y z
  unfolding finish_cell
  finish_cell-agrees k t y z h = rw (job_at-agrees k h)

  pub without_finish-agrees : (k : ℕ) (t : Rows) → k < p.jobs + p.jobs → without_finish q k t ≡ without_finish p k t
  without_finish-agrees k t h =
      judged_set-agrees (finish_node k) (finish_cell q k t) (omega arith)
      ∙ judged_set-ext p (finish_node k) _ _ (λ y z a b. finish_cell-agrees k t y z h)

  pub without_start-agrees : (k : ℕ) (t : Rows) → k < p.jobs + p.jobs → without_start q k t ≡ without_start p k t
  without_start-agrees k t h = judged_set-agrees (start_node k) _ (omega arith)

  without_place-agrees : (k : ℕ) (t : Rows) → k < p.jobs + p.jobs → without_place q k t ≡ without_place p k t
  unfolding without_place
  without_place-agrees k t h = then_set-same (without_finish-agrees k t h) (λ u. without_start-agrees k u h)

  eliminated-agrees : (low count : ℕ) (t : Rows) → low + count ≤ p.jobs + p.jobs → eliminated q low count t ≡ eliminated p low count t
  unfolding eliminated
  eliminated-agrees low zero t h = refl
  eliminated-agrees low (suc count) t h =
      then_set-same (without_place-agrees (low + count) t (omega arith)) (λ u. eliminated-agrees low count u (omega arith))

  -- ---- the bounds before they are judged

  place_of-agrees : (l : Letter) (i : ℕ) → place_of q l i ≡ place_of p l i
  place_of-agrees This i = refl
  place_of-agrees Next i = refl

  meant-agrees : (d : Bound) → meant q d ≡ meant p d
  meant-agrees d = rw (place_of-agrees d.a.letter d.a.job, place_of-agrees d.b.letter d.b.job)

  given_bounds-agrees : (b : Bool) (ds : List Bound) → given_bounds q b ds ≡ given_bounds p b ds
  unfolding given_bounds
  given_bounds-agrees b [] = refl
  given_bounds-agrees true (d ∷ ds) = ap₂ (λ (b : Between) (bs : List Between). cond (has_next d) (b ∷ bs) bs) (meant-agrees d) (given_bounds-agrees true ds)
  given_bounds-agrees false (d ∷ ds) = ap₂ (λ (b : Between) (bs : List Between). cond (has_next d) bs (b ∷ bs)) (meant-agrees d) (given_bounds-agrees false ds)

  given-agrees : (b : Bool) → given_bounds q b (bounds_of q) ≡ given_bounds p b (bounds_of p)
  given-agrees b = given_bounds-agrees b (bounds_of q) ∙ ap (given_bounds p b) same.bounds-of

  ranges-agrees : (k : ℕ) → k ≤ p.jobs → ranges q k ≡ ranges p k
  unfolding ranges
  ranges-agrees zero h = refl
  ranges-agrees (suc k) h =
      let l : k < p.jobs + p.jobs = omega arith in
      rw (earliest-agrees (Start k) l, latest-agrees (Start k) l, earliest-agrees (Finish k) l, latest-agrees (Finish k) l, ranges-agrees k (omega arith))

  own_bounds-agrees : own_bounds q ≡ own_bounds p
  unfolding own_bounds
  own_bounds-agrees =
      ap₂ (λ (rs : List Between) (ds : List Between). rs ++ (orders (p.jobs - 1) ++ ds)) (ranges-agrees p.jobs (omega arith)) (given-agrees false)

  between_bounds-agrees : between_bounds q ≡ between_bounds p
  unfolding between_bounds
  between_bounds-agrees = ap (λ (ds : List Between). in_order (p.jobs - 1) ∷ ds) (given-agrees true)

  -- ---- the rounds

  pub C0-agrees : C0 q ≡ C0 p
  unfolding C0
  C0-agrees =
      judged_set-agrees (nodes p.jobs) (least_of (own_bounds q)) (omega arith)
      ∙ ap (λ (bs : List Between). judged_set p (nodes p.jobs) (least_of bs)) own_bounds-agrees

  pub joined-agrees : (c0 t : Rows) → joined q c0 t ≡ joined p c0 t
  unfolding joined on_next
  joined-agrees c0 t =
      judged_set-agrees (nodes (p.jobs + p.jobs)) _ (omega arith)
      ∙ ap
      (λ (bs : List Between). judged_set p (nodes (p.jobs + p.jobs)) (λ y z. lesser_cell (at c0 y z) (lesser_cell (on_next p t y z) (least_of bs y z))))
      between_bounds-agrees

  round-agrees : (c0 t : Rows) → round q c0 t ≡ round p c0 t
  unfolding round
  round-agrees c0 t = then_set-same (joined-agrees c0 t) (λ u. eliminated-agrees p.jobs p.jobs u (omega arith))

  fails_alone-agrees : (t : Rows) → fails_alone q t ≡ fails_alone p t
  unfolding fails_alone
  fails_alone-agrees t = ap is_contradictory (eliminated-agrees 0 p.jobs t (omega arith))

  decided-agrees : (m : ℕ) (t : Rows) (s : Set) (f g : Rows → Outcome) → ((u : Rows) → f u ≡ g u) → decided q m t s f ≡ decided p m t s g
  unfolding decided
  decided-agrees m t contradiction f g h = rw (fails_alone-agrees t)
  decided-agrees m t (bounds u) f g h = rw (h u)

  rounds_from-agrees : (c0 : Rows) (m left : ℕ) (t : Rows) → rounds_from q c0 m left t ≡ rounds_from p c0 m left t
  unfolding rounds_from
  rounds_from-agrees c0 m zero t = refl
  rounds_from-agrees c0 m (suc left) t =
      ap (λ (s : Set). decided q m t s (rounds_from q c0 (m + 1) left)) (round-agrees c0 t)
      ∙ decided-agrees m t (round p c0 t) _ _ (rounds_from-agrees c0 (m + 1) left)

  outcome_from-agrees : (s : Set) → outcome_from q s ≡ outcome_from p s
  unfolding outcome_from
  outcome_from-agrees contradiction = refl
  outcome_from-agrees (bounds t) = rounds_from-agrees t 1 p.rounds t

  outcome-agrees : outcome q ≡ outcome p
  unfolding outcome
  outcome-agrees = ap (outcome_from q) C0-agrees ∙ outcome_from-agrees (C0 p)

-- ---- zeros in the places beyond

module _ (p : Plan) (a : Accepted p) where
  jobs-length : length (jobs_of p) ≡ p.jobs
  jobs-length = omega (arith, length-take p.jobs p.job, a.job-places, a.jobs-most)

  bounds-length : length (bounds_of p) ≡ p.bounds
  bounds-length = omega (arith, length-take p.bounds p.bound, a.bound-places, a.bounds-most)

  pub trimmed-agrees : SamePlaces p (filled most_jobs no_job (jobs_of p)) (filled most_bounds no_bound (bounds_of p))
  trimmed-agrees =
      record {
        job-at = λ i h. filled_at most_jobs no_job (jobs_of p) (omega (arith, jobs-length, a.jobs-most)) i (omega (arith, jobs-length))
            ∙ get_d_take p.jobs p.job i h;
        bounds-of = filled-all most_bounds no_bound (bounds_of p) (omega (arith, bounds-length, a.bounds-most)) p.bounds bounds-length;
      }
    where
      get_d_take : (n : ℕ) (xs : List Job) (i : ℕ) → i < n → get_or (take n xs) i no_job ≡ get_or xs i no_job
      get_d_take zero xs i h = absurd (omega arith)
      get_d_take (suc n) [] i h = refl
      get_d_take (suc n) (x ∷ xs) zero h = refl
      get_d_take (suc n) (x ∷ xs) (suc i) h = get_d_take n xs i (omega arith)

  pub outcome-trimmed : outcome (trimmed p) ≡ outcome p
  unfolding trimmed
  outcome-trimmed = outcome-agrees p _ _ trimmed-agrees
