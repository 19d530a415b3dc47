-- The elimination of a job and of several jobs in a row, read as a game. Timely times keep what is left exactly if the jobs that were eliminated
-- can be started so that the table from before is kept; a contradiction fails.
use Prim.Native.Nat.{ℕ, zero, suc, ◌+◌, ◌≤◌, ◌<◌}
use Rattle.std.specs.Prelude.{◌≡◌, refl, ◌⊎◌, [], ◌∷◌, ◌++◌, ℤ, pos, ◌+ℤ◌, ◌≤ℤ◌, length}
use Rattle.std.proofs.Common.{sym, ◌∙◌, inl, inr, add-one, add-suc, add-zero}
use Rattle.std.proofs.Math.Path.{ap, subst}
use Rattle.std.proofs.Math.Logic.{⊎_elim}
use native.Mathlib.Omega.{arith}
use Rattle.whole.specs.Clash.{clash}
use Rattle.whole.specs.Rules.{wholes}
use Rattle.plan.specs.declared.Plan.{Plan}
use Rattle.plan.specs.Accepted.{Accepted}
use Rattle.bounds.specs.Events.{job_at, event_of, start_node, finish_node, nodes}
use Rattle.bounds.specs.Tables.{Cell, off, Rows, at, Set, contradiction, bounds, judged_set}
use Rattle.bounds.specs.Elimination.{finish_cell, start_cell, without_finish, without_start, then_set, without_place, eliminated}
use Rattle.bounds.specs.BuildLaws.{event_of-start, event_of-finish, by_node}
use Rattle.strategy.specs.Histories.{Ran, History, ran_for, turn}
use Rattle.strategy.specs.Strategies.{Forced}
use Rattle.strategy.proofs.Keeping.{Holds, when, gap, Keeps, RunsInside, long_or_short, OriginBounded}
use Rattle.strategy.proofs.CellLaws.{bounded-cell}
use Rattle.strategy.proofs.SetLaws.{job_at-turn, judged-origin_bounded, judged-keeps, judged-back, judged-none, judged-diagonal}
use Rattle.strategy.proofs.EliminationLaws.{without-f, without-s, finish-out, finish-in, start-out, start-in, below-or-last}
use Rattle.strategy.proofs.HistoryLaws.{
  length_more,
  ran-old,
  ran-new,
  runs_inside-more,
  long_or_short-more,
  turn-min-max,
  forced-map,
  forced-split,
  forced-join,
  Fails,
  fails-before,
  fails-map,
}

-- ---- the times of one job more

pub when-old : (u : History) (r : Ran) (y : ℕ) → y < nodes (length u) → when (u ++ (r ∷ [])) (event_of y) ≡ when u (event_of y)
unfolding event_of
when-old u r =
    by_node (λ y. y < nodes (length u) → when (u ++ (r ∷ [])) (event_of y) ≡ when u (event_of y)) (λ h. refl)
    (λ k h. rw (event_of-start k) (ap (λ r. r.start) (ran-old u r k (omega arith))))
    (λ k h. rw (event_of-finish k) (ap (λ r. r.finish) (ran-old u r k (omega arith))))

pub when-start : (u : History) (r : Ran) (k : ℕ) → length u ≡ k → when (u ++ (r ∷ [])) (event_of (start_node k)) ≡ r.start
when-start u r k e = rw (event_of-start k) (ap (λ r. r.start) (ran-new u r k e))

when-finish : (u : History) (r : Ran) (k : ℕ) → length u ≡ k → when (u ++ (r ∷ [])) (event_of (finish_node k)) ≡ r.finish
when-finish u r k e = rw (event_of-finish k) (ap (λ r. r.finish) (ran-new u r k e))

-- up to its start a job's times do not depend on how long it ran
when-running : (u : History) (q r : Ran) (k : ℕ) → length u ≡ k → q.start ≡ r.start → (y : ℕ) → y < finish_node k
    → when (u ++ (q ∷ [])) (event_of y) ≡ when (u ++ (r ∷ [])) (event_of y)
when-running u q r k e s y h =
    ⊎_elim (λ (a : y < start_node k). when-old u q y (omega arith) ∙ sym (when-old u r y (omega arith)))
    (λ (a : y ≡ start_node k). rw a (when-start u q k e ∙ s ∙ sym (when-start u r k e)))
    (below-or-last y (start_node k) (omega arith))

-- ---- tables that elimination takes and leaves

-- on the nodes below k: the bounds to and from the origin are there, and none from an event to itself
pub record WellFormed (p : Plan) (k : ℕ) (t : Rows) : Type 0 where
  pub origin_bounded : OriginBounded p k (at t)
  pub diagonal : (y : ℕ) → y < k → at t y y ≡ off

origin_bounded-less : (p : Plan) (k n : ℕ) (f g : ℕ → ℕ → Cell) → n ≤ k
    → ((y z : ℕ) (x : ℤ) → y < n → z < n → Holds (g y z) x → Holds (f y z) x) → OriginBounded p k f → OriginBounded p n g
origin_bounded-less p k n f g le less a =
    record {
      above = λ y h i x k. a.above y (omega arith) i x (less 0 y x (omega arith) h k);
      below = λ y h i x k. a.below y (omega arith) i x (less y 0 x h (omega arith) k);
    }

pub judged-well_formed : (p : Plan) (k : ℕ) (f : ℕ → ℕ → Cell) (t : Rows) → OriginBounded p k f → judged_set p k f ≡ bounds t → WellFormed p k t
judged-well_formed p k f t a e = record { origin_bounded = judged-origin_bounded p k f a t e; diagonal = judged-diagonal p k f t e }

module _ (p : Plan) (k : ℕ) (t : Rows) (well_formed : WellFormed p (nodes (suc k)) t) where
  finish-origin_bounded : OriginBounded p (finish_node k) (finish_cell p k t)
  finish-origin_bounded =
      origin_bounded-less p (nodes (suc k)) (finish_node k) (at t) (finish_cell p k t) (omega arith)
      (λ y z x a b h. (without-f p k t (λ n. pos 0) y z x h).0)
      well_formed.origin_bounded

  start-origin_bounded : (v : Rows) → without_finish p k t ≡ bounds v → OriginBounded p (start_node k) (start_cell k v)
  start-origin_bounded v e =
      origin_bounded-less p (finish_node k) (start_node k) (at v) (start_cell k v) (omega arith)
      (λ y z x a b h. (without-s k v (λ n. pos 0) y z x h).0)
      (judged-origin_bounded p (finish_node k) (finish_cell p k t) finish-origin_bounded v e)

  pub finish-well_formed : (v : Rows) → without_finish p k t ≡ bounds v → WellFormed p (finish_node k) v
  finish-well_formed v e = judged-well_formed p (finish_node k) (finish_cell p k t) v finish-origin_bounded e

-- ---- several sets in a row

pub then_set-bounds : (x : Set) (f : Rows → Set) (t : Rows) → then_set x f ≡ bounds t → (v : Rows) × (x ≡ bounds v) × (f v ≡ bounds t)
unfolding then_set
then_set-bounds contradiction f t h = clash (cc)
then_set-bounds (bounds v) f t h = (v, refl, h)

pub then_set-none : (x : Set) (f : Rows → Set) → then_set x f ≡ contradiction
    → (x ≡ contradiction) ⊎ ((v : Rows) × (x ≡ bounds v) × (f v ≡ contradiction))
unfolding then_set
then_set-none contradiction f h = inl refl
then_set-none (bounds v) f h = inr (v, refl, h)

-- ---- one job

module _ (p : Plan) (good : Accepted p) (k : ℕ) (two : k < p.jobs + p.jobs) (t : Rows) (well_formed : WellFormed p (nodes (suc k)) t) where
  -- the game of this job alone
  abbrev JobGame : History → Type 0
  JobGame u = Forced p (Keeps (nodes (suc k)) (at t)) 1 u

  module _ (u : History) (n : length u ≡ k) where
    job_is : job_at p k ≡ turn p (length u)
    job_is = job_at-turn p k two ∙ ap (turn p) (sym n)

    -- Finish
    finish-keeps : (s e : ℤ)
        → ((e : ℤ) → (turn p (length u)).min ≤ℤ e → e ≤ℤ (turn p (length u)).max → Keeps (nodes (suc k)) (at t) (ran_for u s e))
        → Keeps (finish_node k) (finish_cell p k t) (ran_for u s e)
    finish-keeps s e f =
        let mm = turn-min-max p good (length u) in
        let j = job_is in
        let at-s : when (ran_for u s e) (event_of (start_node k)) ≡ s = when-start u _ k n in
        finish-in p k t (λ y. when (ran_for u s e) (event_of y))
        (λ y. when (ran_for u s (turn p (length u)).max) (event_of y))
        (λ y. when (ran_for u s (turn p (length u)).min) (event_of y))
        (when-running u _ _ k n refl)
        (when-running u _ _ k n refl)
        (when-finish u _ k n ∙ rw (at-s, j))
        (when-finish u _ k n ∙ rw (at-s, j))
        (λ y z a b. f (turn p (length u)).max mm (omega wholes) y z (omega arith) (omega arith))
        (λ y z a b. f (turn p (length u)).min (omega wholes) mm y z (omega arith) (omega arith))

    finish-back : (s e₀ : ℤ) → Keeps (finish_node k) (finish_cell p k t) (ran_for u s e₀)
        → (e : ℤ) → (turn p (length u)).min ≤ℤ e → e ≤ℤ (turn p (length u)).max → Keeps (nodes (suc k)) (at t) (ran_for u s e)
    finish-back s e₀ kept e lo hi y z a b =
        let j = job_is in
        let at-s : when (ran_for u s e₀) (event_of (start_node k)) ≡ s = when-start u _ k n in
        finish-out p k t (λ y. when (ran_for u s e₀) (event_of y)) (well_formed.diagonal (finish_node k) (omega arith)) kept
        (λ y. when (ran_for u s e) (event_of y)) e
        (when-running u _ _ k n refl)
        (when-finish u _ k n ∙ rw at-s)
        (rw j lo) (rw j hi)
        y z (omega arith) (omega arith)

    -- Start
    module _ (v : Rows) (v-is : without_finish p k t ≡ bounds v) where
      start-keeps : (r : Ran) → Keeps (finish_node k) (at v) (u ++ (r ∷ [])) → Keeps (start_node k) (start_cell k v) u
      start-keeps r kept =
          start-in k v (λ y. when u (event_of y)) (λ y. when (u ++ (r ∷ [])) (event_of y))
          (λ y h. when-old u r y (omega arith))
          (λ y z a b. kept y z (omega arith) (omega arith))

      start_back : Keeps (start_node k) (start_cell k v) u
          → (s : ℤ) × ((r : Ran) → r.start ≡ s → Keeps (finish_node k) (at v) (u ++ (r ∷ [])))
      start_back kept =
          let tv = finish-well_formed p k t well_formed v v-is in
          let w = bounded-cell (at v (start_node k) 0) _ (tv.origin_bounded.below (start_node k) (omega arith) (omega arith)) in
          let g = start-out k v (λ y. when u (event_of y)) (tv.diagonal (start_node k) (omega arith)) w.0 w.1 kept in (
            g.0,
            λ r e y z a b.
                g.1 (λ y. when (u ++ (r ∷ [])) (event_of y)) (λ y h. when-old u r y (omega arith)) (when-start u r k n ∙ e)
                y z (omega arith) (omega arith),
          )

      finish-judged : (s e : ℤ) → Keeps (finish_node k) (finish_cell p k t) (ran_for u s e) → Keeps (finish_node k) (at v) (ran_for u s e)
      finish-judged s e kept = judged-keeps p (finish_node k) (finish_cell p k t) (finish-origin_bounded p k t well_formed) v v-is (ran_for u s e) kept

      finish-judged-back : (s e : ℤ) → RunsInside p u → (turn p (length u)).min ≤ℤ e → e ≤ℤ (turn p (length u)).max
          → Keeps (finish_node k) (at v) (ran_for u s e) → Keeps (finish_node k) (finish_cell p k t) (ran_for u s e)
      finish-judged-back s e old lo hi kept =
          let m = length_more u (record { start = s; finish = s +ℤ e }) in
          judged-back p (finish_node k) (finish_cell p k t) (finish-origin_bounded p k t well_formed) v v-is (ran_for u s e)
          (record { seen = omega arith; two = omega arith }) (runs_inside-more p u s e lo hi old) kept

      -- t is a start that this job can take, for every running time, exactly if the table just before the start is eliminated is kept at t
      pub start-choice : (s e : ℤ) → RunsInside p u → (turn p (length u)).min ≤ℤ e → e ≤ℤ (turn p (length u)).max
          → Keeps (finish_node k) (at v) (ran_for u s e)
          → (e : ℤ) → (turn p (length u)).min ≤ℤ e → e ≤ℤ (turn p (length u)).max → Keeps (nodes (suc k)) (at t) (ran_for u s e)
      start-choice s e old lo hi kept = finish-back s e (finish-judged-back s e old lo hi kept)

      pub start-choice-back : (s e : ℤ)
          → ((e : ℤ) → (turn p (length u)).min ≤ℤ e → e ≤ℤ (turn p (length u)).max → Keeps (nodes (suc k)) (at t) (ran_for u s e))
          → Keeps (finish_node k) (at v) (ran_for u s e)
      start-choice-back s e f = finish-judged s e (finish-keeps s e f)

      module _ (t₂ : Rows) (t₂_is : without_start p k v ≡ bounds t₂) where
        start-judged : Keeps (start_node k) (start_cell k v) u → Keeps (start_node k) (at t₂) u
        start-judged kept = judged-keeps p (start_node k) (start_cell k v) (start-origin_bounded p k t well_formed v v-is) t₂ t₂_is u kept

        pub start-judged-back : RunsInside p u → Keeps (start_node k) (at t₂) u → Keeps (start_node k) (start_cell k v) u
        start-judged-back old kept =
            judged-back p (start_node k) (start_cell k v) (start-origin_bounded p k t well_formed v v-is) t₂ t₂_is u
            (record { seen = omega arith; two = omega arith }) old kept

        pub place-keeps-at : JobGame u → Keeps (start_node k) (at t₂) u
        unfolding Forced
        place-keeps-at (s, f) = start-judged (start-keeps _ (start-choice-back s (turn p (length u)).min f))

        place-back-at : RunsInside p u → Keeps (start_node k) (at t₂) u → JobGame u
        unfolding Forced
        place-back-at old kept =
            let g = start_back (start-judged-back old kept) in
            let mm = turn-min-max p good (length u) in
            (g.0, start-choice g.0 (turn p (length u)).min old (omega wholes) mm (g.1 _ refl))

  module _ (t₂ : Rows) (t₂_is : without_place p k t ≡ bounds t₂) where
    parts : (v : Rows) × (without_finish p k t ≡ bounds v) × (without_start p k v ≡ bounds t₂)
    unfolding without_place
    parts = then_set-bounds (without_finish p k t) (without_start p k) t₂ t₂_is

    place-well_formed : WellFormed p (nodes k) t₂
    place-well_formed =
        judged-well_formed p (start_node k) (start_cell k parts.0) t₂ (start-origin_bounded p k t well_formed parts.0 parts.1) parts.2

    place-keeps : (u : History) → length u ≡ k → JobGame u → Keeps (nodes k) (at t₂) u
    place-keeps u n c = place-keeps-at u n parts.0 parts.1 t₂ parts.2 c

    place-back : (u : History) → length u ≡ k → RunsInside p u → Keeps (nodes k) (at t₂) u → JobGame u
    place-back u n old kept = place-back-at u n parts.0 parts.1 t₂ parts.2 old kept

  none-finish : without_finish p k t ≡ contradiction → Fails p k JobGame
  unfolding Forced
  none-finish e =
      let f = judged-none p (finish_node k) (finish_cell p k t) (finish-origin_bounded p k t well_formed) e in (
        f.0,
        λ u n x c.
            let m = length_more u (record { start = c.0; finish = c.0 +ℤ long_or_short f.0 (turn p (length u)) }) in
            f.1 (ran_for u c.0 (long_or_short f.0 (turn p (length u)))) (record { seen = omega arith; two = omega arith })
            (long_or_short-more p f.0 u c.0 x) (finish-keeps u n c.0 _ c.1),
      )

  none-start : (v : Rows) → without_finish p k t ≡ bounds v → without_start p k v ≡ contradiction → Fails p k JobGame
  unfolding Forced
  none-start v v-is e =
      let f = judged-none p (start_node k) (start_cell k v) (start-origin_bounded p k t well_formed v v-is) e in (
        f.0,
        λ u n x c.
            f.1 u (record { seen = omega arith; two = omega arith }) x
            (start-keeps u n v v-is _ (start-choice-back u n v v-is c.0 (turn p (length u)).min c.1)),
      )

  place_none : without_place p k t ≡ contradiction → Fails p k JobGame
  unfolding without_place
  place_none e =
      ⊎_elim none-finish (λ (r : (v : Rows) × (without_finish p k t ≡ bounds v) × (without_start p k v ≡ contradiction)). none-start r.0 r.1 r.2)
      (then_set-none (without_finish p k t) (without_start p k) e)

-- ---- several jobs: the last count of the places from low on

module _ (p : Plan) (good : Accepted p) (low : ℕ) where
  -- the game of these jobs
  abbrev JobsGame : ℕ → Rows → History → Type 0
  JobsGame count t u = Forced p (Keeps (nodes (low + count)) (at t)) count u

  abbrev WellFormedBelow : ℕ → Rows → Type 0
  WellFormedBelow count t = WellFormed p (nodes (low + count)) t

  -- the last of them, and the others before it
  jobs_game-last : (count : ℕ) (t : Rows) (u : History) → JobsGame (suc count) t u
      → Forced p (Forced p (Keeps (nodes (suc (low + count))) (at t)) 1) count u
  jobs_game-last count t u q =
      forced-split p (Keeps (nodes (suc (low + count))) (at t)) count 1 u
      (subst (λ g. Forced p (Keeps (nodes (suc (low + count))) (at t)) g u) (sym (add-one count))
      (subst (λ n. Forced p (Keeps (nodes n) (at t)) (suc count) u) (add-suc low count) q))

  jobs_game-before : (count : ℕ) (t : Rows) (u : History) → Forced p (Forced p (Keeps (nodes (suc (low + count))) (at t)) 1) count u
      → JobsGame (suc count) t u
  jobs_game-before count t u q =
      subst (λ n. Forced p (Keeps (nodes n) (at t)) (suc count) u) (sym (add-suc low count))
      (subst (λ g. Forced p (Keeps (nodes (suc (low + count))) (at t)) g u) (add-one count)
      (forced-join p (Keeps (nodes (suc (low + count))) (at t)) count 1 u q))

  well_formed-last : (count : ℕ) (t : Rows) → WellFormedBelow (suc count) t → WellFormed p (nodes (suc (low + count))) t
  well_formed-last count t well_formed = subst (λ n. WellFormed p (nodes n) t) (add-suc low count) well_formed

  module _ (count : ℕ) (t t₂ : Rows) (e : eliminated p low (suc count) t ≡ bounds t₂) where
    first_of : (v : Rows) × (without_place p (low + count) t ≡ bounds v) × (eliminated p low count v ≡ bounds t₂)
    unfolding eliminated
    first_of = then_set-bounds (without_place p (low + count) t) (eliminated p low count) t₂ e

  same-bounds : (t v : Rows) → bounds t ≡ bounds v → t ≡ v
  same-bounds t v e = cc

  pub elim-well_formed : (count : ℕ) (t t₂ : Rows) → low + count ≤ p.jobs + p.jobs → WellFormedBelow count t
      → eliminated p low count t ≡ bounds t₂ → WellFormed p (nodes low) t₂
  unfolding eliminated
  elim-well_formed zero t t₂ two well_formed e =
      subst (λ n. WellFormed p (nodes n) t₂) (add-zero low) (subst (λ t. WellFormed p (nodes (low + 0)) t) (same-bounds t t₂ e) well_formed)
  elim-well_formed (suc count) t t₂ two well_formed e =
      let r = first_of count t t₂ e in
      elim-well_formed count r.0 t₂ (omega arith)
      (place-well_formed p good (low + count) (omega arith) t (well_formed-last count t well_formed) r.0 r.1) r.2

  pub elim-keeps : (count : ℕ) (t t₂ : Rows) → low + count ≤ p.jobs + p.jobs → WellFormedBelow count t → eliminated p low count t ≡ bounds t₂
      → (u : History) → length u ≡ low → JobsGame count t u → Keeps (nodes low) (at t₂) u
  unfolding eliminated Forced
  elim-keeps zero t t₂ two well_formed e u n q = λ y z a b.
      subst (λ t. Holds (at t y z) (gap u y z)) (same-bounds t t₂ e) (q y z (omega arith) (omega arith))
  elim-keeps (suc count) t t₂ two well_formed e u n q =
      let r = first_of count t t₂ e in
      let t' = well_formed-last count t well_formed in
      elim-keeps count r.0 t₂ (omega arith) (place-well_formed p good (low + count) (omega arith) t t' r.0 r.1) r.2 u n
      (forced-map p _ _ count u
      (λ h f c. place-keeps p good (low + count) (omega arith) t t' r.0 r.1 h (f.size ∙ ap (λ n. n + count) n) c)
      (jobs_game-last count t u q))

  pub elim-back : (count : ℕ) (t t₂ : Rows) → low + count ≤ p.jobs + p.jobs → WellFormedBelow count t → eliminated p low count t ≡ bounds t₂
      → (u : History) → length u ≡ low → RunsInside p u → Keeps (nodes low) (at t₂) u → JobsGame count t u
  unfolding eliminated Forced
  elim-back zero t t₂ two well_formed e u n old kept = λ y z a b.
      subst (λ t. Holds (at t y z) (gap u y z)) (sym (same-bounds t t₂ e)) (kept y z (omega arith) (omega arith))
  elim-back (suc count) t t₂ two well_formed e u n old kept =
      let r = first_of count t t₂ e in
      let t' = well_formed-last count t well_formed in
      jobs_game-before count t u
      (forced-map p _ _ count u
      (λ h f c. place-back p good (low + count) (omega arith) t t' r.0 r.1 h (f.size ∙ ap (λ n. n + count) n) (f.runs_inside old) c)
      (elim-back count r.0 t₂ (omega arith) (place-well_formed p good (low + count) (omega arith) t t' r.0 r.1) r.2 u n old kept))

  not_none : (t : Rows) → bounds t ≡ contradiction → ⊥
  not_none t e = clash (cc)

  pub elim-none : (count : ℕ) (t : Rows) → low + count ≤ p.jobs + p.jobs → WellFormedBelow count t → eliminated p low count t ≡ contradiction
      → Fails p low (JobsGame count t)
  unfolding eliminated
  elim-none zero t two well_formed e = absurd (not_none t e)
  elim-none (suc count) t two well_formed e =
      let t' = well_formed-last count t well_formed in
      let low-enough : low + count < p.jobs + p.jobs = omega arith in
      ⊎_elim
      (λ (c : without_place p (low + count) t ≡ contradiction).
      fails-map p good _ _ low (λ h n old q. jobs_game-last count t h q)
      (fails-before p good _ low count (place_none p good (low + count) low-enough t t' c)))
      (λ (r : (v : Rows) × (without_place p (low + count) t ≡ bounds v) × (eliminated p low count v ≡ contradiction)).
      fails-map p good _ _ low
      (λ h n old q.
      forced-map p _ _ count h
      (λ h' f c. place-keeps p good (low + count) low-enough t t' r.0 r.1 h' (f.size ∙ ap (λ n. n + count) n) c)
      (jobs_game-last count t h q))
      (elim-none count r.0 (omega arith) (place-well_formed p good (low + count) low-enough t t' r.0 r.1) r.2))
      (then_set-none (without_place p (low + count) t) (eliminated p low count) e)
