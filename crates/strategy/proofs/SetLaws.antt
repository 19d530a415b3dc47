-- A set that is judged: what stands in its table, and that times in range keep the judged set exactly if they keep the set before. A set that
-- is a contradiction is kept by no times, if every job runs as long as it can, or if every job runs as short. Range is no premise: the bounds
-- to and from the origin are never left out, and they say it.
use Rattle.std.specs.Prelude.{ℕ, ◌+◌, ◌-◌, ◌≤◌, ◌<◌, ◌≡◌, refl, ◌↔◌, ◌⊎◌, Bool, true, false, cond, ℤ, pos, ◌≤ℤ◌, get_or}
use Rattle.std.proofs.Common.{sym, ◌∙◌, mod-eq_of_lt}
use Rattle.std.proofs.Math.Path.{ap, subst}
use native.Mathlib.Omega.{arith}
use Rattle.std.proofs.Math.Nat.{mod-eq-sub-mod}
use Rattle.std.specs.Int.Signed.{lt_z}
use Rattle.std.proofs.Math.ListN.{length}
use borrow.Author.Tests.{eq-eqb}
use Rattle.whole.specs.Clash.{clash}
use Rattle.whole.specs.SplitLaws.{split-neg}
use Rattle.whole.specs.Rules.{wholes}
use Rattle.plan.specs.declared.Plan.{Plan}
use Rattle.plan.specs.PlanLines.{no_job}
use Rattle.bounds.specs.declared.Event.{Event}
use Rattle.bounds.specs.declared.Event.TheVariants.{Origin, Start, Finish}
use Rattle.bounds.specs.declared.Judgement.{Judgement}
use Rattle.bounds.specs.declared.Judgement.TheVariants.{Contradiction, LeftOut, Kept}
use Rattle.bounds.specs.Events.{is_this, job_at, earliest, event_of, start_node, finish_node}
use Rattle.bounds.specs.Judgements.{judged}
use Rattle.bounds.specs.Tables.{Cell, off, upto, Rows, at, build, judgement, is_contradiction, kept_cell, contradiction, bounds, contradicts, kept_rows, judged_set}
use Rattle.bounds.specs.BuildLaws.{at-build, at-build-past, any_below-some, any_below-none, event_of-start, event_of-finish, by_node, not-origin}
use Rattle.bounds.specs.JudgementsLaws.{judged-from-origin, judged-to-origin}
use Rattle.strategy.specs.Histories.{History, turn}
use Rattle.strategy.proofs.Keeping.{Holds, gap, Keeps, RunsInside, LongOrShort, EventInRange, OriginBounded, NodesSeen}
use Rattle.strategy.proofs.JudgementLaws.{Fits, FitsAt, judged-left, judged-never}

-- ---- the job at a place of two windows is the one whose turn it is

turn_at : (p : Plan) (k : ℕ) (b : Bool) → is_this p k ≡ b → k < p.jobs + p.jobs
    → get_or p.job (cond b k (k - p.jobs)) no_job ≡ turn p k
turn_at p k true e h = let i : k < p.jobs = ltb-so e in rw (mod-eq_of_lt i)
  where
    ltb-so : is_this p k ≡ true → k < p.jobs
    ltb-so t = borrow.Author.Tests.ltb-true k p.jobs t
turn_at p k false e h =
    let i : p.jobs ≤ k = borrow.Author.Tests.ltb-false k p.jobs e in
    let low : k - p.jobs < p.jobs = omega arith in
    ap (λ i. get_or p.job i no_job) (sym (mod-eq-sub-mod i ∙ mod-eq_of_lt low))

pub job_at-turn : (p : Plan) (k : ℕ) → k < p.jobs + p.jobs → job_at p k ≡ turn p k
unfolding job_at
job_at-turn p k h = turn_at p k (is_this p k) refl h

-- ---- ranges

module _ (p : Plan) (k : ℕ) (f : ℕ → ℕ → Cell) (u : History) (origin_bounded : OriginBounded p k f) (kept : Keeps k f u) where
  range-of : (y : ℕ) → y < k → 0 < y → EventInRange p u (event_of y)
  unfolding event_of
  range-of y h i =
      let a = origin_bounded.above y h i (gap u 0 y) (kept 0 y (omega arith) h) in
      let b = origin_bounded.below y h i (gap u y 0) (kept y 0 h (omega arith)) in
      record { early = omega (wholes, split-neg (earliest p (event_of y))); late = omega wholes }

  range-start : (j : ℕ) → start_node j < k → EventInRange p u (Start j)
  range-start j h = subst (λ e. EventInRange p u e) (event_of-start j) (range-of (start_node j) h (omega arith))

  range-finish : (j : ℕ) → finish_node j < k → EventInRange p u (Finish j)
  range-finish j h = subst (λ e. EventInRange p u e) (event_of-finish j) (range-of (finish_node j) h (omega arith))

  fits : NodesSeen p k u → RunsInside p u → (y : ℕ) → y < k → Fits p u (event_of y)
  unfolding event_of
  fits s t =
      by_node (λ y. y < k → Fits p u (event_of y)) (λ h. tt)
      (λ j h. subst (λ e. Fits p u e) (sym (event_of-start j)) (range-start j h))
      (λ j h.
      let low : j < length u = omega arith in
      let two : j < p.jobs + p.jobs = omega arith in
      subst (λ e. Fits p u e) (sym (event_of-finish j))
      (range-finish j h, rw (job_at-turn p j two) (t j low)))

  fits_at : (long : Bool) → NodesSeen p k u → LongOrShort p long u → (y : ℕ) → y < k → FitsAt p long u (event_of y)
  unfolding event_of
  fits_at long s t =
      by_node (λ y. y < k → FitsAt p long u (event_of y)) (λ h. tt)
      (λ j h. subst (λ e. FitsAt p long u e) (sym (event_of-start j)) (range-start j h))
      (λ j h.
      let low : j < length u = omega arith in
      let two : j < p.jobs + p.jobs = omega arith in
      subst (λ e. FitsAt p long u e) (sym (event_of-finish j))
      (range-finish j h, rw (job_at-turn p j two) (t j low)))

-- ---- what stands in a judged table

set-bounds : (b : Bool) (t u : Rows) → cond b contradiction (bounds t) ≡ bounds u → (b ≡ false) × (t ≡ u)
set-bounds true t u h = clash (cc)
set-bounds false t u h = (refl, cc)

set-never : (b : Bool) (t : Rows) → cond b contradiction (bounds t) ≡ contradiction → b ≡ true
set-never true t h = refl
set-never false t h = clash (cc)

module _ (p : Plan) (k : ℕ) (f : ℕ → ℕ → Cell) where
  pub judged_set-agrees : (t : Rows) → judged_set p k f ≡ bounds t → (y z : ℕ) → y < k → z < k
      → is_contradiction (judgement p y z (f y z)) ≡ false
  unfolding judged_set contradicts
  judged_set-agrees t h y z a b =
      rw (at-build k f y z a b) at
      (any_below-none k _ (any_below-none k _ (set-bounds _ _ t h).0 y a) z b)

  pub judged_set-at : (t : Rows) → judged_set p k f ≡ bounds t → (y z : ℕ) → y < k → z < k
      → at t y z ≡ kept_cell (judgement p y z (f y z)) (f y z)
  unfolding judged_set kept_rows
  judged_set-at t h y z a b =
      ap (λ t. at t y z) (sym (set-bounds (contradicts p k (build k f)) _ t h).1)
      ∙ at-build k _ y z a b
      ∙ ap (λ c. kept_cell (judgement p y z c) c) (at-build k f y z a b)

  pub judged_set-past : (t : Rows) → judged_set p k f ≡ bounds t → (y z : ℕ) → (k ≤ y) ⊎ (k ≤ z) → at t y z ≡ off
  unfolding judged_set kept_rows
  judged_set-past t h y z past =
      ap (λ t. at t y z) (sym (set-bounds (contradicts p k (build k f)) _ t h).1) ∙ at-build-past k _ y z past

  pub judged_set-some : judged_set p k f ≡ contradiction
      → (y : ℕ) × (z : ℕ) × (y < k) × (z < k) × (is_contradiction (judgement p y z (f y z)) ≡ true)
  unfolding judged_set contradicts
  judged_set-some h =
      let r = any_below-some k _ (set-never _ _ h) in
      let q = any_below-some k _ r.2 in
      (r.0, q.0, r.1, q.1, rw (at-build k f r.0 q.0 r.1 q.1) at q.2)

-- ---- times and a judged cell

abbrev kept_of : Plan → ℕ → ℕ → Cell → Cell
kept_of p y z c = kept_cell (judgement p y z c) c

-- bounds to and from the origin are kept as they are
cell-from-origin : (p : Plan) (y : ℕ) (c : Cell) → 0 < y → is_contradiction (judgement p 0 y c) ≡ false → kept_of p 0 y c ≡ c
unfolding judgement event_of
cell-from-origin p y off h s = refl
cell-from-origin p y (upto w) h s = ap (λ j. kept_cell j (upto w)) (judged-from-origin p (event_of y) w (not-origin y h) s)

cell-to-origin : (p : Plan) (y : ℕ) (c : Cell) → 0 < y → is_contradiction (judgement p y 0 c) ≡ false → kept_of p y 0 c ≡ c
unfolding judgement event_of
cell-to-origin p y off h s = refl
cell-to-origin p y (upto w) h s = ap (λ j. kept_cell j (upto w)) (judged-to-origin p (event_of y) w (not-origin y h) s)

-- a bound from an event to itself is never kept
same-off : (w : ℤ) (b : Bool) → kept_cell (cond b Contradiction LeftOut) (upto w) ≡ off
same-off w true = refl
same-off w false = refl

event-same : (p : Plan) (e : Event) (w : ℤ) → kept_cell (judged p e e w) (upto w) ≡ off
unfolding judged
event-same p Origin w = same-off w (lt_z w (pos 0))
event-same p (Start k) w = rw (eq-eqb k k refl) (same-off w (lt_z w (pos 0)))
event-same p (Finish k) w = rw (eq-eqb k k refl) (same-off w (lt_z w (pos 0)))

cell_same : (p : Plan) (y : ℕ) (c : Cell) → kept_of p y y c ≡ off
unfolding judgement
cell_same p y off = refl
cell_same p y (upto w) = event-same p (event_of y) w

-- what keeps a cell keeps the judged cell, and in range the other way round
cell-keeps : (j : Judgement) (c : Cell) (x : ℤ) → Holds c x → Holds (kept_cell j c) x
cell-keeps Contradiction c x h = tt
cell-keeps LeftOut c x h = tt
cell-keeps Kept c x h = h

kept_back : (j : Judgement) (w x : ℤ) → is_contradiction j ≡ false → (j ≡ LeftOut → x ≤ℤ w) → Holds (kept_cell j (upto w)) x → x ≤ℤ w
kept_back Contradiction w x s l h = clash (cc)
kept_back LeftOut w x s l h = l refl
kept_back Kept w x s l h = h

cell-back : (p : Plan) (u : History) (y z : ℕ) (c : Cell) → is_contradiction (judgement p y z c) ≡ false
    → Fits p u (event_of y) → Fits p u (event_of z) → Holds (kept_of p y z c) (gap u y z) → Holds c (gap u y z)
unfolding judgement
cell-back p u y z off s a b h = tt
cell-back p u y z (upto w) s a b h =
    kept_back (judged p (event_of y) (event_of z) w) w (gap u y z) s (λ l. judged-left p u (event_of y) (event_of z) w l a b) h

is-contradiction : (j : Judgement) → is_contradiction j ≡ true → j ≡ Contradiction
is-contradiction Contradiction h = refl
is-contradiction LeftOut h = clash (cc)
is-contradiction Kept h = clash (cc)

cell-never : (p : Plan) (y z : ℕ) (c : Cell) → is_contradiction (judgement p y z c) ≡ true
    → (long : Bool) × ((u : History) → FitsAt p long u (event_of y) → FitsAt p long u (event_of z) → Holds c (gap u y z) → ⊥)
unfolding judgement
cell-never p y z off s = clash (cc)
cell-never p y z (upto w) s = judged-never p (event_of y) (event_of z) w (is-contradiction _ s)

-- ---- times and a judged set

module _ (p : Plan) (k : ℕ) (f : ℕ → ℕ → Cell) (origin_bounded : OriginBounded p k f) where
  pub judged-origin_bounded : (t : Rows) → judged_set p k f ≡ bounds t → OriginBounded p k (at t)
  judged-origin_bounded t h =
      record {
        above =
            λ y a b x g.
            origin_bounded.above y a b x
            (rw (judged_set-at p k f t h 0 y (omega arith) a
            ∙ cell-from-origin p y (f 0 y) b (judged_set-agrees p k f t h 0 y (omega arith) a)) at
            g);
        below =
            λ y a b x g.
            origin_bounded.below y a b x
            (rw (judged_set-at p k f t h y 0 a (omega arith)
            ∙ cell-to-origin p y (f y 0) b (judged_set-agrees p k f t h y 0 a (omega arith))) at
            g);
      }

  pub judged-keeps : (t : Rows) → judged_set p k f ≡ bounds t → (u : History) → Keeps k f u → Keeps k (at t) u
  judged-keeps t h u kept y z a b =
      rw (judged_set-at p k f t h y z a b) (cell-keeps (judgement p y z (f y z)) (f y z) (gap u y z) (kept y z a b))

  pub judged-back : (t : Rows) → judged_set p k f ≡ bounds t → (u : History) → NodesSeen p k u → RunsInside p u
      → Keeps k (at t) u → Keeps k f u
  judged-back t h u s r kept y z a b =
      let fit = fits p k (at t) u (judged-origin_bounded t h) kept s r in
      cell-back p u y z (f y z) (judged_set-agrees p k f t h y z a b) (fit y a) (fit z b)
      (rw (judged_set-at p k f t h y z a b) at (kept y z a b))

  pub judged-iff : (t : Rows) → judged_set p k f ≡ bounds t → (u : History) → NodesSeen p k u → RunsInside p u → Keeps k f u ↔ Keeps k (at t) u
  judged-iff t h u s r = (judged-keeps t h u, judged-back t h u s r)

  pub judged-none : judged_set p k f ≡ contradiction
      → (long : Bool) × ((u : History) → NodesSeen p k u → LongOrShort p long u → Keeps k f u → ⊥)
  judged-none h =
      let r = judged_set-some p k f h in
      let n = cell-never p r.0 r.1 (f r.0 r.1) r.4 in (
        n.0,
        λ u s e kept.
            let fit = fits_at p k f u origin_bounded kept n.0 s e in
            n.1 u (fit r.0 r.2) (fit r.1 r.3) (kept r.0 r.1 r.2 r.3),
      )

pub judged-diagonal : (p : Plan) (k : ℕ) (f : ℕ → ℕ → Cell) (t : Rows) → judged_set p k f ≡ bounds t → (y : ℕ) → y < k → at t y y ≡ off
judged-diagonal p k f t h y a = judged_set-at p k f t h y y a a ∙ cell_same p y (f y y)
