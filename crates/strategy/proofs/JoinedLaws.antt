-- Two windows in one table. C(0) is kept exactly if the window's own bounds are; the set that a round starts with is kept by the times of two
-- windows exactly if C(0) is kept by the first, C(m-1) by the second on its own clock, and the bounds between the two are kept.
use Prim.Native.Nat.{ℕ, zero, suc, ◌+◌, ◌*◌, ◌-◌, ◌≤◌, ◌<◌}
use Rattle.std.specs.Prelude.{◌≡◌, ◌⊎◌, true, ℤ, pos, ◌+ℤ◌, ◌-ℤ◌, ◌*ℤ◌, ◌≤ℤ◌, length}
use Rattle.std.proofs.Math.Path.{refl, subst}
use Rattle.std.proofs.Common.{sym, ap, ap₂, ◌∙◌, inl, inr, le-ltb}
use Rattle.std.proofs.Math.Logic.{⊎_elim}
use native.Mathlib.Omega.{arith}
use Rattle.std.proofs.Math.IntN.{neg_ℤ}
use Rattle.whole.specs.SplitLaws.{split-mul, split-neg, split-add}
use Rattle.whole.specs.Rules.{wholes}
use Rattle.whole.specs.Shape.{any, ◌⊕◌, ◌⊖◌, le, eq}
use Rattle.whole.specs.ShapeLaws.{reads, shows}
use Rattle.plan.specs.declared.Plan.{Plan}
use Rattle.plan.specs.Accepted.{Accepted}
use Rattle.plan.specs.ListLaws.{All}
use Rattle.bounds.specs.declared.Event.TheVariants.{Start, Finish}
use Rattle.bounds.specs.Events.{job_at, shift, earliest, latest, event_of, node_of, start_node, finish_node, nodes}
use Rattle.bounds.specs.Tables.{Cell, off, lesser_cell, plus, Rows, at, least_of, contradiction, bounds}
use Rattle.bounds.specs.BuildLaws.{event_of-start, event_of-finish, by_node}
use Rattle.rounds.specs.Given.{own_bounds, between_bounds}
use Rattle.rounds.specs.Rounds.{C0, own_nodes, is_own, shift_of, on_next, joined}
use Rattle.rounds.specs.Next.{onto}
use Rattle.rounds.specs.OnNextLaws as on-next
use Rattle.rounds.specs.OnNextLaws.{onto-event, shift_by-event, on_next-onto}
use Rattle.strategy.specs.Histories.{History, on_window, seen_from, turn}
use Rattle.strategy.specs.Strategies.{ran_in}
use Rattle.strategy.proofs.Keeping.{Holds, when, gap, Keeps, RunsInside, OriginBounded, NodesSeen}
use Rattle.strategy.proofs.CellLaws.{least_iff, plus-iff}
use Rattle.strategy.proofs.SetLaws.{job_at-turn, judged_set-past, judged-keeps, judged-back, judged-none}
use Rattle.strategy.proofs.HistoryLaws.{Fails}
use Rattle.strategy.proofs.PlaceLaws.{WellFormed, judged-well_formed}
use Rattle.strategy.proofs.GivenLaws.{BetweenKept, least_of-pair_kept, least_of-kept, kept-least_of, PairKept, all_own}
use Rattle.strategy.proofs.WindowLaws.{own_below, across-below, this-shift}
use Rattle.strategy.proofs.SeenLaws.{at-most-or-above, ran-seen, turn-seen}

-- ---- C(0)

module _ (p : Plan) (good : Accepted p) where
  own-origin_bounded : OriginBounded p (nodes p.jobs) (least_of (own_bounds p))
  unfolding node_of
  own-origin_bounded =
      record {
        above =
            by_node (λ y. y < nodes p.jobs → 0 < y → (x : ℤ) → Holds (least_of (own_bounds p) 0 y) x → x ≤ℤ latest p (event_of y))
            (λ h i. absurd (omega arith))
            (λ k h i x g. rw (event_of-start k) (((all_own (PairKept 0 (start_node k) x) p (least_of-pair_kept 0 (start_node k) x (own_bounds p) g)).ranged k
            (omega arith)).start_up refl refl))
            (λ k h i x g. rw (event_of-finish k) (((all_own (PairKept 0 (finish_node k) x) p (least_of-pair_kept 0 (finish_node k) x (own_bounds p) g)).ranged k
            (omega arith)).finish_up refl refl));
        below =
            by_node (λ y. y < nodes p.jobs → 0 < y → (x : ℤ) → Holds (least_of (own_bounds p) y 0) x → x ≤ℤ neg_ℤ (earliest p (event_of y)))
            (λ h i. absurd (omega arith))
            (λ k h i x g. rw (event_of-start k) (((all_own (PairKept (start_node k) 0 x) p (least_of-pair_kept (start_node k) 0 x (own_bounds p) g)).ranged k
            (omega arith)).start_down refl refl))
            (λ k h i x g. rw (event_of-finish k) (((all_own (PairKept (finish_node k) 0 x) p (least_of-pair_kept (finish_node k) 0 x (own_bounds p) g)).ranged k
            (omega arith)).finish_down refl refl));
      }

  nodes_seen-one : (u : History) → p.jobs ≤ length u → NodesSeen p (nodes p.jobs) u
  nodes_seen-one u n = record { seen = omega arith; two = omega arith }

  module _ (c0 : Rows) (c0-is : C0 p ≡ bounds c0) where
    pub C0-well_formed : WellFormed p (nodes p.jobs) c0
    unfolding C0
    C0-well_formed = judged-well_formed p (nodes p.jobs) (least_of (own_bounds p)) c0 own-origin_bounded c0-is

    pub C0-past : (y z : ℕ) → (nodes p.jobs ≤ y) ⊎ (nodes p.jobs ≤ z) → at c0 y z ≡ off
    unfolding C0
    C0-past = judged_set-past p (nodes p.jobs) (least_of (own_bounds p)) c0 c0-is

    pub C0-keeps : (u : History) → All (BetweenKept u) (own_bounds p) → Keeps (nodes p.jobs) (at c0) u
    unfolding C0
    C0-keeps u own =
        judged-keeps p (nodes p.jobs) (least_of (own_bounds p)) own-origin_bounded c0 c0-is u (kept-least_of (nodes p.jobs) (own_bounds p) u own)

    pub C0-back : (u : History) → p.jobs ≤ length u → RunsInside p u → Keeps (nodes p.jobs) (at c0) u → All (BetweenKept u) (own_bounds p)
    unfolding C0
    C0-back u n old kept =
        least_of-kept (nodes p.jobs) (own_bounds p) u (own_below p good)
        (judged-back p (nodes p.jobs) (least_of (own_bounds p)) own-origin_bounded c0 c0-is u (nodes_seen-one u n) old kept)

  pub C0-none : C0 p ≡ contradiction → Fails p p.jobs (λ u. All (BetweenKept u) (own_bounds p))
  unfolding C0
  C0-none e =
      let f = judged-none p (nodes p.jobs) (least_of (own_bounds p)) own-origin_bounded e in
      (f.0, λ u n x own. f.1 u (nodes_seen-one u (omega arith)) x (kept-least_of (nodes p.jobs) (own_bounds p) u own))

-- ---- nodes of the next window

-- where a node stands when its set is put on the next window
abbrev pub next_node : Plan → ℕ → ℕ
next_node p y = onto p.jobs y

module _ (p : Plan) where
  pub next-later : (y : ℕ) → 0 < y → next_node p y ≡ y + own_nodes p
  next-later y h = sym (onto-event p.jobs y (λ e. omega arith))

  pub moved_later : (y : ℕ) → 0 < y → shift_of p y ≡ p.window
  moved_later y h = sym (shift_by-event p.window y (λ e. omega arith))

  pub event-next-start : (k : ℕ) → event_of (next_node p (start_node k)) ≡ Start (p.jobs + k)
  event-next-start k =
      let e : start_node k + own_nodes p ≡ start_node (p.jobs + k) = omega arith in
      ap event_of (next-later (start_node k) (omega arith) ∙ e) ∙ event_of-start (p.jobs + k)

  pub event-next-finish : (k : ℕ) → event_of (next_node p (finish_node k)) ≡ Finish (p.jobs + k)
  event-next-finish k =
      let e : finish_node k + own_nodes p ≡ finish_node (p.jobs + k) = omega arith in
      ap event_of (next-later (finish_node k) (omega arith) ∙ e) ∙ event_of-finish (p.jobs + k)

  -- a node of two windows is one of this window's, or one of the next window's or the origin
  own-or-next : (y : ℕ) → y < nodes (p.jobs + p.jobs)
      → (is_own p y ≡ true) ⊎ ((x : ℕ) × (x < nodes p.jobs) × (y ≡ next_node p x))
  own-or-next y h = ⊎_elim inl (λ e. inr (y - own_nodes p, omega arith, e)) (on-next.own-or-next p y)

-- ---- times of the next window

module _ (p : Plan) (u : History) (two : p.jobs + p.jobs ≤ length u) where
  one-window : (w : ℤ) → pos 1 *ℤ w ≡ w
  one-window w = let m = split-mul 1 w in omega wholes

  ran-next : (k : ℕ) → k < p.jobs → ran_in (seen_from p 1 u) k ≡ on_window p.window (ran_in u (p.jobs + k))
  ran-next k h =
      let e : 1 * p.jobs + k ≡ p.jobs + k = omega arith in
      ran-seen p 1 u k (omega arith) ∙ ap₂ (λ w i. on_window w (ran_in u i)) (one-window p.window) e

  when-next : (y : ℕ) → y < nodes p.jobs → when (seen_from p 1 u) (event_of y) ≡ when u (event_of (next_node p y)) -ℤ shift_of p y
  unfolding event_of onto
  when-next =
      by_node (λ y. y < nodes p.jobs → when (seen_from p 1 u) (event_of y) ≡ when u (event_of (next_node p y)) -ℤ shift_of p y)
      (λ h. refl)
      (λ k h. rw (event_of-start k, event-next-start p k, moved_later p (start_node k) (omega arith)) (ap (λ r. r.start) (ran-next k (omega arith))))
      (λ k h. rw (event_of-finish k, event-next-finish p k, moved_later p (finish_node k) (omega arith)) (ap (λ r. r.finish) (ran-next k (omega arith))))

-- ---- ranges of the next window

module _ (p : Plan) where
  pub job-next : (k : ℕ) → k < p.jobs → job_at p (p.jobs + k) ≡ job_at p k
  job-next k h =
      let e : 1 * p.jobs + k ≡ p.jobs + k = omega arith in
      job_at-turn p (p.jobs + k) (omega arith) ∙ ap (turn p) (sym e) ∙ turn-seen p 1 k ∙ sym (job_at-turn p k (omega arith))

  pub next-shift : (k : ℕ) → shift p (p.jobs + k) ≡ p.window
  unfolding shift
  next-shift k = rw (le-ltb (p.jobs + k) p.jobs (omega arith))

  one-zero : (a w : ℤ) → a +ℤ w ≡ (a +ℤ pos 0) +ℤ w
  one-zero a w = omega (shows eq (any ⊕ any) (any ⊕ any ⊕ any), wholes)

  latest-next : (y : ℕ) → y < nodes p.jobs → 0 < y → latest p (event_of (next_node p y)) ≡ latest p (event_of y) +ℤ p.window
  unfolding latest
  latest-next =
      by_node (λ y. y < nodes p.jobs → 0 < y → latest p (event_of (next_node p y)) ≡ latest p (event_of y) +ℤ p.window)
      (λ h i. absurd (omega arith))
      (λ k h i. rw (event_of-start k, event-next-start p k, next-shift k, this-shift p k (omega arith), job-next k (omega arith))
      (one-zero ((job_at p k).deadline -ℤ (job_at p k).max) p.window))
      (λ k h i. rw (event_of-finish k, event-next-finish p k, next-shift k, this-shift p k (omega arith), job-next k (omega arith))
      (one-zero (job_at p k).deadline p.window))

  earliest-next : (y : ℕ) → y < nodes p.jobs → 0 < y → earliest p (event_of (next_node p y)) ≡ earliest p (event_of y) +ℤ p.window
  unfolding earliest
  earliest-next =
      by_node (λ y. y < nodes p.jobs → 0 < y → earliest p (event_of (next_node p y)) ≡ earliest p (event_of y) +ℤ p.window)
      (λ h i. absurd (omega arith))
      (λ k h i. rw (event_of-start k, event-next-start p k, next-shift k, this-shift p k (omega arith), job-next k (omega arith))
      (one-zero (job_at p k).release p.window))
      (λ k h i. rw (event_of-finish k, event-next-finish p k, next-shift k, this-shift p k (omega arith), job-next k (omega arith))
      (one-zero ((job_at p k).release +ℤ (job_at p k).min) p.window))

-- ---- the set that a round starts with

-- before it is judged
abbrev pub joined_cell : Plan → Rows → Rows → ℕ → ℕ → Cell
joined_cell p c0 c y z = lesser_cell (at c0 y z) (lesser_cell (on_next p c y z) (least_of (between_bounds p) y z))

joined_cell-parts : (p : Plan) (c0 c : Rows) (y z : ℕ) (x : ℤ) → Holds (joined_cell p c0 c y z) x
    → Holds (at c0 y z) x × Holds (on_next p c y z) x × Holds (least_of (between_bounds p) y z) x
joined_cell-parts p c0 c y z x h =
    let r = (least_iff (at c0 y z) _ x).0 h in
    let q = (least_iff (on_next p c y z) _ x).0 r.1 in
    (r.0, q.0, q.1)

back_above : (x l w : ℤ) → (x -ℤ (w -ℤ pos 0)) ≤ℤ l → x ≤ℤ (l +ℤ w)
back_above x l w h = omega (reads le (any ⊖ (any ⊖ any)) any, wholes)

back_below : (x e w : ℤ) → (x -ℤ (pos 0 -ℤ w)) ≤ℤ neg_ℤ e → x ≤ℤ neg_ℤ (e +ℤ w)
back_below x e w h = omega (reads le (any ⊖ (any ⊖ any)) any, wholes, split-neg e, split-neg (e +ℤ w), split-add e w)

module _ (p : Plan) (good : Accepted p) (c0 c : Rows) (t0 : WellFormed p (nodes p.jobs) c0) (tc : OriginBounded p (nodes p.jobs) (at c)) where
  above-next : (y : ℕ) → y < nodes p.jobs → 0 < y → (x : ℤ) → Holds (on_next p c 0 (next_node p y)) x → x ≤ℤ latest p (event_of (next_node p y))
  unfolding onto
  above-next y h i x g =
      let a : Holds (plus (at c 0 y) (shift_of p y -ℤ shift_of p 0)) x = rw (on_next-onto p c 0 y) at g in
      let b = tc.above y h i _ ((plus-iff (at c 0 y) (shift_of p y -ℤ shift_of p 0) x).0 a) in
      rw (latest-next p y h i) (back_above x (latest p (event_of y)) p.window (rw (moved_later p y i) at b))

  below_next : (y : ℕ) → y < nodes p.jobs → 0 < y → (x : ℤ) → Holds (on_next p c (next_node p y) 0) x → x ≤ℤ neg_ℤ (earliest p (event_of (next_node p y)))
  unfolding onto
  below_next y h i x g =
      let a : Holds (plus (at c y 0) (shift_of p 0 -ℤ shift_of p y)) x = rw (on_next-onto p c y 0) at g in
      let b = tc.below y h i _ ((plus-iff (at c y 0) (shift_of p 0 -ℤ shift_of p y) x).0 a) in
      rw (earliest-next p y h i) (back_below x (earliest p (event_of y)) p.window (rw (moved_later p y i) at b))

  later-node : (y : ℕ) → own_nodes p < y → y < nodes (p.jobs + p.jobs) → (x : ℕ) × (x < nodes p.jobs) × (0 < x) × (y ≡ next_node p x)
  later-node y h i =
      let e : y ≡ (y - own_nodes p) + own_nodes p = omega arith in
      (y - own_nodes p, omega arith, omega arith, e ∙ sym (next-later p (y - own_nodes p) (omega arith)))

  joined-origin_bounded : OriginBounded p (nodes (p.jobs + p.jobs)) (joined_cell p c0 c)
  joined-origin_bounded =
      record {
        above =
            λ y h i x g.
            let r = joined_cell-parts p c0 c 0 y x g in
            ⊎_elim (λ (a : y ≤ own_nodes p). t0.origin_bounded.above y (omega arith) i x r.0)
            (λ (a : own_nodes p < y).
            let n = later-node y a h in
            rw n.3 (above-next n.0 n.1 n.2 x (rw n.3 at r.1)))
            (at-most-or-above y (own_nodes p));
        below =
            λ y h i x g.
            let r = joined_cell-parts p c0 c y 0 x g in
            ⊎_elim (λ (a : y ≤ own_nodes p). t0.origin_bounded.below y (omega arith) i x r.0)
            (λ (a : own_nodes p < y).
            let n = later-node y a h in
            rw n.3 (below_next n.0 n.1 n.2 x (rw n.3 at r.1)))
            (at-most-or-above y (own_nodes p));
      }

-- a gap on the next window's clock
gap-moved : (a b v w : ℤ) → (a -ℤ v) -ℤ (b -ℤ w) ≡ (a -ℤ b) -ℤ (v -ℤ w)
gap-moved a b v w = omega (shows eq (any ⊖ any ⊖ (any ⊖ any)) (any ⊖ any ⊖ (any ⊖ any)), wholes)

module _ (p : Plan) (c : Rows) (u : History) (two : p.jobs + p.jobs ≤ length u) where
  gap-next : (y z : ℕ) → y < nodes p.jobs → z < nodes p.jobs
      → gap (seen_from p 1 u) y z ≡ gap u (next_node p y) (next_node p z) -ℤ (shift_of p z -ℤ shift_of p y)
  gap-next y z a b =
      ap₂ (λ v w. v -ℤ w) (when-next p u two z b) (when-next p u two y a)
      ∙ gap-moved (when u (event_of (next_node p z))) (when u (event_of (next_node p y))) (shift_of p z) (shift_of p y)

  next-keeps : Keeps (nodes (p.jobs + p.jobs)) (on_next p c) u → Keeps (nodes p.jobs) (at c) (seen_from p 1 u)
  unfolding onto
  next-keeps kept y z a b =
      rw (gap-next y z a b)
      ((plus-iff (at c y z) (shift_of p z -ℤ shift_of p y) (gap u (next_node p y) (next_node p z))).0
      (rw (on_next-onto p c y z) at (kept (next_node p y) (next_node p z) (low y a) (low z b))))
    where
      low : (y : ℕ) → y < nodes p.jobs → next_node p y < nodes (p.jobs + p.jobs)
      low zero h = omega arith
      low (suc y) h = rw (next-later p (suc y) (omega arith)) (omega arith)

  keeps-next-at : Keeps (nodes p.jobs) (at c) (seen_from p 1 u) → (y z : ℕ) → y < nodes p.jobs → z < nodes p.jobs
      → Holds (on_next p c (next_node p y) (next_node p z)) (gap u (next_node p y) (next_node p z))
  keeps-next-at kept y z a b =
      rw (on_next-onto p c y z)
      ((plus-iff (at c y z) (shift_of p z -ℤ shift_of p y) (gap u (next_node p y) (next_node p z))).1
      (rw (gap-next y z a b) at (kept y z a b)))

  keeps-next : Keeps (nodes p.jobs) (at c) (seen_from p 1 u) → Keeps (nodes (p.jobs + p.jobs)) (on_next p c) u
  unfolding onto
  keeps-next kept y z a b =
      ⊎_elim (λ (h : is_own p y ≡ true). rw (on-next.on_next-own p c y z (inl h)) tt)
      (λ (h : (x : ℕ) × (x < nodes p.jobs) × (y ≡ next_node p x)).
      ⊎_elim (λ (g : is_own p z ≡ true). rw (on-next.on_next-own p c y z (inr g)) tt)
      (λ (g : (x : ℕ) × (x < nodes p.jobs) × (z ≡ next_node p x)).
      subst (λ y. Holds (on_next p c y z) (gap u y z)) (sym h.2)
      (subst (λ z. Holds (on_next p c (next_node p h.0) z) (gap u (next_node p h.0) z)) (sym g.2)
      (keeps-next-at kept h.0 g.0 h.1 g.1)))
      (own-or-next p z b))
      (own-or-next p y a)

-- the times of two windows keep c0 on this one, c on the next one, and the bounds between
pub record Both (p : Plan) (c0 c : Rows) (u : History) : Type 0 where
  pub this : Keeps (nodes p.jobs) (at c0) u
  pub next : Keeps (nodes p.jobs) (at c) (seen_from p 1 u)
  pub across : All (BetweenKept u) (between_bounds p)

module _ (p : Plan) (good : Accepted p) (c0 c : Rows) (c0-is : C0 p ≡ bounds c0) (tc : OriginBounded p (nodes p.jobs) (at c)) where
  raw-keeps : (u : History) → p.jobs + p.jobs ≤ length u → Both p c0 c u → Keeps (nodes (p.jobs + p.jobs)) (joined_cell p c0 c) u
  raw-keeps u two both y z a b =
      (least_iff (at c0 y z) _ (gap u y z)).1 (
        own y z (at-most-or-above (nodes p.jobs) y) (at-most-or-above (nodes p.jobs) z),
        (least_iff (on_next p c y z) _ (gap u y z)).1
            (keeps-next p c u two both.next y z a b, kept-least_of (nodes (p.jobs + p.jobs)) (between_bounds p) u both.across y z a b),
      )
    where
      own : (y z : ℕ) → (nodes p.jobs ≤ y) ⊎ (y < nodes p.jobs) → (nodes p.jobs ≤ z) ⊎ (z < nodes p.jobs) → Holds (at c0 y z) (gap u y z)
      own y z (inl h) k = rw (C0-past p good c0 c0-is y z (inl h)) tt
      own y z (inr h) (inl k) = rw (C0-past p good c0 c0-is y z (inr k)) tt
      own y z (inr h) (inr k) = both.this y z h k

  two-nodes_seen : (u : History) → length u ≡ p.jobs + p.jobs → NodesSeen p (nodes (p.jobs + p.jobs)) u
  two-nodes_seen u n = record { seen = omega arith; two = omega arith }

  origin_bounded : OriginBounded p (nodes (p.jobs + p.jobs)) (joined_cell p c0 c)
  origin_bounded = joined-origin_bounded p good c0 c (C0-well_formed p good c0 c0-is) tc

  module _ (t : Rows) (t-is : joined p c0 c ≡ bounds t) where
    pub joined-well_formed : WellFormed p (nodes (p.jobs + p.jobs)) t
    unfolding joined
    joined-well_formed = judged-well_formed p (nodes (p.jobs + p.jobs)) (joined_cell p c0 c) t origin_bounded t-is

    pub joined_keeps : (u : History) → length u ≡ p.jobs + p.jobs → Both p c0 c u → Keeps (nodes (p.jobs + p.jobs)) (at t) u
    unfolding joined
    joined_keeps u n both =
        judged-keeps p (nodes (p.jobs + p.jobs)) (joined_cell p c0 c) origin_bounded t t-is u (raw-keeps u (omega arith) both)

    pub joined_back : (u : History) → length u ≡ p.jobs + p.jobs → RunsInside p u → Keeps (nodes (p.jobs + p.jobs)) (at t) u → Both p c0 c u
    unfolding joined
    joined_back u n old kept =
        let raw = judged-back p (nodes (p.jobs + p.jobs)) (joined_cell p c0 c) origin_bounded t t-is u (two-nodes_seen u n) old kept in
        record {
          this = λ y z a b. (joined_cell-parts p c0 c y z (gap u y z) (raw y z (omega arith) (omega arith))).0;
          next = next-keeps p c u (omega arith) (λ y z a b. (joined_cell-parts p c0 c y z (gap u y z) (raw y z a b)).1);
          across =
              least_of-kept (nodes (p.jobs + p.jobs)) (between_bounds p) u (across-below p good)
              (λ y z a b. (joined_cell-parts p c0 c y z (gap u y z) (raw y z a b)).2);
        }

  pub joined-none : joined p c0 c ≡ contradiction → Fails p (p.jobs + p.jobs) (Both p c0 c)
  unfolding joined
  joined-none e =
      let f = judged-none p (nodes (p.jobs + p.jobs)) (joined_cell p c0 c) origin_bounded e in
      (f.0, λ u n x both. f.1 u (two-nodes_seen u n) x (raw-keeps u (omega arith) both))
