-- The tables of the rounds are fit: C(0) is, a joined set of fit tables is, and so is what remains of it. So every weight that is carried from round to
-- round is in range.
use Rattle.std.specs.Prelude.{ℕ, zero, suc, ◌+◌, ◌-◌, ◌≤◌, ◌<◌, ◌≡◌, refl, ◌⊎◌, Bool, true, false, cond, ◌&&◌, List, [], ◌∷◌, ◌++◌, eqb, ltb, ℤ, pos, neg_ℤ, ◌+ℤ◌, ◌-ℤ◌, ◌≤ℤ◌, get_or}
use Rattle.std.proofs.Common.{sym, ap, ap₂, subst₂, ◌∙◌, inl, inr, ⊎_elim, arith, eq-eqb, ltb-true, ltb-false}
use Rattle.std.proofs.Math.Path.{subst}
use Rattle.whole.specs.SplitLaws.{split-add, split-sub, split-neg}
use Rattle.whole.specs.Rules.{wholes}
use Rattle.plan.specs.declared.Plan.{Plan}
use Rattle.plan.specs.PlanLines.{no_job}
use Rattle.bounds.specs.declared.Event.{Event}
use Rattle.bounds.specs.declared.Event.TheVariants.{Start, Finish}
use Rattle.bounds.specs.Events.{job_at, shift, earliest, latest, event_of, node_of, start_node, finish_node, nodes}
use Rattle.bounds.specs.EventsLaws.{job_at-this, job_at-next, shift-this, shift-next}
use Rattle.bounds.specs.Tables.{Cell, upto, lesser_cell, plus, Rows, at, Between, least_of, bounds}
use Rattle.bounds.specs.Elimination.{without_place, eliminated}
use Rattle.bounds.specs.BuildLaws.{by_node, event_of-start, event_of-finish}
use Rattle.bounds.specs.LeadsToLaws.{least-comm}
use Rattle.bounds.specs.Held.{CellAtMost, JudgedTable}
use Rattle.bounds.specs.JudgedTableLaws.{least-most, judged_set-judged-table}
use Rattle.bounds.specs.PlacesLaws.{then_set-some, without_place-judged-table}
use Rattle.bounds.specs.StartLaws.{less-or-same}
use Rattle.rounds.specs.Given.{up_to, down_to, ranges, own_bounds, between_bounds}
use Rattle.rounds.specs.Rounds.{C0, own_nodes, on_next, joined}
use Rattle.rounds.specs.OnNextLaws.{onto-origin, onto-event, shift_by-origin, shift_by-event, on_next-onto}

-- ---- a bound of a list

abbrev In : Between → List Between → Type 0
In b [] = ⊥
In b (c ∷ cs) = (b ≡ c) ⊎ In b cs

in_left : (b : Between) (bs cs : List Between) → In b bs → In b (bs ++ cs)
in_left b [] cs h = absurd h
in_left b (c ∷ bs) cs (inl e) = inl e
in_left b (c ∷ bs) cs (inr h) = inr (in_left b bs cs h)

self-most : (w : ℤ) → CellAtMost (upto w) w
self-most w = record { weight = w; held = refl; most = omega wholes }

right-most : (c : Cell) {d : Cell} {a : ℤ} → CellAtMost d a → CellAtMost (lesser_cell c d) a
right-most c {d} {a} m = subst (λ c. CellAtMost c a) (least-comm d c) (least-most c m)

-- the least weight of a pair is at most that of each bound on it
least_of-most : (b : Between) (bs : List Between) → In b bs → CellAtMost (least_of bs (node_of b.y) (node_of b.z)) b.w
unfolding least_of
least_of-most b [] h = absurd h
least_of-most b (c ∷ cs) (inl e) =
    subst (λ c. CellAtMost (least_of (c ∷ cs) (node_of b.y) (node_of b.z)) b.w) e
    (rw (eq-eqb (node_of b.y) (node_of b.y) refl, eq-eqb (node_of b.z) (node_of b.z) refl)
    (least-most (least_of cs (node_of b.y) (node_of b.z)) (self-most b.w)))
least_of-most b (c ∷ cs) (inr h) = by (eqb (node_of c.y) (node_of b.y) && eqb (node_of c.z) (node_of b.z)) (least_of-most b cs h)
  where
    by : (q : Bool) → CellAtMost (least_of cs (node_of b.y) (node_of b.z)) b.w
        → CellAtMost (cond q (lesser_cell (upto c.w) (least_of cs (node_of b.y) (node_of b.z))) (least_of cs (node_of b.y) (node_of b.z))) b.w
    by true m = right-most (upto c.w) m
    by false m = m

-- ---- the own bounds have a range for each event

record Ranged (p : Plan) (e : Event) (bs : List Between) : Type 0 where
  up : In (up_to p e) bs
  down : In (down_to p e) bs

record BothRanged (p : Plan) (k : ℕ) (bs : List Between) : Type 0 where
  start : Ranged p (Start k) bs
  finish : Ranged p (Finish k) bs

later : (p : Plan) (e : Event) (a b c d : Between) (bs : List Between) → Ranged p e bs → Ranged p e (a ∷ b ∷ c ∷ d ∷ bs)
later p e a b c d bs r = record { up = inr (inr (inr (inr r.up))); down = inr (inr (inr (inr r.down))) }

ranges-both : (p : Plan) (n k : ℕ) → k < n → BothRanged p k (ranges p n)
unfolding ranges
ranges-both p zero k h = absurd (omega arith)
ranges-both p (suc n) k h =
    ⊎_elim
    (λ l. let r = ranges-both p n k l in record {
      start = later p (Start k) _ _ _ _ (ranges p n) r.start;
      finish = later p (Finish k) _ _ _ _ (ranges p n) r.finish;
    })
    (λ e.
    subst (λ k. BothRanged p k (ranges p (suc n))) (sym e)
    (record { start = record { up = inl refl; down = inr (inl refl) }; finish = record { up = inr (inr (inl refl)); down = inr (inr (inr (inl refl))) } }))
    (less-or-same k n (omega arith))

module _ (p : Plan) where
  own-both : (k : ℕ) → k < p.jobs → BothRanged p k (own_bounds p)
  unfolding own_bounds
  own-both k h =
      let r = ranges-both p p.jobs k h in
      record {
        start = record { up = in_left _ (ranges p p.jobs) _ r.start.up; down = in_left _ (ranges p p.jobs) _ r.start.down };
        finish = record { up = in_left _ (ranges p p.jobs) _ r.finish.up; down = in_left _ (ranges p p.jobs) _ r.finish.down };
      }

  own-above : (y : ℕ) → 0 < y → y < nodes p.jobs → CellAtMost (least_of (own_bounds p) 0 y) (latest p (event_of y))
  unfolding node_of
  own-above =
      by_node (λ y. 0 < y → y < nodes p.jobs → CellAtMost (least_of (own_bounds p) 0 y) (latest p (event_of y)))
      (λ h l. absurd (omega arith))
      (λ k h l. subst (λ e. CellAtMost (least_of (own_bounds p) 0 (start_node k)) (latest p e)) (sym (event_of-start k))
      (least_of-most (up_to p (Start k)) (own_bounds p) (own-both k (omega arith)).start.up))
      (λ k h l. subst (λ e. CellAtMost (least_of (own_bounds p) 0 (finish_node k)) (latest p e)) (sym (event_of-finish k))
      (least_of-most (up_to p (Finish k)) (own_bounds p) (own-both k (omega arith)).finish.up))

  own_below : (y : ℕ) → 0 < y → y < nodes p.jobs → CellAtMost (least_of (own_bounds p) y 0) (neg_ℤ (earliest p (event_of y)))
  unfolding node_of
  own_below =
      by_node (λ y. 0 < y → y < nodes p.jobs → CellAtMost (least_of (own_bounds p) y 0) (neg_ℤ (earliest p (event_of y))))
      (λ h l. absurd (omega arith))
      (λ k h l. subst (λ e. CellAtMost (least_of (own_bounds p) (start_node k) 0) (neg_ℤ (earliest p e))) (sym (event_of-start k))
      (least_of-most (down_to p (Start k)) (own_bounds p) (own-both k (omega arith)).start.down))
      (λ k h l. subst (λ e. CellAtMost (least_of (own_bounds p) (finish_node k) 0) (neg_ℤ (earliest p e))) (sym (event_of-finish k))
      (least_of-most (down_to p (Finish k)) (own_bounds p) (own-both k (omega arith)).finish.down))

  pub C0-judged-table : (c0 : Rows) → C0 p ≡ bounds c0 → JudgedTable p (nodes p.jobs) c0
  unfolding C0
  C0-judged-table c0 e = judged_set-judged-table p (nodes p.jobs) (least_of (own_bounds p)) c0 own-above own_below e

-- ---- the next window's times

pub zero-between : (a w : ℤ) → a +ℤ w ≡ (a +ℤ pos 0) +ℤ w
zero-between a w = omega (wholes, split-add a w, split-add (a +ℤ pos 0) w, split-add a (pos 0))

module _ (p : Plan) (k : ℕ) (h : k < p.jobs) where
  job-next : job_at p (k + p.jobs) ≡ job_at p k
  job-next =
      let back : (k + p.jobs) - p.jobs ≡ k = omega arith in
      sym (job_at-next p (k + p.jobs) (omega arith)) ∙ ap (λ i. get_or p.job i no_job) back ∙ job_at-this p k h

  shift-later : shift p (k + p.jobs) ≡ p.window
  shift-later = sym (shift-next p (k + p.jobs) (omega arith))

  shift_none : shift p k ≡ pos 0
  shift_none = sym (shift-this p k h)

  latest-start-next : latest p (Start (k + p.jobs)) ≡ latest p (Start k) +ℤ p.window
  unfolding latest
  latest-start-next = rw (job-next, shift-later, shift_none) (zero-between ((job_at p k).deadline -ℤ (job_at p k).max) p.window)

  latest-finish-next : latest p (Finish (k + p.jobs)) ≡ latest p (Finish k) +ℤ p.window
  unfolding latest
  latest-finish-next = rw (job-next, shift-later, shift_none) (zero-between (job_at p k).deadline p.window)

  earliest-start-next : earliest p (Start (k + p.jobs)) ≡ earliest p (Start k) +ℤ p.window
  unfolding earliest
  earliest-start-next = rw (job-next, shift-later, shift_none) (zero-between (job_at p k).release p.window)

  earliest-finish-next : earliest p (Finish (k + p.jobs)) ≡ earliest p (Finish k) +ℤ p.window
  unfolding earliest
  earliest-finish-next = rw (job-next, shift-later, shift_none) (zero-between ((job_at p k).release +ℤ (job_at p k).min) p.window)

module _ (p : Plan) where
  next_start : (k : ℕ) → event_of (start_node k + own_nodes p) ≡ Start (k + p.jobs)
  next_start k = let e : start_node k + own_nodes p ≡ start_node (k + p.jobs) = omega arith in ap event_of e ∙ event_of-start (k + p.jobs)

  next-finish : (k : ℕ) → event_of (finish_node k + own_nodes p) ≡ Finish (k + p.jobs)
  next-finish k = let e : finish_node k + own_nodes p ≡ finish_node (k + p.jobs) = omega arith in ap event_of e ∙ event_of-finish (k + p.jobs)

  latest-next : (y : ℕ) → 0 < y → y < nodes p.jobs → latest p (event_of (y + own_nodes p)) ≡ latest p (event_of y) +ℤ p.window
  latest-next =
      by_node (λ y. 0 < y → y < nodes p.jobs → latest p (event_of (y + own_nodes p)) ≡ latest p (event_of y) +ℤ p.window) (λ h l. absurd (omega arith))
      (λ k h l. ap (latest p) (next_start k) ∙ latest-start-next p k (omega arith) ∙ ap (λ e. latest p e +ℤ p.window) (sym (event_of-start k)))
      (λ k h l. ap (latest p) (next-finish k) ∙ latest-finish-next p k (omega arith) ∙ ap (λ e. latest p e +ℤ p.window) (sym (event_of-finish k)))

  earliest-next : (y : ℕ) → 0 < y → y < nodes p.jobs → earliest p (event_of (y + own_nodes p)) ≡ earliest p (event_of y) +ℤ p.window
  earliest-next =
      by_node (λ y. 0 < y → y < nodes p.jobs → earliest p (event_of (y + own_nodes p)) ≡ earliest p (event_of y) +ℤ p.window) (λ h l. absurd (omega arith))
      (λ k h l. ap (earliest p) (next_start k) ∙ earliest-start-next p k (omega arith) ∙ ap (λ e. earliest p e +ℤ p.window) (sym (event_of-start k)))
      (λ k h l. ap (earliest p) (next-finish k) ∙ earliest-finish-next p k (omega arith) ∙ ap (λ e. earliest p e +ℤ p.window) (sym (event_of-finish k)))

-- ---- a joined set

plus-upto : (w a : ℤ) → plus (upto w) a ≡ upto (w +ℤ a)
unfolding plus
plus-upto w a = refl

sum-most : (w v a b : ℤ) → w ≤ℤ v → b ≡ v +ℤ a → (w +ℤ a) ≤ℤ b
sum-most w v a b h e = subst (λ b. (w +ℤ a) ≤ℤ b) (sym e) (omega wholes)

plus-most : {c : Cell} {v : ℤ} (a b : ℤ) → CellAtMost c v → b ≡ v +ℤ a → CellAtMost (plus c a) b
plus-most {c} {v} a b m e =
    record { weight = m.weight +ℤ a; held = ap (λ c. plus c a) m.held ∙ plus-upto m.weight a; most = sum-most m.weight v a b m.most e }

module _ (p : Plan) (c0 t : Rows) (own-judged-table : JudgedTable p (nodes p.jobs) c0) (fit : JudgedTable p (nodes p.jobs) t) where
  abbrev joined_cell : ℕ → ℕ → Cell
  joined_cell y z = lesser_cell (at c0 y z) (lesser_cell (on_next p t y z) (least_of (between_bounds p) y z))

  up-sum : (v w : ℤ) → v +ℤ w ≡ v +ℤ (w -ℤ pos 0)
  up-sum v w = ap (λ w. v +ℤ w) (sym (none w))
    where
      none : (w : ℤ) → w -ℤ pos 0 ≡ w
      none w = omega wholes

  down-sum : (v w : ℤ) → neg_ℤ (v +ℤ w) ≡ neg_ℤ v +ℤ (pos 0 -ℤ w)
  down-sum v w = omega (wholes, split-neg (v +ℤ w), split-add v w, split-add (neg_ℤ v) (pos 0 -ℤ w), split-neg v, split-sub (pos 0) w)

  -- a node past this window's own, and its node in the carried table
  next-above : (y : ℕ) → 0 < y → y < nodes p.jobs → CellAtMost (on_next p t 0 (y + own_nodes p)) (latest p (event_of (y + own_nodes p)))
  next-above y h l =
      let cell : on_next p t 0 (y + own_nodes p) ≡ plus (at t 0 y) (p.window -ℤ pos 0)
      = ap₂ (on_next p t) (onto-origin p.jobs 0 refl) (onto-event p.jobs y (λ e. omega arith))
      ∙ on_next-onto p t 0 y
      ∙ ap₂ (λ a b. plus (at t 0 y) (a -ℤ b)) (sym (shift_by-event p.window y (λ e. omega arith))) (sym (shift_by-origin p.window 0 refl)) in
      subst (λ c. CellAtMost c (latest p (event_of (y + own_nodes p)))) (sym cell)
      (plus-most (p.window -ℤ pos 0) (latest p (event_of (y + own_nodes p))) (fit.above y h l)
      (latest-next p y h l ∙ up-sum (latest p (event_of y)) p.window))

  next-below : (y : ℕ) → 0 < y → y < nodes p.jobs → CellAtMost (on_next p t (y + own_nodes p) 0) (neg_ℤ (earliest p (event_of (y + own_nodes p))))
  next-below y h l =
      let cell : on_next p t (y + own_nodes p) 0 ≡ plus (at t y 0) (pos 0 -ℤ p.window)
      = ap₂ (on_next p t) (onto-event p.jobs y (λ e. omega arith)) (onto-origin p.jobs 0 refl)
      ∙ on_next-onto p t y 0
      ∙ ap₂ (λ a b. plus (at t y 0) (a -ℤ b)) (sym (shift_by-origin p.window 0 refl)) (sym (shift_by-event p.window y (λ e. omega arith))) in
      subst (λ c. CellAtMost c (neg_ℤ (earliest p (event_of (y + own_nodes p))))) (sym cell)
      (plus-most (pos 0 -ℤ p.window) (neg_ℤ (earliest p (event_of (y + own_nodes p)))) (fit.below y h l)
      (ap neg_ℤ (earliest-next p y h l) ∙ down-sum (earliest p (event_of y)) p.window))

  joined-above : (y : ℕ) → 0 < y → y < nodes (p.jobs + p.jobs) → CellAtMost (joined_cell 0 y) (latest p (event_of y))
  joined-above y h l = by (ltb y (nodes p.jobs)) refl
    where
      by : (b : Bool) → ltb y (nodes p.jobs) ≡ b → CellAtMost (joined_cell 0 y) (latest p (event_of y))
      by true e = least-most _ (own-judged-table.above y h (ltb-true y _ e))
      by false e =
          let low : nodes p.jobs ≤ y = ltb-false y _ e in
          let past : (y - own_nodes p) + own_nodes p ≡ y = omega arith in
          right-most (at c0 0 y)
          (least-most (least_of (between_bounds p) 0 y)
          (subst (λ y. CellAtMost (on_next p t 0 y) (latest p (event_of y))) past (next-above (y - own_nodes p) (omega arith) (omega arith))))

  joined-below : (y : ℕ) → 0 < y → y < nodes (p.jobs + p.jobs) → CellAtMost (joined_cell y 0) (neg_ℤ (earliest p (event_of y)))
  joined-below y h l = by (ltb y (nodes p.jobs)) refl
    where
      by : (b : Bool) → ltb y (nodes p.jobs) ≡ b → CellAtMost (joined_cell y 0) (neg_ℤ (earliest p (event_of y)))
      by true e = least-most _ (own-judged-table.below y h (ltb-true y _ e))
      by false e =
          let low : nodes p.jobs ≤ y = ltb-false y _ e in
          let past : (y - own_nodes p) + own_nodes p ≡ y = omega arith in
          right-most (at c0 y 0)
          (least-most (least_of (between_bounds p) y 0)
          (subst (λ y. CellAtMost (on_next p t y 0) (neg_ℤ (earliest p (event_of y)))) past (next-below (y - own_nodes p) (omega arith) (omega arith))))

  pub joined-judged-table : (u : Rows) → joined p c0 t ≡ bounds u → JudgedTable p (nodes (p.jobs + p.jobs)) u
  unfolding joined
  joined-judged-table u e = judged_set-judged-table p (nodes (p.jobs + p.jobs)) joined_cell u joined-above joined-below e

-- ---- what remains

pub eliminated-judged-table : (p : Plan) (low count : ℕ) (t u : Rows) → JudgedTable p (nodes (low + count)) t → eliminated p low count t ≡ bounds u
    → JudgedTable p (nodes low) u
unfolding eliminated
eliminated-judged-table p low zero t u fit e =
    let none : nodes (low + 0) ≡ nodes low = omega arith in
    let same : t ≡ u = cc in
    subst₂ (λ n t. JudgedTable p n t) none same fit
eliminated-judged-table p low (suc count) t u fit e =
    then_set-some (without_place p (low + count) t) (eliminated p low count) u
    (λ v h q.
    let last : nodes (low + suc count) ≡ nodes (low + count + 1) = omega arith in
    eliminated-judged-table p low count v u (without_place-judged-table p (low + count) t v (subst (λ n. JudgedTable p n t) last fit) h) q)
    e
