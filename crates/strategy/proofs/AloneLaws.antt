-- One window alone: among the origin and the next window's nodes, a round's elimination is cell for cell the elimination of that window alone, moved by
-- `window`. So where a round gives no contradiction, one window alone gives none, and the first window's tables are the later ones.
use Prim.Native.Nat.{ℕ, zero, suc, ◌+◌, ◌≤◌, ◌<◌}
use Rattle.std.specs.Prelude.{◌≡◌, Bool, ℤ, pos, neg_ℤ, ◌+ℤ◌, ◌-ℤ◌}
use Rattle.std.proofs.Math.Path.{refl, sym, ap, ap₂}
use Rattle.std.proofs.Common.{◌∙◌, zero-add}
use Rattle.std.proofs.Math.Bool.{true, false, cond}
use native.Mathlib.Omega.{arith}
use Rattle.std.proofs.Math.Dec.{eqb}
use Rattle.std.specs.Int.Signed.{lt_z, le_z}
use borrow.Author.Tests.{ne_eqb, eqb-true, eqb-false}
use Rattle.whole.specs.Clash.{clash}
use Rattle.whole.specs.Rules.{wholes}
use Rattle.whole.specs.Shape.{any, ◌⊕◌, ◌⊖◌, eq, le_is}
use Rattle.whole.specs.ShapeLaws.{reads, shows}
use Rattle.plan.specs.declared.Plan.{Plan}
use Rattle.bounds.specs.declared.Event.{Event}
use Rattle.bounds.specs.declared.Event.TheVariants.{Origin, Start, Finish}
use Rattle.bounds.specs.declared.Judgement.{Judgement}
use Rattle.bounds.specs.declared.Judgement.TheVariants.{Contradiction, LeftOut, Kept}
use Rattle.bounds.specs.Events.{job_at, earliest, latest, event_of, start_node, finish_node, nodes}
use Rattle.bounds.specs.Judgements.{judged, judged_same, judged_origin, judged_apart, at_least}
use Rattle.bounds.specs.Tables.{Cell, off, upto, lesser_cell, plus, join, Rows, at, judgement, is_contradiction, kept_cell, Set, contradiction, bounds, judged_set}
use Rattle.bounds.specs.Elimination.{only_if, finish_cell, start_cell, without_finish, without_start, then_set, without_place, eliminated}
use Rattle.bounds.specs.BuildLaws.{event_of-start, event_of-finish, by_node}
use Rattle.rounds.specs.Rounds.{own_nodes, shift_of}
use Rattle.rounds.specs.Next.{onto}
use Rattle.strategy.proofs.SetLaws.{judged_set-at, judged_set-agrees, judged_set-some}
use Rattle.strategy.proofs.PlaceLaws.{then_set-bounds}
use Rattle.strategy.proofs.WindowLaws.{this-shift}
use Rattle.strategy.proofs.JoinedLaws.{next_node, next-later, moved_later, event-next-start, event-next-finish, job-next, next-shift}

-- ---- a judgement moved by a window

same_test : (a b c d : ℤ) (x y : Bool) → lt_z a b ≡ x → lt_z c d ≡ y → (a -ℤ b) ≡ (c -ℤ d) → x ≡ y
same_test a b c d true true e f g = refl
same_test a b c d false false e f g = refl
same_test a b c d true false e f g = absurd (omega wholes)
same_test a b c d false true e f g = absurd (omega wholes)

same-lt_z : (a b c d : ℤ) → (a -ℤ b) ≡ (c -ℤ d) → lt_z a b ≡ lt_z c d
same-lt_z a b c d g = same_test a b c d (lt_z a b) (lt_z c d) refl refl g

same-test-le : (a b c d : ℤ) (x y : Bool) → le_z a b ≡ x → le_z c d ≡ y → (a -ℤ b) ≡ (c -ℤ d) → x ≡ y
same-test-le a b c d true true e f g = refl
same-test-le a b c d false false e f g = refl
same-test-le a b c d true false e f g = absurd (omega wholes)
same-test-le a b c d false true e f g = absurd (omega wholes)

same-le_z : (a b c d : ℤ) → (a -ℤ b) ≡ (c -ℤ d) → le_z a b ≡ le_z c d
same-le_z a b c d g = same-test-le a b c d (le_z a b) (le_z c d) refl refl g

weight-moved : (w dz dy e l : ℤ) → (w +ℤ (dz -ℤ dy)) -ℤ ((e +ℤ dz) -ℤ (l +ℤ dy)) ≡ w -ℤ (e -ℤ l)
weight-moved w dz dy e l = omega (shows eq (any ⊕ (any ⊖ any) ⊖ (any ⊕ any ⊖ (any ⊕ any))) (any ⊖ (any ⊖ any)), wholes)

moved-weight : (w dz dy e l : ℤ) → ((e +ℤ dz) -ℤ (l +ℤ dy)) -ℤ (w +ℤ (dz -ℤ dy)) ≡ (e -ℤ l) -ℤ w
moved-weight w dz dy e l = omega (shows eq (any ⊕ any ⊖ (any ⊕ any) ⊖ (any ⊕ (any ⊖ any))) (any ⊖ any ⊖ any), wholes)

weight-stays : (w d : ℤ) → w +ℤ (d -ℤ d) ≡ w
weight-stays w d = omega (shows eq (any ⊕ (any ⊖ any)) any, wholes)

same_place : (n j k : ℕ) (x y : Bool) → eqb (n + j) (n + k) ≡ x → eqb j k ≡ y → x ≡ y
same_place n j k true true e f = refl
same_place n j k false false e f = refl
same_place n j k true false e f = let g = eqb-true (n + j) (n + k) e in absurd (eqb-false j k f (omega arith))
same_place n j k false true e f = let g = eqb-true j k f in absurd (eqb-false (n + j) (n + k) e (omega arith))

module _ (p : Plan) where
  -- the event of the next window
  abbrev next_event : Event → Event
  next_event Origin = Origin
  next_event (Start k) = Start (p.jobs + k)
  next_event (Finish k) = Finish (p.jobs + k)

  abbrev moved_event : Event → ℤ
  moved_event Origin = pos 0
  moved_event (Start k) = p.window
  moved_event (Finish k) = p.window

  abbrev InWindow : Event → Type 0
  InWindow Origin = Unit {0}
  InWindow (Start k) = k < p.jobs
  InWindow (Finish k) = k < p.jobs

  zero-between : (a w : ℤ) → a +ℤ w ≡ (a +ℤ pos 0) +ℤ w
  zero-between a w = omega (shows eq (any ⊕ any) (any ⊕ any ⊕ any), wholes)

  earliest-moved : (e : Event) → InWindow e → earliest p (next_event e) ≡ earliest p e +ℤ moved_event e
  unfolding earliest
  earliest-moved Origin h = refl
  earliest-moved (Start k) h = rw (next-shift p k, this-shift p k h, job-next p k h) (zero-between (job_at p k).release p.window)
  earliest-moved (Finish k) h = rw (next-shift p k, this-shift p k h, job-next p k h) (zero-between ((job_at p k).release +ℤ (job_at p k).min) p.window)

  latest-moved : (e : Event) → InWindow e → latest p (next_event e) ≡ latest p e +ℤ moved_event e
  unfolding latest
  latest-moved Origin h = refl
  latest-moved (Start k) h = rw (next-shift p k, this-shift p k h, job-next p k h) (zero-between ((job_at p k).deadline -ℤ (job_at p k).max) p.window)
  latest-moved (Finish k) h = rw (next-shift p k, this-shift p k h, job-next p k h) (zero-between (job_at p k).deadline p.window)

  module _ (y z : Event) (w : ℤ) (iy : InWindow y) (iz : InWindow z) where
    abbrev w' : ℤ
    w' = w +ℤ (moved_event z -ℤ moved_event y)

    low-test : lt_z w' (earliest p (next_event z) -ℤ latest p (next_event y)) ≡ lt_z w (earliest p z -ℤ latest p y)
    low-test =
        rw (earliest-moved z iz, latest-moved y iy)
        (same-lt_z w' ((earliest p z +ℤ moved_event z) -ℤ (latest p y +ℤ moved_event y)) w (earliest p z -ℤ latest p y)
        (weight-moved w (moved_event z) (moved_event y) (earliest p z) (latest p y)))

    high-test : le_z (latest p (next_event z) -ℤ earliest p (next_event y)) w' ≡ le_z (latest p z -ℤ earliest p y) w
    high-test =
        rw (latest-moved z iz, earliest-moved y iy)
        (same-le_z ((latest p z +ℤ moved_event z) -ℤ (earliest p y +ℤ moved_event y)) w' (latest p z -ℤ earliest p y) w
        (moved-weight w (moved_event z) (moved_event y) (latest p z) (earliest p y)))

    origin-moved : judged_origin p (next_event y) (next_event z) w' ≡ judged_origin p y z w
    origin-moved = ap (λ b. cond b Contradiction Kept) low-test

    apart-moved : judged_apart p (next_event y) (next_event z) w' ≡ judged_apart p y z w
    apart-moved = ap₂ (λ b c. cond b Contradiction (cond c LeftOut Kept)) low-test high-test

  place-moved : (j k : ℕ) → eqb (p.jobs + j) (p.jobs + k) ≡ eqb j k
  place-moved j k = same_place p.jobs j k _ _ refl refl

  judged-next : (y z : Event) (w : ℤ) → InWindow y → InWindow z
      → judged p (next_event y) (next_event z) (w +ℤ (moved_event z -ℤ moved_event y)) ≡ judged p y z w
  unfolding judged
  judged-next Origin Origin w a b = ap judged_same (weight-stays w (pos 0))
  judged-next Origin (Start k) w a b = origin-moved Origin (Start k) w a b
  judged-next Origin (Finish k) w a b = origin-moved Origin (Finish k) w a b
  judged-next (Start j) Origin w a b = origin-moved (Start j) Origin w a b
  judged-next (Start j) (Start k) w a b =
      rw (place-moved j k) (ap₂ (λ s t. cond (eqb j k) s t) (ap judged_same (weight-stays w p.window)) (apart-moved (Start j) (Start k) w a b))
  judged-next (Start j) (Finish k) w a b =
      rw (place-moved j k)
      (ap₂ (λ s t. cond (eqb j k) s t) (ap₂ (λ job w. at_least job.max w) (job-next p k b) (weight-stays w p.window))
      (apart-moved (Start j) (Finish k) w a b))
  judged-next (Finish j) Origin w a b = origin-moved (Finish j) Origin w a b
  judged-next (Finish j) (Start k) w a b =
      rw (place-moved j k)
      (ap₂ (λ s t. cond (eqb j k) s t) (ap₂ (λ job w. at_least (neg_ℤ job.min) w) (job-next p k b) (weight-stays w p.window))
      (apart-moved (Finish j) (Start k) w a b))
  judged-next (Finish j) (Finish k) w a b =
      rw (place-moved j k) (ap₂ (λ s t. cond (eqb j k) s t) (ap judged_same (weight-stays w p.window)) (apart-moved (Finish j) (Finish k) w a b))

  -- ---- by nodes

  pub record Moves (y : ℕ) : Type 0 where
    pub event : event_of (next_node p y) ≡ next_event (event_of y)
    pub by : shift_of p y ≡ moved_event (event_of y)
    pub inside : InWindow (event_of y)

  moves : (y : ℕ) → y < nodes p.jobs → Moves y
  unfolding event_of onto
  moves =
      by_node (λ y. y < nodes p.jobs → Moves y)
      (λ h. record { event = refl; by = refl; inside = tt })
      (λ k h.
      record {
        event = event-next-start p k ∙ ap next_event (sym (event_of-start k));
        by = moved_later p (start_node k) (omega arith) ∙ ap moved_event (sym (event_of-start k));
        inside = rw (event_of-start k) (omega arith);
      })
      (λ k h.
      record {
        event = event-next-finish p k ∙ ap next_event (sym (event_of-finish k));
        by = moved_later p (finish_node k) (omega arith) ∙ ap moved_event (sym (event_of-finish k));
        inside = rw (event_of-finish k) (omega arith);
      })

  abbrev pub shifted : ℕ → ℕ → Cell → Cell
  shifted y z c = plus c (shift_of p z -ℤ shift_of p y)

  pub judgement-next : (y z : ℕ) (c : Cell) → y < nodes p.jobs → z < nodes p.jobs
      → judgement p (next_node p y) (next_node p z) (shifted y z c) ≡ judgement p y z c
  unfolding judgement plus
  judgement-next y z off a b = refl
  judgement-next y z (upto w) a b =
      let my = moves y a in
      let mz = moves z b in
      rw (my.event, mz.event, my.by, mz.by) (judged-next (event_of y) (event_of z) w my.inside mz.inside)

-- ---- cells moved by a number

pub kept-plus : (j : Judgement) (c : Cell) (d : ℤ) → kept_cell j (plus c d) ≡ plus (kept_cell j c) d
unfolding plus
kept-plus Contradiction c d = refl
kept-plus LeftOut c d = refl
kept-plus Kept c d = refl

only_if-plus : (b : Bool) (c e : Cell) (d : ℤ) → (b ≡ true → c ≡ plus e d) → only_if b c ≡ plus (only_if b e) d
unfolding plus
only_if-plus true c e d h = h refl
only_if-plus false c e d h = refl

lesser-plus : (w v d : ℤ) (b c : Bool) → le_z (w +ℤ d) (v +ℤ d) ≡ b → le_z w v ≡ c
    → cond b (upto (w +ℤ d)) (upto (v +ℤ d)) ≡ plus (cond c (upto w) (upto v)) d
unfolding plus
lesser-plus w v d true true e f = refl
lesser-plus w v d false false e f = refl
lesser-plus w v d true false e f = absurd (omega (reads (le_is true) (any ⊕ any) (any ⊕ any), wholes))
lesser-plus w v d false true e f = absurd (omega (reads (le_is false) (any ⊕ any) (any ⊕ any), wholes))

least-plus : (c e : Cell) (d : ℤ) → lesser_cell (plus c d) (plus e d) ≡ plus (lesser_cell c e) d
unfolding lesser_cell plus
least-plus off e d = refl
least-plus (upto w) off d = refl
least-plus (upto w) (upto v) d = lesser-plus w v d _ _ refl refl

plus-plus : (c : Cell) (a b d e : ℤ) → a +ℤ b ≡ d +ℤ e → plus (plus c a) b ≡ plus (plus c d) e
unfolding plus
plus-plus off a b d e h = refl
plus-plus (upto w) a b d e h = ap upto (regroup w a b d e h)
  where
    regroup : (w a b d e : ℤ) → a +ℤ b ≡ d +ℤ e → (w +ℤ a) +ℤ b ≡ (w +ℤ d) +ℤ e
    regroup w a b d e h = omega (shows eq (any ⊕ any ⊕ any) (any ⊕ any ⊕ any), wholes)

join-moved : (c e : Cell) (y s z : ℤ) → join (plus c (s -ℤ y)) (plus e (z -ℤ s)) ≡ plus (join c e) (z -ℤ y)
unfolding join plus
join-moved off e y s z = refl
join-moved (upto w) off y s z = refl
join-moved (upto w) (upto v) y s z = ap upto (omega (shows eq (any ⊕ (any ⊖ any) ⊕ (any ⊕ (any ⊖ any))) (any ⊕ any ⊕ (any ⊖ any)), wholes))

turned : (f z y m : ℤ) → f ≡ z → (f -ℤ y) +ℤ m ≡ m +ℤ (z -ℤ y)
turned f z y m e = omega (shows eq (any ⊖ any ⊕ any) (any ⊕ (any ⊖ any)), wholes)

turned-back : (f y z m : ℤ) → f ≡ y → (z -ℤ f) +ℤ m ≡ m +ℤ (z -ℤ y)
turned-back f y z m e = omega (shows eq (any ⊖ any ⊕ any) (any ⊕ (any ⊖ any)), wholes)

-- ---- tables moved by a window

module _ (p : Plan) where
  -- on the nodes below k, cell for cell: g of two windows is f of one, moved
  abbrev pub MovedCells : ℕ → (ℕ → ℕ → Cell) → (ℕ → ℕ → Cell) → Type 0
  MovedCells k f g = (y z : ℕ) → y < k → z < k → g (next_node p y) (next_node p z) ≡ shifted p y z (f y z)

  pub next-below : (k y : ℕ) → y < k → next_node p y < k + own_nodes p
  unfolding onto
  next-below k zero h = omega arith
  next-below k (suc y) h = rw (next-later p (suc y) (omega arith)) (omega arith)

  -- judged, they are so still, and what is no contradiction in two windows is none in one
  module _ (k K : ℕ) (K-is : K ≡ k + own_nodes p) (low : k ≤ nodes p.jobs) (f g : ℕ → ℕ → Cell) (same : MovedCells k f g)
      (B : Rows) (B-is : judged_set p K g ≡ bounds B) where
    below : (y : ℕ) → y < k → next_node p y < K
    below y h = let b = next-below k y h in omega arith

    judged-same : (y z : ℕ) → y < k → z < k
        → judgement p (next_node p y) (next_node p z) (g (next_node p y) (next_node p z)) ≡ judgement p y z (f y z)
    judged-same y z a b =
        ap (judgement p (next_node p y) (next_node p z)) (same y z a b) ∙ judgement-next p y z (f y z) (omega arith) (omega arith)

    alone-set : (x : Set) → judged_set p k f ≡ x → (A : Rows) × (judged_set p k f ≡ bounds A)
    alone-set (bounds A) e = (A, e)
    alone-set contradiction e =
        let r = judged_set-some p k f e in
        let s = judged_set-agrees p K g B B-is (next_node p r.0) (next_node p r.1) (below r.0 r.2) (below r.1 r.3) in
        let t = r.4 in
        let q = ap is_contradiction (judged-same r.0 r.1 r.2 r.3) in
        clash (cc)

    shifted-set : (A : Rows) × (judged_set p k f ≡ bounds A) × MovedCells k (at A) (at B)
    shifted-set =
        let r = alone-set (judged_set p k f) refl in (
          r.0,
          r.1,
          λ y z a b.
              judged_set-at p K g B B-is (next_node p y) (next_node p z) (below y a) (below z b)
              ∙ ap (λ j. kept_cell j (g (next_node p y) (next_node p z))) (judged-same y z a b)
              ∙ ap (kept_cell (judgement p y z (f y z))) (same y z a b)
              ∙ kept-plus (judgement p y z (f y z)) (f y z) (shift_of p z -ℤ shift_of p y)
              ∙ ap (shifted p y z) (sym (judged_set-at p k f r.0 r.1 y z a b)),
        )

  -- two nodes that are the same moved were the same
  next-eqb : (y z : ℕ) → eqb (next_node p y) (next_node p z) ≡ eqb y z
  unfolding onto
  next-eqb zero zero = refl
  next-eqb zero (suc z) = rw (next-later p (suc z) (omega arith)) (ne_eqb 0 (suc z + own_nodes p) (omega arith) ∙ sym (ne_eqb 0 (suc z) (omega arith)))
  next-eqb (suc y) zero = rw (next-later p (suc y) (omega arith)) (ne_eqb (suc y + own_nodes p) 0 (omega arith) ∙ sym (ne_eqb (suc y) 0 (omega arith)))
  next-eqb (suc y) (suc z) =
      rw (next-later p (suc y) (omega arith), next-later p (suc z) (omega arith)) (moved-eqb (suc y) (suc z) (own_nodes p) _ _ refl refl)
    where
      moved-eqb : (a b n : ℕ) (x y : Bool) → eqb (a + n) (b + n) ≡ x → eqb a b ≡ y → x ≡ y
      moved-eqb a b n true true e f = refl
      moved-eqb a b n false false e f = refl
      moved-eqb a b n true false e f = let g = eqb-true (a + n) (b + n) e in absurd (eqb-false a b f (omega arith))
      moved-eqb a b n false true e f = let g = eqb-true a b f in absurd (eqb-false (a + n) (b + n) e (omega arith))

  -- ---- a place of one window and of two

  module _ (i : ℕ) (low : i < p.jobs) (A B : Rows) (same : MovedCells (nodes (suc i)) (at A) (at B)) where
    start_is : start_node (p.jobs + i) ≡ next_node p (start_node i)
    start_is = let e : start_node (p.jobs + i) ≡ start_node i + own_nodes p = omega arith in e ∙ sym (next-later p (start_node i) (omega arith))

    finish-is : finish_node (p.jobs + i) ≡ next_node p (finish_node i)
    finish-is = let e : finish_node (p.jobs + i) ≡ finish_node i + own_nodes p = omega arith in e ∙ sym (next-later p (finish_node i) (omega arith))

    moved-start : shift_of p (start_node i) ≡ p.window
    moved-start = moved_later p (start_node i) (omega arith)

    moved-finish : shift_of p (finish_node i) ≡ p.window
    moved-finish = moved_later p (finish_node i) (omega arith)

    abbrev fᵢ : ℕ
    fᵢ = finish_node i

    abbrev sᵢ : ℕ
    sᵢ = start_node i

    module _ (y z : ℕ) (ly : y < fᵢ) (lz : z < fᵢ) where
      abbrev ny : ℕ
      ny = next_node p y

      abbrev nz : ℕ
      nz = next_node p z

      into-start : only_if (eqb nz (start_node (p.jobs + i))) (plus (at B ny (finish_node (p.jobs + i))) (neg_ℤ (job_at p (p.jobs + i)).max))
          ≡ shifted p y z (only_if (eqb z sᵢ) (plus (at A y fᵢ) (neg_ℤ (job_at p i).max)))
      into-start =
          ap₂ only_if (ap (eqb nz) start_is ∙ next-eqb z sᵢ) (ap₂ (λ f j. plus (at B ny f) (neg_ℤ j.max)) finish-is (job-next p i low))
          ∙ only_if-plus (eqb z sᵢ) _ (plus (at A y fᵢ) (neg_ℤ (job_at p i).max)) (shift_of p z -ℤ shift_of p y)
          (λ e.
          ap (λ c. plus c (neg_ℤ (job_at p i).max)) (same y fᵢ (omega arith) (omega arith))
          ∙ plus-plus (at A y fᵢ) (shift_of p fᵢ -ℤ shift_of p y) (neg_ℤ (job_at p i).max) (neg_ℤ (job_at p i).max) (shift_of p z -ℤ shift_of p y)
          (turned (shift_of p fᵢ) (shift_of p z) (shift_of p y) (neg_ℤ (job_at p i).max) (moved-finish ∙ sym moved-start ∙ ap (shift_of p) (sym (eqb-true z sᵢ e)))))

      out-of-start : only_if (eqb ny (start_node (p.jobs + i))) (plus (at B (finish_node (p.jobs + i)) nz) (job_at p (p.jobs + i)).min)
          ≡ shifted p y z (only_if (eqb y sᵢ) (plus (at A fᵢ z) (job_at p i).min))
      out-of-start =
          ap₂ only_if (ap (eqb ny) start_is ∙ next-eqb y sᵢ) (ap₂ (λ f j. plus (at B f nz) j.min) finish-is (job-next p i low))
          ∙ only_if-plus (eqb y sᵢ) _ (plus (at A fᵢ z) (job_at p i).min) (shift_of p z -ℤ shift_of p y)
          (λ e.
          ap (λ c. plus c (job_at p i).min) (same fᵢ z (omega arith) (omega arith))
          ∙ plus-plus (at A fᵢ z) (shift_of p z -ℤ shift_of p fᵢ) (job_at p i).min (job_at p i).min (shift_of p z -ℤ shift_of p y)
          (turned-back (shift_of p fᵢ) (shift_of p y) (shift_of p z) (job_at p i).min (moved-finish ∙ sym moved-start ∙ ap (shift_of p) (sym (eqb-true y sᵢ e)))))

      finish-shifted-at : finish_cell p (p.jobs + i) B ny nz ≡ shifted p y z (finish_cell p i A y z)
      unfolding finish_cell
      finish-shifted-at =
          ap₂ lesser_cell (same y z (omega arith) (omega arith))
          (ap₂ lesser_cell into-start out-of-start
          ∙ least-plus (only_if (eqb z sᵢ) (plus (at A y fᵢ) (neg_ℤ (job_at p i).max))) (only_if (eqb y sᵢ) (plus (at A fᵢ z) (job_at p i).min))
          (shift_of p z -ℤ shift_of p y))
          ∙ least-plus (at A y z) _ (shift_of p z -ℤ shift_of p y)

    finish-shifted : MovedCells fᵢ (finish_cell p i A) (finish_cell p (p.jobs + i) B)
    finish-shifted y z a b = finish-shifted-at y z a b

    module _ (W : Rows) (W-is : without_finish p (p.jobs + i) B ≡ bounds W) where
      pub without-finish : (V' : Rows) × (without_finish p i A ≡ bounds V') × MovedCells fᵢ (at V') (at W)
      without-finish =
          shifted-set fᵢ (finish_node (p.jobs + i)) (omega arith) (omega arith) (finish_cell p i A) (finish_cell p (p.jobs + i) B) finish-shifted W W-is

      start-shifted : MovedCells sᵢ (start_cell i without-finish.0) (start_cell (p.jobs + i) W)
      unfolding start_cell
      start-shifted y z a b =
          let v = without-finish in
          ap₂ lesser_cell (v.2 y z (omega arith) (omega arith))
          (ap₂ join
          (ap (λ s. at W (next_node p y) s) start_is ∙ v.2 y sᵢ (omega arith) (omega arith))
          (ap (λ s. at W s (next_node p z)) start_is ∙ v.2 sᵢ z (omega arith) (omega arith))
          ∙ join-moved (at v.0 y sᵢ) (at v.0 sᵢ z) (shift_of p y) (shift_of p sᵢ) (shift_of p z))
          ∙ least-plus (at v.0 y z) (join (at v.0 y sᵢ) (at v.0 sᵢ z)) (shift_of p z -ℤ shift_of p y)

      pub without-start : (B₂ : Rows) → without_start p (p.jobs + i) W ≡ bounds B₂
          → (A₂ : Rows) × (without_start p i without-finish.0 ≡ bounds A₂) × MovedCells sᵢ (at A₂) (at B₂)
      without-start B₂ e =
          shifted-set sᵢ (start_node (p.jobs + i)) (omega arith) (omega arith) (start_cell i without-finish.0) (start_cell (p.jobs + i) W) start-shifted B₂ e

    without-place : (B₂ : Rows) → without_place p (p.jobs + i) B ≡ bounds B₂
        → (A₂ : Rows) × (without_place p i A ≡ bounds A₂) × MovedCells (nodes i) (at A₂) (at B₂)
    unfolding without_place then_set
    without-place B₂ e =
        let r = then_set-bounds (without_finish p (p.jobs + i) B) (without_start p (p.jobs + i)) B₂ e in
        let v = without-finish r.0 r.1 in
        let q = without-start r.0 r.1 B₂ r.2 in
        (q.0, ap (λ x. then_set x (without_start p i)) v.1 ∙ q.1, q.2)

  -- ---- several places

  pub elim-shifted : (count : ℕ) (A B : Rows) → count ≤ p.jobs → MovedCells (nodes count) (at A) (at B)
      → (B₂ : Rows) → eliminated p p.jobs count B ≡ bounds B₂
      → (A₂ : Rows) × (eliminated p 0 count A ≡ bounds A₂)
  unfolding eliminated then_set
  elim-shifted zero A B low same B₂ e = (A, refl)
  elim-shifted (suc count) A B low same B₂ e =
      let r = then_set-bounds (without_place p (p.jobs + count) B) (eliminated p p.jobs count) B₂ e in
      let q = without-place count (omega arith) A B same r.0 r.1 in
      let s = elim-shifted count q.0 r.0 (omega arith) q.2 B₂ r.2 in
      (s.0, ap (λ x. then_set x (eliminated p 0 count)) (ap (λ k. without_place p k A) (zero-add count) ∙ q.1) ∙ s.1)
