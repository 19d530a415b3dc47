-- Lemmas 1 and 2 of 002 for our tables, over any times X of the nodes. Finish: times keep the cells without f exactly if for every running time
-- between min and max they keep the table with f that much after s. Start: times keep the cells without s exactly if they keep the table with
-- some time for s; the greatest lower bound is one, and there is one, since the bound to the origin is there.
use Rattle.std.specs.Prelude.{ℕ, zero, suc, ◌*◌, ◌<◌, ◌≡◌, refl, ◌↔◌, ◌⊎◌, Bool, true, false, cond, eqb, ltb, ℤ, ◌+ℤ◌, ◌-ℤ◌, ◌≤ℤ◌}
use Rattle.std.proofs.Common.{sym, ap, subst, inl, inr, ⊎_elim, arith, eq-eqb, ne_eqb, eqb-true, ltb-true, ltb-false}
use Rattle.std.proofs.Math.IntN.{neg_ℤ}
use Rattle.std.specs.Int.Signed.{le_z}
use Rattle.whole.specs.SplitLaws.{split-neg}
use Rattle.whole.specs.Rules.{wholes}
use Rattle.whole.specs.Shape.{any, ◌⊕◌, ◌⊖◌, le}
use Rattle.whole.specs.ShapeLaws.{shows}
use Rattle.plan.specs.declared.Plan.{Plan}
use Rattle.bounds.specs.Events.{job_at, start_node, finish_node}
use Rattle.bounds.specs.Tables.{Cell, off, upto, plus, join, Rows, at}
use Rattle.bounds.specs.Elimination.{only_if, finish_cell, start_cell}
use Rattle.strategy.proofs.Keeping.{Holds}
use Rattle.strategy.proofs.CellLaws.{least_iff, plus-iff, join-keeps, join-back, holds-only_if}

-- ---- times of nodes

abbrev pub KeepsAt : ℕ → (ℕ → ℕ → Cell) → (ℕ → ℤ) → Type 0
KeepsAt k f X = (y z : ℕ) → y < k → z < k → Holds (f y z) (X z -ℤ X y)

holds-less : (c : Cell) (x y : ℤ) → x ≤ℤ y → Holds c y → Holds c x
holds-less off x y l h = tt
holds-less (upto w) x y l h = omega wholes

last_or : (y n : ℕ) (b : Bool) → ltb y n ≡ b → y < suc n → (y < n) ⊎ (y ≡ n)
last_or y n true e h = inl (ltb-true y n e)
last_or y n false e h = let g = ltb-false y n e in inr (omega arith)

pub below-or-last : (y n : ℕ) → y < suc n → (y < n) ⊎ (y ≡ n)
below-or-last y n h = last_or y n (ltb y n) refl h

-- a table with one node more: its cells below, its last column, its last row, and its corner
pub keeps-more : (n : ℕ) (f : ℕ → ℕ → Cell) (X : ℕ → ℤ)
    → KeepsAt n f X
    → ((y : ℕ) → y < n → Holds (f y n) (X n -ℤ X y))
    → ((z : ℕ) → z < n → Holds (f n z) (X z -ℤ X n))
    → Holds (f n n) (X n -ℤ X n)
    → KeepsAt (suc n) f X
keeps-more n f X old col row corner y z a b =
    ⊎_elim
    (λ c.
    ⊎_elim (λ d. old y z c d) (λ d. subst (λ z. Holds (f y z) (X z -ℤ X y)) (sym d) (col y c)) (below-or-last z n b))
    (λ c.
    subst (λ y. Holds (f y z) (X z -ℤ X y)) (sym c)
    (⊎_elim (λ d. row z d) (λ d. subst (λ z. Holds (f n z) (X z -ℤ X n)) (sym d) corner) (below-or-last z n b)))
    (below-or-last y n a)

-- the times X, and x at node n
abbrev pub set_at : (ℕ → ℤ) → ℕ → ℤ → ℕ → ℤ
set_at X n x y = cond (eqb y n) x (X y)

set_at-before : (X : ℕ → ℤ) (n : ℕ) (x : ℤ) (y : ℕ) → y < n → set_at X n x y ≡ X y
set_at-before X n x y h = rw (ne_eqb y n (omega arith))

set_at-same : (X : ℕ → ℤ) (n : ℕ) (x : ℤ) → set_at X n x n ≡ x
set_at-same X n x = rw (eq-eqb n n refl)

-- ---- Finish

later-by : (s y e max : ℤ) → e ≤ℤ max → ((s +ℤ e) -ℤ y) ≤ℤ ((s -ℤ y) -ℤ neg_ℤ max)
later-by s y e max h = omega (shows le (any ⊕ any ⊖ any) (any ⊖ any ⊖ any), wholes, split-neg max)

sooner-by : (s z e min : ℤ) → min ≤ℤ e → (z -ℤ (s +ℤ e)) ≤ℤ ((z -ℤ s) -ℤ min)
sooner-by s z e min h = omega (shows le (any ⊖ (any ⊕ any)) (any ⊖ any ⊖ any), wholes)

longest-from : (s z y max : ℤ) → z ≡ s → ((z -ℤ y) -ℤ neg_ℤ max) ≤ℤ ((s +ℤ max) -ℤ y)
longest-from s z y max e = omega (shows le (any ⊖ any ⊖ any) (any ⊕ any ⊖ any), wholes, split-neg max)

shortest-from : (s y z min : ℤ) → y ≡ s → ((z -ℤ y) -ℤ min) ≤ℤ (z -ℤ (s +ℤ min))
shortest-from s y z min e = omega (shows le (any ⊖ any ⊖ any) (any ⊖ (any ⊕ any)), wholes)

module _ (p : Plan) (k : ℕ) (t : Rows) (X : ℕ → ℤ) where
  abbrev s : ℕ
  s = start_node k

  abbrev f : ℕ
  f = finish_node k

  -- the three parts of a cell without f
  pub without-f : (y z : ℕ) (x : ℤ) → Holds (finish_cell p k t y z) x
      → Holds (at t y z) x
      × Holds (only_if (eqb z s) (plus (at t y f) (neg_ℤ (job_at p k).max))) x
      × Holds (only_if (eqb y s) (plus (at t f z) (job_at p k).min)) x
  unfolding finish_cell
  without-f y z x h =
      let r = (least_iff (at t y z) _ x).0 h in
      let q = (least_iff (only_if (eqb z s) (plus (at t y f) (neg_ℤ (job_at p k).max))) _ x).0 r.1 in
      (r.0, q.0, q.1)

  into-s : (y : ℕ) (x : ℤ) → Holds (finish_cell p k t y s) x → Holds (at t y f) (x -ℤ neg_ℤ (job_at p k).max)
  into-s y x h =
      (plus-iff (at t y f) (neg_ℤ (job_at p k).max) x).0
      (rw (eq-eqb s s refl) at (without-f y s x h).1)

  out-of-s : (z : ℕ) (x : ℤ) → Holds (finish_cell p k t s z) x → Holds (at t f z) (x -ℤ (job_at p k).min)
  out-of-s z x h =
      (plus-iff (at t f z) (job_at p k).min x).0
      (rw (eq-eqb s s refl) at (without-f s z x h).2)

  pub finish-out : at t f f ≡ off → KeepsAt f (finish_cell p k t) X
      → (Y : ℕ → ℤ) (e : ℤ) → ((y : ℕ) → y < f → Y y ≡ X y) → Y f ≡ X s +ℤ e
      → (job_at p k).min ≤ℤ e → e ≤ℤ (job_at p k).max → KeepsAt (suc f) (at t) Y
  finish-out corner kept Y e same at_f lo hi =
      keeps-more f (at t) Y
      (λ y z a b. rw (same y a, same z b) (without-f y z (X z -ℤ X y) (kept y z a b)).0)
      (λ y a.
      rw (same y a, at_f)
      (holds-less (at t y f) ((X s +ℤ e) -ℤ X y) ((X s -ℤ X y) -ℤ neg_ℤ (job_at p k).max) (later-by (X s) (X y) e (job_at p k).max hi)
      (into-s y (X s -ℤ X y) (kept y s a (omega arith)))))
      (λ z b.
      rw (same z b, at_f)
      (holds-less (at t f z) (X z -ℤ (X s +ℤ e)) ((X z -ℤ X s) -ℤ (job_at p k).min) (sooner-by (X s) (X z) e (job_at p k).min lo)
      (out-of-s z (X z -ℤ X s) (kept s z (omega arith) b))))
      (rw corner tt)

  pub finish-in : (Y Z : ℕ → ℤ) → ((y : ℕ) → y < f → Y y ≡ X y) → ((y : ℕ) → y < f → Z y ≡ X y)
      → Y f ≡ X s +ℤ (job_at p k).max → Z f ≡ X s +ℤ (job_at p k).min
      → KeepsAt (suc f) (at t) Y → KeepsAt (suc f) (at t) Z → KeepsAt f (finish_cell p k t) X
  unfolding finish_cell
  finish-in Y Z same_y same_z longest shortest kept_y kept_z y z a b =
      (least_iff (at t y z) _ (X z -ℤ X y)).1 (
        rw (same_y y a, same_y z b) at (kept_y y z (omega arith) (omega arith)),
        (least_iff (only_if (eqb z s) (plus (at t y f) (neg_ℤ (job_at p k).max))) _ (X z -ℤ X y)).1 (
          holds-only_if (eqb z s) _ (X z -ℤ X y)
              (λ d. into (eqb-true z s d)),
          holds-only_if (eqb y s) _ (X z -ℤ X y)
              (λ d. outof (eqb-true y s d)),
        ),
      )
    where
      into : z ≡ s → Holds (plus (at t y f) (neg_ℤ (job_at p k).max)) (X z -ℤ X y)
      into d =
          (plus-iff (at t y f) (neg_ℤ (job_at p k).max) (X z -ℤ X y)).1
          (holds-less (at t y f) ((X z -ℤ X y) -ℤ neg_ℤ (job_at p k).max) ((X s +ℤ (job_at p k).max) -ℤ X y)
          (longest-from (X s) (X z) (X y) (job_at p k).max (ap X d))
          (rw (same_y y a, longest) at (kept_y y f (omega arith) (omega arith))))

      outof : y ≡ s → Holds (plus (at t f z) (job_at p k).min) (X z -ℤ X y)
      outof d =
          (plus-iff (at t f z) (job_at p k).min (X z -ℤ X y)).1
          (holds-less (at t f z) ((X z -ℤ X y) -ℤ (job_at p k).min) (X z -ℤ (X s +ℤ (job_at p k).min))
          (shortest-from (X s) (X y) (X z) (job_at p k).min (ap X d))
          (rw (same_z z b, shortest) at (kept_z f z (omega arith) (omega arith))))

  pub finish-iff : at t f f ≡ off → (job_at p k).min ≤ℤ (job_at p k).max
      → KeepsAt f (finish_cell p k t) X
      ↔ ((e : ℤ) → (job_at p k).min ≤ℤ e → e ≤ℤ (job_at p k).max → KeepsAt (suc f) (at t) (set_at X f (X s +ℤ e)))
  finish-iff corner mm = (
    λ kept e lo hi. finish-out corner kept (set_at X f (X s +ℤ e)) e (set_at-before X f (X s +ℤ e)) (set_at-same X f (X s +ℤ e)) lo hi,
    λ all.
        finish-in (set_at X f (X s +ℤ (job_at p k).max)) (set_at X f (X s +ℤ (job_at p k).min)) (set_at-before X f _) (set_at-before X f _)
        (set_at-same X f _) (set_at-same X f _) (all (job_at p k).max mm (omega wholes)) (all (job_at p k).min (omega wholes) mm),
  )

-- ---- Start

-- the greatest of the lower bounds X i - v of some cells v, the first of which is there
pub record Greatest (n : ℕ) (c : ℕ → Cell) (X : ℕ → ℤ) : Type 0 where
  pub time : ℤ
  pub holds : (i : ℕ) → i < n → Holds (c i) (X i -ℤ time)
  pub place : ℕ
  pub inside : place < n
  pub weight : ℤ
  pub is : c place ≡ upto weight
  pub time-is : time ≡ X place -ℤ weight

less-from : (x a b : ℤ) → le_z a b ≡ true → (x -ℤ b) ≤ℤ (x -ℤ a)
less-from x a b h = omega wholes

module _ (c : ℕ → Cell) (X : ℕ → ℤ) where
  greatest-one : (w : ℤ) → c 0 ≡ upto w → Greatest 1 c X
  greatest-one w e =
      record {
        time = X 0 -ℤ w;
        holds = λ i h. let z : i ≡ 0 = omega arith in rw (z, e) (omega wholes);
        place = 0;
        inside = omega arith;
        weight = w;
        is = e;
        time-is = refl;
      }

  greatest-of : (n : ℕ) (v : ℤ) → c n ≡ upto v → (g : Greatest n c X) (b : Bool) → le_z g.time (X n -ℤ v) ≡ b → Greatest (suc n) c X
  greatest-of n v e g true d =
      record {
        time = X n -ℤ v;
        holds =
            λ i h.
            ⊎_elim (λ a. holds-less (c i) (X i -ℤ (X n -ℤ v)) (X i -ℤ g.time) (less-from (X i) g.time (X n -ℤ v) d) (g.holds i a))
            (λ (a : i ≡ n). rw (a, e) (omega wholes))
            (below-or-last i n h);
        place = n;
        inside = omega arith;
        weight = v;
        is = e;
        time-is = refl;
      }
  greatest-of n v e g false d =
      record {
        time = g.time;
        holds = λ i h. ⊎_elim (λ a. g.holds i a) (λ (a : i ≡ n). rw (a, e) (omega wholes)) (below-or-last i n h);
        place = g.place;
        inside = omega (arith, g.inside);
        weight = g.weight;
        is = g.is;
        time-is = g.time-is;
      }

  greatest-next : (n : ℕ) (d : Cell) → c n ≡ d → Greatest n c X → Greatest (suc n) c X
  greatest-next n off e g =
      record {
        time = g.time;
        holds = λ i h. ⊎_elim (λ a. g.holds i a) (λ (a : i ≡ n). rw (a, e) tt) (below-or-last i n h);
        place = g.place;
        inside = omega (arith, g.inside);
        weight = g.weight;
        is = g.is;
        time-is = g.time-is;
      }
  greatest-next n (upto v) e g = greatest-of n v e g (le_z g.time (X n -ℤ v)) refl

  greatest : (n : ℕ) (w : ℤ) → c 0 ≡ upto w → Greatest (suc n) c X
  greatest zero w e = greatest-one w e
  greatest (suc n) w e = greatest-next (suc n) (c (suc n)) refl (greatest n w e)

-- through the greatest lower bound every upper bound is kept
through : (c : Cell) (v x : ℤ) (i y : ℤ) → Holds (join c (upto v)) (i -ℤ y) → x ≡ i -ℤ v → Holds c (x -ℤ y)
through off v x i y h e = tt
through (upto w) v x i y h e = let g = join-back w v (i -ℤ y) h in omega wholes

module _ (k : ℕ) (t : Rows) (X : ℕ → ℤ) where
  abbrev σ : ℕ
  σ = start_node k

  pub without-s : (y z : ℕ) (x : ℤ) → Holds (start_cell k t y z) x → Holds (at t y z) x × Holds (join (at t y σ) (at t σ z)) x
  unfolding start_cell
  without-s y z x h = (least_iff (at t y z) (join (at t y σ) (at t σ z)) x).0 h

  pub start-in : (Y : ℕ → ℤ) → ((y : ℕ) → y < σ → Y y ≡ X y) → KeepsAt (suc σ) (at t) Y → KeepsAt σ (start_cell k t) X
  unfolding start_cell
  start-in Y same kept y z a b =
      (least_iff (at t y z) (join (at t y σ) (at t σ z)) (X z -ℤ X y)).1 (
        rw (same y a, same z b) at (kept y z (omega arith) (omega arith)),
        holds-less (join (at t y σ) (at t σ z)) (X z -ℤ X y) ((Y σ -ℤ X y) +ℤ (X z -ℤ Y σ)) (omega (shows le (any ⊖ any) (any ⊖ any ⊕ (any ⊖ any)), wholes))
            (join-keeps (at t y σ) (at t σ z) (Y σ -ℤ X y) (X z -ℤ Y σ)
            (rw (same y a) at (kept y σ (omega arith) (omega arith)))
            (rw (same z b) at (kept σ z (omega arith) (omega arith)))),
      )

  pub start-out : at t σ σ ≡ off → (w : ℤ) → at t σ 0 ≡ upto w → KeepsAt σ (start_cell k t) X
      → (τ : ℤ) × ((Y : ℕ → ℤ) → ((y : ℕ) → y < σ → Y y ≡ X y) → Y σ ≡ τ → KeepsAt (suc σ) (at t) Y)
  start-out corner w there kept =
      let g : Greatest σ (λ z. at t σ z) X = subst (λ n. Greatest n (λ z. at t σ z) X) first (greatest (λ z. at t σ z) X (2 * k) w there) in (
        g.time,
        λ Y same at-s.
            keeps-more σ (at t) Y
            (λ y z a b. rw (same y a, same z b) (without-s y z (X z -ℤ X y) (kept y z a b)).0)
            (λ y a.
            rw (same y a, at-s)
            (through (at t y σ) g.weight g.time (X g.place) (X y)
            (rw g.is at (without-s y g.place (X g.place -ℤ X y) (kept y g.place a g.inside)).1)
            g.time-is))
            (λ z b. rw (same z b, at-s) (g.holds z b))
            (rw corner tt),
      )
    where
      first : suc (2 * k) ≡ σ
      first = omega arith

  pub start-iff : at t σ σ ≡ off → (w : ℤ) → at t σ 0 ≡ upto w
      → KeepsAt σ (start_cell k t) X ↔ ((τ : ℤ) × KeepsAt (suc σ) (at t) (set_at X σ τ))
  start-iff corner w there = (
    λ kept. let g = start-out corner w there kept in (g.0, g.1 (set_at X σ g.0) (set_at-before X σ g.0) (set_at-same X σ g.0)),
    λ r. start-in (set_at X σ r.0) (set_at-before X σ r.0) r.1,
  )
