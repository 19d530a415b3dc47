-- What a history has seen from a window on: its length and its jobs, one job more, the window after it, and the first window, whose clock is the
-- run's. A game on the window's own clock is the game on the run's clock (`forced-seen`, `seen-forced`).
use Prim.Native.Nat.{ℕ, zero, suc, ◌+◌, ◌*◌, ◌-◌, ◌≤◌, ◌<◌}
use Rattle.std.specs.Prelude.{◌≡◌, refl, ◌⊎◌, Bool, true, false, [], ◌∷◌, ◌++◌, map, leb, ℤ, ◌+ℤ◌, ◌-ℤ◌, ◌*ℤ◌, length, get_or, drop}
use Rattle.std.proofs.Common.{sym, ◌∙◌, inl, inr, suc-mul, arith, drop_of_length-le, get_or-drop, ext_get_or, leb-true, leb-false}
use Rattle.std.proofs.Math.Path.{ap}
use Rattle.std.proofs.Math.Nat.{mul-add-mod_self_right}
use Rattle.std.proofs.Math.IntN.{pos}
use Rattle.std.proofs.Math.ListN.{length-drop, length-map}
use Rattle.std.proofs.lemmas.List.{drop-append-le}
use Rattle.whole.specs.SplitLaws.{split-mul}
use Rattle.whole.specs.Rules.{wholes}
use Rattle.whole.specs.Shape.{any, ◌⊕◌, ◌⊖◌, le, eq}
use Rattle.whole.specs.ShapeLaws.{shows}
use Rattle.plan.specs.declared.Plan.{Plan}
use Rattle.plan.specs.PlanLines.{no_job}
use Rattle.strategy.specs.Histories.{Ran, History, no_ran, ran_for, turn, on_window, seen_from}
use Rattle.strategy.specs.Strategies.{ran_in, Forced}
use Rattle.strategy.proofs.Keeping.{RunsInside}
use Rattle.strategy.proofs.HistoryLaws.{length_more}

-- ---- lists

map_at : (f : Ran → Ran) (l : History) (k : ℕ) → k < length l → ran_in (map f l) k ≡ f (ran_in l k)
map_at f [] k h = absurd (omega arith)
map_at f (r ∷ l) zero h = refl
map_at f (r ∷ l) (suc k) h = map_at f l k (omega arith)

map-join : (f : Ran → Ran) (l m : History) → map f (l ++ m) ≡ map f l ++ map f m
map-join f [] m = refl
map-join f (r ∷ l) m = ap (λ l. f r ∷ l) (map-join f l m)

le-or-lt : (a b : ℕ) (t : Bool) → leb a b ≡ t → (a ≤ b) ⊎ (b < a)
le-or-lt a b true e = inl (leb-true a b e)
le-or-lt a b false e = inr (leb-false a b e)

pub at-most-or-above : (a b : ℕ) → (a ≤ b) ⊎ (b < a)
at-most-or-above a b = le-or-lt a b (leb a b) refl

-- ---- what was seen from a window on

module _ (p : Plan) (j : ℕ) where
  pub length_seen : (h : History) → length (seen_from p j h) ≡ length h - j * p.jobs
  unfolding seen_from
  length_seen h = length-map (drop (j * p.jobs) h) _ ∙ length-drop (j * p.jobs) h

  pub ran-seen : (h : History) (k : ℕ) → j * p.jobs + k < length h → ran_in (seen_from p j h) k ≡ on_window (pos j *ℤ p.window) (ran_in h (j * p.jobs + k))
  unfolding seen_from
  ran-seen h k i =
      let n = length-drop (j * p.jobs) h in
      map_at (on_window (pos j *ℤ p.window)) (drop (j * p.jobs) h) k (omega arith)
      ∙ ap (on_window (pos j *ℤ p.window)) (get_or-drop (j * p.jobs) h k no_ran)

  pub seen_more : (h m : History) → j * p.jobs ≤ length h → seen_from p j (h ++ m) ≡ seen_from p j h ++ map (on_window (pos j *ℤ p.window)) m
  unfolding seen_from
  seen_more h m i =
      ap (map (on_window (pos j *ℤ p.window))) (drop-append-le (j * p.jobs) h m i) ∙ map-join _ (drop (j * p.jobs) h) m

  pub seen_none : (h : History) → length h ≤ j * p.jobs → seen_from p j h ≡ []
  unfolding seen_from
  seen_none h i = ap (map (on_window (pos j *ℤ p.window))) (drop_of_length-le h i)

  since-later : (t e b : ℤ) → (t +ℤ e) -ℤ b ≡ (t -ℤ b) +ℤ e
  since-later t e b = omega (shows eq (any ⊕ any ⊖ any) (any ⊖ any ⊕ any), wholes)

  pub seen-ran_for : (h : History) (t e : ℤ) → j * p.jobs ≤ length h
      → seen_from p j (ran_for h t e) ≡ ran_for (seen_from p j h) (t -ℤ pos j *ℤ p.window) e
  seen-ran_for h t e i =
      seen_more h _ i
      ∙ ap (λ f. seen_from p j h ++ (record { start = t -ℤ pos j *ℤ p.window; finish = f } ∷ [])) (since-later t e (pos j *ℤ p.window))

  pub turn-seen : (k : ℕ) → turn p (j * p.jobs + k) ≡ turn p k
  turn-seen k = ap (λ i. get_or p.job i no_job) (mul-add-mod_self_right j p.jobs k)

  pub runs_inside-seen : (h : History) → RunsInside p h → RunsInside p (seen_from p j h)
  runs_inside-seen h old k i =
      let n = length_seen h in
      let low : j * p.jobs + k < length h = omega arith in
      let r = old (j * p.jobs + k) low in
      let a = r.least in
      let b = r.most in
      rw (ran-seen h k low, ← (turn-seen k))
      (record {
        least = omega (shows le any (any ⊖ any ⊖ (any ⊖ any)), wholes);
        most = omega (shows le (any ⊖ any ⊖ (any ⊖ any)) any, wholes);
      })

  pub turn-after : (h : History) → j * p.jobs ≤ length h → turn p (length (seen_from p j h)) ≡ turn p (length h)
  turn-after h i =
      let n = length_seen h in
      let e : j * p.jobs + length (seen_from p j h) ≡ length h = omega arith in
      sym (turn-seen (length (seen_from p j h))) ∙ ap (turn p) e

  pub forced-seen : (Q : History → Type 0) (g : ℕ) (h : History) → j * p.jobs ≤ length h
      → Forced p (λ h. Q (seen_from p j h)) g h → Forced p Q g (seen_from p j h)
  unfolding Forced
  forced-seen Q zero h i q = q
  forced-seen Q (suc g) h i (t, f) = (
    t -ℤ pos j *ℤ p.window,
    λ e lo hi.
        let n = length_more h (record { start = t; finish = t +ℤ e }) in
        rw (← (seen-ran_for h t e i))
        (forced-seen Q g (ran_for h t e) (omega arith) (f e (rw (← (turn-after h i)) lo) (rw (← (turn-after h i)) hi))),
  )

  back_to : (t b : ℤ) → (t +ℤ b) -ℤ b ≡ t
  back_to t b = omega wholes

  pub seen-forced : (Q : History → Type 0) (g : ℕ) (h : History) → j * p.jobs ≤ length h
      → Forced p Q g (seen_from p j h) → Forced p (λ h. Q (seen_from p j h)) g h
  unfolding Forced
  seen-forced Q zero h i q = q
  seen-forced Q (suc g) h i (t, f) = (
    t +ℤ pos j *ℤ p.window,
    λ e lo hi.
        let n = length_more h (record { start = t +ℤ pos j *ℤ p.window; finish = (t +ℤ pos j *ℤ p.window) +ℤ e }) in
        seen-forced Q g (ran_for h (t +ℤ pos j *ℤ p.window) e) (omega arith)
        (rw (seen-ran_for h (t +ℤ pos j *ℤ p.window) e i, back_to t (pos j *ℤ p.window))
        (f e (rw (turn-after h i) lo) (rw (turn-after h i) hi))),
  )

-- the window after it
since-next : (j : ℕ) (x w : ℤ) → (x -ℤ pos j *ℤ w) -ℤ pos 1 *ℤ w ≡ x -ℤ pos (suc j) *ℤ w
since-next j x w =
    let a = split-mul j w in
    let b = split-mul 1 w in
    let c = split-mul (suc j) w in
    omega (shows eq (any ⊖ any ⊖ any) (any ⊖ any), wholes)

ran-next : (j : ℕ) (r : Ran) (w : ℤ) → on_window (pos 1 *ℤ w) (on_window (pos j *ℤ w) r) ≡ on_window (pos (suc j) *ℤ w) r
ran-next j r w = λ i. record { start = since-next j r.start w i; finish = since-next j r.finish w i }

pub seen_next : (p : Plan) (j : ℕ) (h : History) → seen_from p 1 (seen_from p j h) ≡ seen_from p (suc j) h
seen_next p j h =
    let a = length_seen p 1 (seen_from p j h) in
    let b = length_seen p j h in
    let c = length_seen p (suc j) h in
    let d = suc-mul j p.jobs in
    ext_get_or no_ran (seen_from p 1 (seen_from p j h)) (seen_from p (suc j) h) (omega arith)
    (λ i l.
    let low₁ : 1 * p.jobs + i < length (seen_from p j h) = omega arith in
    let low₂ : j * p.jobs + (1 * p.jobs + i) < length h = omega arith in
    let low₃ : suc j * p.jobs + i < length h = omega arith in
    let same : j * p.jobs + (1 * p.jobs + i) ≡ suc j * p.jobs + i = omega arith in
    ran-seen p 1 (seen_from p j h) i low₁
    ∙ ap (on_window (pos 1 *ℤ p.window)) (ran-seen p j h (1 * p.jobs + i) low₂)
    ∙ ran-next j (ran_in h (j * p.jobs + (1 * p.jobs + i))) p.window
    ∙ ap (λ k. on_window (pos (suc j) *ℤ p.window) (ran_in h k)) same
    ∙ sym (ran-seen p (suc j) h i low₃))

-- the first window's clock is the run's
since-zero : (x w : ℤ) → x -ℤ pos 0 *ℤ w ≡ x
since-zero x w = let a = split-mul 0 w in omega wholes

pub seen_all : (p : Plan) (h : History) → seen_from p 0 h ≡ h
seen_all p h =
    let a = length_seen p 0 h in
    ext_get_or no_ran (seen_from p 0 h) h (omega arith)
    (λ i l.
    let low : 0 * p.jobs + i < length h = omega arith in
    let same : 0 * p.jobs + i ≡ i = omega arith in
    ran-seen p 0 h i low ∙ ap (λ k. on_window (pos 0 *ℤ p.window) (ran_in h k)) same ∙ ran-zero (ran_in h i) p.window)
  where
    ran-zero : (r : Ran) (w : ℤ) → on_window (pos 0 *ℤ w) r ≡ r
    ran-zero r w = λ i. record { start = since-zero r.start w i; finish = since-zero r.finish w i }
