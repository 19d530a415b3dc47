-- Histories that keep the plan's bounds. What holds of every window of a history holds of every window of its beginnings, and for a history that is
-- one window longer it follows from its last two windows. In a game that ends with the bounds kept, every start leaves room for the longest run.
use Prim.Native.Nat.{ℕ, zero, suc, ◌+◌, ◌*◌, ◌≤◌, ◌<◌}
use Rattle.std.specs.Prelude.{◌≡◌, refl, true, [], ◌++◌, ℤ, pos, ◌+ℤ◌, ◌-ℤ◌, ◌*ℤ◌, ◌≤ℤ◌, length}
use Rattle.std.proofs.Common.{sym, ap, subst, ◌∙◌, ⊎_elim, mul-le-mul_right, suc-mul, arith, length-append}
use Rattle.std.proofs.Math.ListN.{get_or-append}
use Rattle.whole.specs.Rules.{wholes}
use Rattle.plan.specs.declared.Plan.{Plan}
use Rattle.plan.specs.Accepted.{Accepted}
use Rattle.strategy.specs.Histories.{Ran, History, no_ran, ran_for, turn, on_window, seen_from}
use Rattle.strategy.specs.Strategies.{ran_in, place_in, bound_in, KeptIn, Kept, Forced}
use Rattle.strategy.proofs.EliminationLaws.{below-or-last}
use Rattle.strategy.proofs.HistoryLaws.{Follows, length_more, ran-new, each_more, turn-min-max, forced-play}
use Rattle.strategy.proofs.WindowLaws.{Held, place-two}
use Rattle.strategy.proofs.SeenLaws.{at-most-or-above, length_seen, ran-seen, seen_more, seen_none}

-- ---- one window and the next

module _ (p : Plan) where
  kept_in-before : (u m : History) → KeptIn p (u ++ m) → KeptIn p u
  kept_in-before u m k =
      let n = length-append u m in
      record {
        released = λ i h s. rw (get_or-append u m no_ran i s) at (k.released i h (omega arith));
        in_time = λ i h s. rw (get_or-append u m no_ran i s) at (k.in_time i h (omega arith));
        ordered =
            λ i h s.
            let s' : i < length u = omega arith in
            rw (get_or-append u m no_ran i s', get_or-append u m no_ran (suc i) s) at (k.ordered i h (omega arith));
        given =
            λ i l a b.
            let d = bound_in p i in
            rw (get_or-append u m no_ran (place_in p d.a) a, get_or-append u m no_ran (place_in p d.b) b) at
            (k.given i l (omega arith) (omega arith));
      }

  kept_in-more : Accepted p → (u m : History) → p.jobs + p.jobs ≤ length u → KeptIn p u → KeptIn p (u ++ m)
  kept_in-more good u m two k =
      record {
        released = λ i h s. let l : i < length u = omega arith in rw (get_or-append u m no_ran i l) (k.released i h l);
        in_time = λ i h s. let l : i < length u = omega arith in rw (get_or-append u m no_ran i l) (k.in_time i h l);
        ordered =
            λ i h s.
            let l : i < length u = omega arith in
            let j = good.jobs-least in
            let l' : suc i < length u = omega arith in
            rw (get_or-append u m no_ran i l, get_or-append u m no_ran (suc i) l') (k.ordered i h l');
        given =
            λ i l a b.
            let d = bound_in p i in
            let s = good.bound_at i l in
            let pa = place-two p d.a.letter d.a.job s.a-least s.a-most in
            let pb = place-two p d.b.letter d.b.job s.b-least s.b-most in
            let la : place_in p d.a < length u = omega arith in
            let lb : place_in p d.b < length u = omega arith in
            rw (get_or-append u m no_ran (place_in p d.a) la, get_or-append u m no_ran (place_in p d.b) lb) (k.given i l la lb);
      }

  kept_in-none : KeptIn p []
  kept_in-none =
      record {
        released = λ i h s. absurd (omega arith);
        in_time = λ i h s. absurd (omega arith);
        ordered = λ i h s. absurd (omega arith);
        given = λ i l a b. absurd (omega arith);
      }

  held-before : (u m : History) → Held p (u ++ m) → Held p u
  held-before u m k =
      let n = length-append u m in
      record {
        kept = kept_in-before u m k.kept;
        leaves_room = λ i h s. rw (get_or-append u m no_ran i s) at (k.leaves_room i h (omega arith));
      }

  held_more : Accepted p → (u m : History) → p.jobs + p.jobs ≤ length u → Held p u → Held p (u ++ m)
  held_more good u m two k =
      record {
        kept = kept_in-more good u m two k.kept;
        leaves_room = λ i h s. let l : i < length u = omega arith in rw (get_or-append u m no_ran i l) (k.leaves_room i h l);
      }

  pub held_none : Held p []
  held_none = record { kept = kept_in-none; leaves_room = λ i h s. absurd (omega arith) }

-- ---- all windows

-- P of every window, on its own clock
abbrev pub Always : Plan → (History → Type 0) → History → Type 0
Always p P h = (j : ℕ) → P (seen_from p j h)

module _ (p : Plan) (P : History → Type 0) (none : P []) where
  always-before : ((u m : History) → P (u ++ m) → P u) → (h m : History) → Always p P (h ++ m) → Always p P h
  always-before before h m all j =
      ⊎_elim (λ (a : j * p.jobs ≤ length h). before _ _ (rw (seen_more p j h m a) at (all j)))
      (λ (a : length h < j * p.jobs). rw (seen_none p j h (omega arith)) none)
      (at-most-or-above (j * p.jobs) (length h))

  module _ (more : (u m : History) → p.jobs + p.jobs ≤ length u → P u → P (u ++ m)) (h m : History) (j : ℕ)
      (n : suc j * p.jobs ≤ length h) (n' : length (h ++ m) ≡ suc (suc j) * p.jobs)
      (old : Always p P h) (this : P (seen_from p j (h ++ m))) (next : P (seen_from p (suc j) (h ++ m))) where
    earlier : (i : ℕ) → i < j → P (seen_from p i (h ++ m))
    earlier i l =
        let a = mul-le-mul_right {m = suc (suc i)} {n = suc j} p.jobs (omega arith) in
        let b = suc-mul i p.jobs in
        let c = suc-mul (suc i) p.jobs in
        let d = length_seen p i h in
        rw (seen_more p i h m (omega arith)) (more _ _ (omega arith) (old i))

    later : (i : ℕ) → suc j < i → P (seen_from p i (h ++ m))
    later i l =
        let a = mul-le-mul_right {m = suc (suc j)} {n = i} p.jobs (omega arith) in
        rw (seen_none p i (h ++ m) (omega arith)) none

    always-next : Always p P (h ++ m)
    always-next i =
        ⊎_elim
        (λ (a : i ≤ suc j).
        ⊎_elim
        (λ (b : i < suc j).
        ⊎_elim (λ (c : i < j). earlier i c) (λ (c : i ≡ j). subst (λ i. P (seen_from p i (h ++ m))) (sym c) this) (below-or-last i j b))
        (λ (b : i ≡ suc j). subst (λ i. P (seen_from p i (h ++ m))) (sym b) next)
        (below-or-last i (suc j) (omega arith)))
        (λ (a : suc j < i). later i a)
        (at-most-or-above i (suc j))

  always-one : (h : History) → length h ≤ p.jobs → P (seen_from p 0 h) → Always p P h
  always-one h n first zero = first
  always-one h n first (suc i) =
      let a = suc-mul i p.jobs in
      rw (seen_none p (suc i) h (omega arith)) none

module _ (p : Plan) where
  pub kept-before : (h m : History) → Kept p (h ++ m) → Kept p h
  kept-before h m = always-before p (KeptIn p) (kept_in-none p) (kept_in-before p) h m

  pub held-earlier : (h h' : History) (g : ℕ) → Follows p h g h' → Always p (Held p) h' → Always p (Held p) h
  held-earlier h h' g f all = always-before p (Held p) (held_none p) (held-before p) h f.more (subst (Always p (Held p)) f.whole all)

  pub held_next : Accepted p → (h m : History) (j : ℕ) → suc j * p.jobs ≤ length h → length (h ++ m) ≡ suc (suc j) * p.jobs
      → Always p (Held p) h → Held p (seen_from p j (h ++ m)) → Held p (seen_from p (suc j) (h ++ m)) → Always p (Held p) (h ++ m)
  held_next good h m j = always-next p (Held p) (held_none p) (held_more p good) h m j

  pub held_one : (h : History) → length h ≤ p.jobs → Held p (seen_from p 0 h) → Always p (Held p) h
  held_one h = always-one p (Held p) (held_none p) h

-- ---- every start leaves room for the longest run

module _ (p : Plan) where
  abbrev pub LeavesRoomAt : ℕ → Ran → Type 0
  LeavesRoomAt k r =
      (j i : ℕ) → i < p.jobs → k ≡ j * p.jobs + i → ((r.start -ℤ pos j *ℤ p.window) +ℤ (turn p i).max) ≤ℤ (turn p i).deadline

  abbrev pub LeavesRoom : History → Type 0
  LeavesRoom h = (k : ℕ) → k < length h → LeavesRoomAt k (ran_in h k)

  pub held_of : (h : History) → Kept p h → LeavesRoom h → Always p (Held p) h
  held_of h k c j =
      record {
        kept = k j;
        leaves_room =
            λ i l s.
            let n = length_seen p j h in
            let low : j * p.jobs + i < length h = omega arith in
            rw (ran-seen p j h i low) (c (j * p.jobs + i) low j i l refl);
      }

  pub leaves_room-of : (h : History) → Always p (Held p) h → LeavesRoom h
  leaves_room-of h a k low j i l e =
      let n = length_seen p j h in
      let low' : j * p.jobs + i < length h = omega arith in
      let q = rw (ran-seen p j h i low') at ((a j).leaves_room i l (omega arith)) in
      subst (λ k. (((ran_in h k).start -ℤ pos j *ℤ p.window) +ℤ (turn p i).max) ≤ℤ (turn p i).deadline) (sym e) q

  pub always-kept : (h : History) → Always p (Held p) h → Kept p h
  always-kept h a j = (a j).kept

  room : (t b m d : ℤ) → ((t +ℤ m) -ℤ b) ≤ℤ d → ((t -ℤ b) +ℤ m) ≤ℤ d
  room t b m d h = omega wholes

  -- the longest run of a start shows the deadline
  pub starts-leaves_room : Accepted p → (Q : History → Type 0) → ((h : History) → Q h → Kept p h) → (g : ℕ) (h : History) (t : ℤ)
      → Forced p Q g (ran_for h t (turn p (length h)).max)
      → (e : ℤ) → LeavesRoomAt (length h) (record { start = t; finish = t +ℤ e })
  starts-leaves_room good Q kept g h t f e j i l k =
      let max = (turn p (length h)).max in
      let longest = ran_for h t max in
      let r = forced-play p good Q true g longest f in
      let m = r.follows.more in
      let n₁ = length_more h (record { start = t; finish = t +ℤ max }) in
      let n₂ = length-append longest m in
      let n₃ = length_seen p j (longest ++ m) in
      let low : j * p.jobs + i < length (longest ++ m) = omega arith in
      let low₁ : length h < length longest = omega arith in
      let kp : KeptIn p (seen_from p j (longest ++ m)) = kept (longest ++ m) (subst Q r.follows.whole r.won) j in
      let there : ran_in (longest ++ m) (j * p.jobs + i) ≡ record { start = t; finish = t +ℤ max } =
      ap (ran_in (longest ++ m)) (sym k) ∙ get_or-append longest m no_ran (length h) low₁ ∙ ran-new h _ (length h) refl in
      let d = rw (ran-seen p j (longest ++ m) i low ∙ ap (on_window (pos j *ℤ p.window)) there) at (kp.in_time i l (omega arith)) in
      room t (pos j *ℤ p.window) (turn p i).max (turn p i).deadline (subst (λ x. ((t +ℤ x) -ℤ pos j *ℤ p.window) ≤ℤ (turn p i).deadline) max-is d)
    where
      max-is : (turn p (length h)).max ≡ (turn p i).max
      max-is = ap (λ j. j.max) (ap (turn p) k ∙ Rattle.strategy.proofs.SeenLaws.turn-seen p j i)

  pub forced-leaves_room : Accepted p → (Q : History → Type 0) → ((h : History) → Q h → Kept p h) → (g : ℕ) (h : History) → LeavesRoom h
      → Forced p Q g h → Forced p (λ h. Q h × LeavesRoom h) g h
  unfolding Forced
  forced-leaves_room good Q kept zero h c q = (q, c)
  forced-leaves_room good Q kept (suc g) h c (t, f) =
      let mm = turn-min-max p good (length h) in (
        t,
        λ e lo hi.
            forced-leaves_room good Q kept g (ran_for h t e)
            (each_more LeavesRoomAt h _ c
            (starts-leaves_room good Q kept g h t (f (turn p (length h)).max mm (omega wholes)) e))
            (f e lo hi),
      )
