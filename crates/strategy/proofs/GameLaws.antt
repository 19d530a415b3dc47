-- A run of a settled plan, by its history alone. The game of a window is that of the table that a round starts with; in the first window that of the
-- settled set alone. While the game can be won (`Winnable`), strategies exist to the end of this window and of every later one, a next start is allowed
-- exactly if they exist after it, and one is allowed.
use Prim.Native.Nat.{ℕ, zero, suc, ◌+◌, ◌*◌, ◌≤◌, ◌<◌}
use Rattle.std.specs.Prelude.{◌≡◌, refl, true, [], ℤ, pos, ◌+ℤ◌, ◌-ℤ◌, ◌*ℤ◌, ◌≤ℤ◌, length}
use Rattle.std.proofs.Math.Path.{sym, subst}
use Rattle.std.proofs.Common.{ap, ◌∙◌, arith}
use Rattle.whole.specs.Rules.{wholes}
use Rattle.plan.specs.declared.Plan.{Plan}
use Rattle.plan.specs.Accepted.{Accepted}
use Rattle.bounds.specs.Events.{event_of, nodes}
use Rattle.bounds.specs.Tables.{Rows, at, bounds}
use Rattle.bounds.specs.Elimination.{eliminated}
use Rattle.rounds.specs.Rounds.{C0, joined, round}
use Rattle.strategy.specs.Histories.{History, ran_for, turn, seen_from}
use Rattle.strategy.specs.Strategies.{Kept, Forced, Strategy}
use Rattle.strategy.proofs.Keeping.{when, Keeps, RunsInside}
use Rattle.strategy.proofs.HistoryLaws.{length_more, each_more, runs_inside-more, turn-min-max, follows-more, forced-map, forced-split, forced-play}
use Rattle.strategy.proofs.PlaceLaws.{WellFormed, then_set-bounds, elim-back}
use Rattle.strategy.proofs.WindowLaws.{Held}
use Rattle.strategy.proofs.SeenLaws.{length_seen, runs_inside-seen, seen-ran_for, forced-seen, seen-forced, seen_next, seen_all, turn-after}
use Rattle.strategy.proofs.KeptLaws.{Always, held_none, held_one, held-earlier, LeavesRoomAt, LeavesRoom, leaves_room-of, always-kept, starts-leaves_room}
use Rattle.strategy.proofs.JoinedLaws.{Both, joined-well_formed, joined_back}
use Rattle.strategy.proofs.RoundLaws.{
  strategy-kept,
  Round,
  round-parts,
  C-well_formed,
  strategy-keeps,
  keeps-strategy,
  strategy-both,
  both-strategy,
  held_both,
  both-keeps,
  keeps-both,
}
use Rattle.strategy.proofs.BeginLaws.{nothing-runs_inside, begin-game, first-held, first-strategy, strategy-first}
use Rattle.strategy.proofs.FirstLaws.{C-judged, joined-shifted, round-alone}
use Rattle.strategy.proofs.VerdictLaws.{C-next, IsSettled, settled-after}
use Rattle.strategy.proofs.StageLaws.{Allowed, allowed-rest, rest-allowed, Stages, stages}

-- fewer windows follow from more
pub fewer-windows : (p : Plan) → Accepted p → (h : History) (g k a : ℕ) → Strategy p h (g + (a + k) * p.jobs) → Strategy p h (g + k * p.jobs)
fewer-windows p good h g k a s =
    let e : g + (a + k) * p.jobs ≡ (g + k * p.jobs) + a * p.jobs = omega arith in
    forced-map p _ _ (g + k * p.jobs) h (λ h' f q. strategy-kept p good (a * p.jobs) h' q)
    (forced-split p (Kept p) (g + k * p.jobs) (a * p.jobs) h (subst (λ g. Strategy p h g) e s))

module _ (p : Plan) (good : Accepted p) (m : ℕ) (c : Rows) (s : IsSettled p good m c) where
  -- the settled round: from c to c
  pub record Settling : Type 0 where
    pub own : Rows
    pub own_is : C0 p ≡ bounds own
    pub both : Rows
    pub both_is : joined p own c ≡ bounds both
    pub left_is : eliminated p p.jobs p.jobs both ≡ bounds c

  pub settling : Settling
  unfolding round
  settling =
      let r = round-parts p good s.before c s.next in
      let e : round p r.own c ≡ bounds c = sym (C-next p good s.before r.own c r.own_is s.set) ∙ s.next in
      let q = then_set-bounds (joined p r.own c) (eliminated p p.jobs p.jobs) c e in
      record { own = r.own; own_is = r.own_is; both = q.0; both_is = q.1; left_is = q.2 }

  module _ (f : Settling) where
    abbrev round-after : (d : ℕ) → Round p good (s.before + d) c
    round-after d =
        record {
          own = f.own;
          own_is = f.own_is;
          before = c;
          before-is = settled-after p good m c s d;
          both = f.both;
          both_is = f.both_is;
          left_is = f.left_is;
        }

    abbrev round-now : Round p good s.before c
    round-now = record { own = f.own; own_is = f.own_is; before = c; before-is = s.set; both = f.both; both_is = f.both_is; left_is = f.left_is }

    both-well_formed : WellFormed p (nodes (p.jobs + p.jobs)) f.both
    both-well_formed = joined-well_formed p good f.own c f.own_is (C-well_formed p good s.before c s.set).origin_bounded f.both f.both_is

    -- the game of a window with g jobs to go
    abbrev Game : ℕ → ℕ → History → Type 0
    Game zero g h = Forced p (Keeps (nodes p.jobs) (at c)) g h
    Game (suc j) g h = Forced p (Keeps (nodes (p.jobs + p.jobs)) (at f.both)) g (seen_from p j h)

    -- ---- the game and strategies

    module _ (i g : ℕ) (ig : i + g ≡ p.jobs) (h : History) (old : RunsInside p h) where
      game-far : (j : ℕ) → length h ≡ j * p.jobs + i → Always p (Held p) h → Game j g h → (k : ℕ) → Strategy p h (g + (s.before + k) * p.jobs)
      game-far zero n held q k =
          first-strategy p good (s.before + k) c (settled-after p good m c s k) i g ig h (omega arith) old f.own f.own_is q
      game-far (suc j) n held q k =
          let len = length_seen p j h in
          both-strategy p good (s.before + k) f.own c f.own_is (settled-after p good m c s k) j i g ig h n old (leaves_room-of p h held)
          (keeps-strategy p good (s.before + k) c (settled-after p good m c s k)) (always-kept p h held)
          (keeps-both p good (s.before + k) c (round-after k) (seen_from p j h) g (omega arith) (runs_inside-seen p j h old) q)

      game-strategy : (j : ℕ) → length h ≡ j * p.jobs + i → Always p (Held p) h → Game j g h → (k : ℕ) → Strategy p h (g + k * p.jobs)
      game-strategy j n held q k = fewer-windows p good h g k s.before (game-far j n held q k)

      strategy-game : (j : ℕ) → length h ≡ j * p.jobs + i → LeavesRoom p h → Strategy p h (g + s.before * p.jobs) → Game j g h
      strategy-game zero n room q = strategy-first p good s.before c s.set i g ig h (omega arith) old room q
      strategy-game (suc j) n room q =
          let len = length_seen p j h in
          both-keeps p good s.before c
          round-now
          (seen_from p j h) g (omega arith)
          (strategy-both p good s.before f.own c f.own_is s.set j i g ig h n old room (strategy-keeps p good s.before c s.set) q)

    -- ---- histories from which the game can be won: j windows and i jobs have run, and there are g jobs of this window to go

    pub record Winnable (h : History) (j i g : ℕ) : Type 0 where
      pub ig : i + g ≡ p.jobs
      pub size : length h ≡ j * p.jobs + i
      pub runs_inside : RunsInside p h
      pub held : Always p (Held p) h
      pub game : Game j g h

    pub winnable-begin : Winnable [] 0 0 p.jobs
    winnable-begin =
        let a = round-alone p good s.before c
        round-now in
        record {
          ig = omega arith;
          size = omega arith;
          runs_inside = nothing-runs_inside p good;
          held = held_one p [] (omega arith) (subst (Held p) (sym (seen_all p [])) (held_none p));
          game = begin-game p good s.before c s.set a.0 a.1;
        }

    -- the window that comes next, or the next job of this one
    abbrev pub WinnableAfter : ℕ → ℕ → ℕ → History → Type 0
    WinnableAfter j i zero h = Winnable h (suc j) 0 p.jobs
    WinnableAfter j i (suc g) h = Winnable h j (suc i) (suc g)

    module _ (h : History) (j i g : ℕ) (w : Winnable h j i (suc g)) (t e : ℤ) (lo : (turn p (length h)).min ≤ℤ e) (hi : e ≤ℤ (turn p (length h)).max) where
      abbrev h' : History
      h' = ran_for h t e

      runs_inside' : RunsInside p h'
      runs_inside' = runs_inside-more p h t e lo hi w.runs_inside

      size' : length h' ≡ j * p.jobs + suc i
      size' = let a = length_more h (record { start = t; finish = t +ℤ e }) in let b = w.size in omega arith

      held_first : length h' ≡ suc i → Game 0 g h' → Always p (Held p) h'
      held_first n q =
          let r = forced-play p good _ true g h' q in
          let z = r.follows.size in
          let ig = w.ig in
          held-earlier p h' r.history g r.follows
          (first-held p good s.before c s.set f.own f.own_is r.history (omega arith) (r.follows.runs_inside runs_inside') r.won)

      held-later : (j' : ℕ) → j ≡ suc j' → Game (suc j') g h' → Always p (Held p) h'
      held-later j' k q =
          let n = w.size in
          let ig = w.ig in
          let n' = size' in
          let len = length_seen p j' h' in
          let size-h : length h ≡ suc j' * p.jobs + i = n ∙ ap (λ j. j * p.jobs + i) k in
          let size-h' : length h' ≡ suc j' * p.jobs + suc i = n' ∙ ap (λ j. j * p.jobs + suc i) k in
          let b = keeps-both p good s.before c
          round-now
          (seen_from p j' h') g (omega arith) (runs_inside-seen p j' h' runs_inside') q in
          let r = forced-play p good (λ h. Both p f.own c (seen_from p j' h)) true g h' (seen-forced p j' (Both p f.own c) g h' (omega arith) b) in
          held-earlier p h' r.history g r.follows
          (held_both p good s.before f.own c f.own_is s.set j' i (suc g) ig h size-h w.runs_inside (leaves_room-of p h w.held)
          (always-kept p h w.held) r.history (follows-more p h g t e lo hi r.history r.follows) r.won)

    -- a job more, after which the game can still be won
    held_more : (h : History) (j i g : ℕ) (w : Winnable h j i (suc g)) (t e : ℤ) → (turn p (length h)).min ≤ℤ e → e ≤ℤ (turn p (length h)).max
        → Game j g (ran_for h t e) → Always p (Held p) (ran_for h t e)
    held_more h zero i g w t e lo hi q = let n = size' h zero i g w t e lo hi in held_first h zero i g w t e lo hi (omega arith) q
    held_more h (suc j) i g w t e lo hi q = held-later h (suc j) i g w t e lo hi j refl q

    -- the game of a whole window, from its end: the next window's
    next-game : (j : ℕ) (h : History) → length h ≡ suc j * p.jobs → RunsInside p h → Keeps (nodes p.jobs) (at c) (seen_from p j h) → Game (suc j) p.jobs h
    next-game j h n old kept =
        let len = length_seen p j h in
        elim-back p good p.jobs p.jobs f.both c (omega arith) both-well_formed f.left_is (seen_from p j h) (omega arith)
        (runs_inside-seen p j h old) kept

    next-keeps : (j : ℕ) (h : History) → length h ≡ suc j * p.jobs → RunsInside p h → Game j 0 h → Keeps (nodes p.jobs) (at c) (seen_from p j h)
    unfolding Forced
    next-keeps zero h n old q = subst (Keeps (nodes p.jobs) (at c)) (sym (seen_all p h)) q
    next-keeps (suc j) h n old q =
        let len = length_seen p j h in
        rw (seen_next p j h) at
        (joined_back p good f.own c f.own_is (C-well_formed p good s.before c s.set).origin_bounded f.both f.both_is (seen_from p j h)
        (omega arith)
        (runs_inside-seen p j h old) q).next

    pub winnable-more : (h : History) (j i g : ℕ) (w : Winnable h j i (suc g)) (t e : ℤ) → (turn p (length h)).min ≤ℤ e → e ≤ℤ (turn p (length h)).max
        → Game j g (ran_for h t e) → WinnableAfter j i g (ran_for h t e)
    winnable-more h j i zero w t e lo hi q =
        let n = size' h j i zero w t e lo hi in
        let old = runs_inside' h j i zero w t e lo hi in
        let ig = w.ig in
        let n' : length (ran_for h t e) ≡ suc j * p.jobs = omega arith in
        record {
          ig = omega arith;
          size = omega arith;
          runs_inside = old;
          held = held_more h j i zero w t e lo hi q;
          game = next-game j (ran_for h t e) n' old (next-keeps j (ran_for h t e) n' old q);
        }
    winnable-more h j i (suc g) w t e lo hi q =
        let n = size' h j i (suc g) w t e lo hi in
        let ig = w.ig in
        record {
          ig = omega arith;
          size = n;
          runs_inside = runs_inside' h j i (suc g) w t e lo hi;
          held = held_more h j i (suc g) w t e lo hi q;
          game = q;
        }

    -- ---- the next start

    -- after a start at t, whatever the running time: a strategy to the end of this window, and of each later one
    abbrev StrategiesAfter : History → ℕ → ℤ → Type 0
    StrategiesAfter h g t = (k : ℕ) (e : ℤ) → (turn p (length h)).min ≤ℤ e → e ≤ℤ (turn p (length h)).max → Strategy p (ran_for h t e) (g + k * p.jobs)

    abbrev pub Winning : History → ℕ → ℕ → ℤ → Type 0
    Winning h j g t = (e : ℤ) → (turn p (length h)).min ≤ℤ e → e ≤ℤ (turn p (length h)).max → Game j g (ran_for h t e)

    pub winning-strategies : (h : History) (j i g : ℕ) → Winnable h j i (suc g) → (t : ℤ) → Winning h j g t → StrategiesAfter h g t
    winning-strategies h j i g w t q k e lo hi =
        let ig = w.ig in
        game-strategy (suc i) g (omega arith) (ran_for h t e) (runs_inside' h j i g w t e lo hi) j (size' h j i g w t e lo hi)
        (held_more h j i g w t e lo hi (q e lo hi)) (q e lo hi) k

    pub strategies-winning : (h : History) (j i g : ℕ) → Winnable h j i (suc g) → (t : ℤ) → StrategiesAfter h g t → Winning h j g t
    strategies-winning h j i g w t q e lo hi =
        let ig = w.ig in
        let mm = turn-min-max p good (length h) in
        strategy-game (suc i) g (omega arith) (ran_for h t e) (runs_inside' h j i g w t e lo hi) j (size' h j i g w t e lo hi)
        (each_more (LeavesRoomAt p) h _ (leaves_room-of p h w.held)
        (starts-leaves_room p good (Kept p) (λ h k. k) (g + s.before * p.jobs) h t (q s.before (turn p (length h)).max mm (omega wholes)) e))
        (q s.before e lo hi)

    -- ---- the table of the next start

    pub tables : (i : ℕ) → i < p.jobs → Stages p c f.both p.jobs i
    tables i l =
        stages p p.jobs c f.both c (omega arith)
        (joined-shifted p good f.own c f.own_is (C-judged p good s.before c s.set) f.both f.both_is) f.left_is i l

    -- one start at least
    pub some-winning : (h : History) (j i g : ℕ) → Winnable h j i (suc g) → (t : ℤ) × Winning h j g t
    unfolding Forced
    some-winning h zero i g w = w.game
    some-winning h (suc j) i g w =
        let n = w.size in
        let q = seen-forced p j _ (suc g) h (omega arith) w.game in (
          q.0,
          λ e lo hi.
              let a = length_more h (record { start = q.0; finish = q.0 +ℤ e }) in
              forced-seen p j _ g (ran_for h q.0 e) (omega arith) (q.1 e lo hi),
        )

    -- t keeps the row and the column of the next start: in the first window of the table of one window alone
    abbrev pub AllowedAt : (j i : ℕ) → i < p.jobs → History → ℤ → Type 0
    AllowedAt zero i l h t = Allowed (tables i l).alone.before i (λ y. when h (event_of y)) t
    AllowedAt (suc j) i l h t =
        Allowed (tables i l).later.before (p.jobs + i) (λ y. when (seen_from p j h) (event_of y)) (t -ℤ pos j *ℤ p.window)

    module _ (h : History) (i g : ℕ) (l : i < p.jobs) where
      abbrev st : Stages p c f.both p.jobs i
      st = tables i l

      rest-is : (j : ℕ) → Winnable h j i (suc g) → st.rest ≡ g
      rest-is j w = let a = st.rest-is in let b = w.ig in omega arith

      alone-size : suc i + st.rest ≡ p.jobs
      alone-size = st.rest-is

      later-size : suc (p.jobs + i) + st.rest ≡ p.jobs + p.jobs
      later-size = let a = st.rest-is in omega arith

      alone-well_formed : WellFormed p (nodes (suc i + st.rest)) c
      alone-well_formed = subst (λ k. WellFormed p (nodes k) c) (sym alone-size) (C-well_formed p good s.before c s.set)

      pub later-well_formed : WellFormed p (nodes (suc (p.jobs + i) + st.rest)) f.both
      later-well_formed = subst (λ k. WellFormed p (nodes k) f.both) (sym later-size) both-well_formed

      alone-fits : suc i + st.rest ≤ p.jobs + p.jobs
      alone-fits = let a = alone-size in omega arith

      pub later-fits : suc (p.jobs + i) + st.rest ≤ p.jobs + p.jobs
      later-fits = let a = later-size in omega arith

      pub winning-allowed : (j : ℕ) → Winnable h j i (suc g) → (t : ℤ) → Winning h j g t → AllowedAt j i l h t
      winning-allowed zero w t q =
          let n = w.size in
          rest-allowed p good c i st.rest alone-fits alone-well_formed st.alone h (omega arith) w.runs_inside t
          (λ e lo hi.
          subst (λ k. Forced p (Keeps (nodes k) (at c)) st.rest (ran_for h t e)) (sym alone-size)
          (subst (λ g. Game 0 g (ran_for h t e)) (sym (rest-is 0 w)) (q e lo hi)))
      winning-allowed (suc j) w t q =
          let n = w.size in
          let len = length_seen p j h in
          let after = turn-after p j h (omega arith) in
          rest-allowed p good f.both (p.jobs + i) st.rest later-fits later-well_formed st.later (seen_from p j h) (omega arith)
          (runs_inside-seen p j h w.runs_inside) (t -ℤ pos j *ℤ p.window)
          (λ e lo hi.
          subst (λ k. Forced p (Keeps (nodes k) (at f.both)) st.rest (ran_for (seen_from p j h) (t -ℤ pos j *ℤ p.window) e)) (sym later-size)
          (subst (λ u. Forced p (Keeps (nodes (p.jobs + p.jobs)) (at f.both)) st.rest u) (seen-ran_for p j h t e (omega arith))
          (subst (λ g. Game (suc j) g (ran_for h t e)) (sym (rest-is (suc j) w))
          (q e (subst (λ x. x.min ≤ℤ e) after lo) (subst (λ x. e ≤ℤ x.max) after hi)))))

      pub allowed-winning : (j : ℕ) → Winnable h j i (suc g) → (t : ℤ) → AllowedAt j i l h t → Winning h j g t
      allowed-winning zero w t a e lo hi =
          let n = w.size in
          subst (λ g. Game 0 g (ran_for h t e)) (rest-is 0 w)
          (subst (λ k. Forced p (Keeps (nodes k) (at c)) st.rest (ran_for h t e)) alone-size
          (allowed-rest p good c i st.rest alone-fits alone-well_formed st.alone h (omega arith) w.runs_inside
          (subst (λ k. Forced p (Keeps (nodes k) (at c)) (suc st.rest) h) (sym alone-size) (subst (λ g. Game 0 (suc g) h) (sym (rest-is 0 w)) w.game))
          t a e lo hi))
      allowed-winning (suc j) w t a e lo hi =
          let n = w.size in
          let len = length_seen p j h in
          let after = sym (turn-after p j h (omega arith)) in
          subst (λ g. Game (suc j) g (ran_for h t e)) (rest-is (suc j) w)
          (subst (λ u. Forced p (Keeps (nodes (p.jobs + p.jobs)) (at f.both)) st.rest u) (sym (seen-ran_for p j h t e (omega arith)))
          (subst (λ k. Forced p (Keeps (nodes k) (at f.both)) st.rest (ran_for (seen_from p j h) (t -ℤ pos j *ℤ p.window) e)) later-size
          (allowed-rest p good f.both (p.jobs + i) st.rest later-fits later-well_formed st.later (seen_from p j h) (omega arith)
          (runs_inside-seen p j h w.runs_inside)
          (subst (λ k. Forced p (Keeps (nodes k) (at f.both)) (suc st.rest) (seen_from p j h)) (sym later-size)
          (subst (λ g. Game (suc j) (suc g) h) (sym (rest-is (suc j) w)) w.game))
          (t -ℤ pos j *ℤ p.window) a e (subst (λ x. x.min ≤ℤ e) after lo) (subst (λ x. e ≤ℤ x.max) after hi))))
