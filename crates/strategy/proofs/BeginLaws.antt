-- From the beginning: a contradiction in round m + 1 leaves no strategy for m + 2 windows, one window alone that fails with C(m) none for m + 1, and
-- where it does not fail there is one. A contradiction in C(0) leaves none for one window. Fewer windows follow from more.
use Rattle.std.specs.Prelude.{ℕ, suc, ◌+◌, ◌*◌, ◌≤◌, ◌≡◌, refl, Bool, [], length}
use Rattle.std.proofs.Common.{sym, subst, zero-add, arith}
use Rattle.std.proofs.Math.Logic.{⊎_elim}
use Rattle.plan.specs.declared.Plan.{Plan}
use Rattle.plan.specs.Accepted.{Accepted}
use Rattle.plan.specs.ListLaws.{All}
use Rattle.bounds.specs.Events.{nodes}
use Rattle.bounds.specs.Tables.{Rows, at, contradiction, bounds}
use Rattle.bounds.specs.Elimination.{eliminated}
use Rattle.rounds.specs.Rounds.{C0, joined, round}
use Rattle.rounds.specs.Given.{own_bounds}
use Rattle.strategy.specs.Histories.{History, seen_from}
use Rattle.strategy.specs.Strategies.{Kept, Forced, Strategy, StrategyFor}
use Rattle.strategy.proofs.Keeping.{Keeps, RunsInside, LongOrShort, OriginBounded}
use Rattle.strategy.proofs.HistoryLaws.{forced-map, forced-split, forced-join, Fails, fails-before, fails-map}
use Rattle.strategy.proofs.PlaceLaws.{WellFormed, then_set-none, elim-well_formed, elim-back, elim-none}
use Rattle.strategy.proofs.GivenLaws.{BetweenKept}
use Rattle.strategy.proofs.WindowLaws.{Held, held-own}
use Rattle.strategy.proofs.SeenLaws.{seen_all}
use Rattle.strategy.proofs.KeptLaws.{Always, held_none, held_one, LeavesRoom, held_of, leaves_room-of, always-kept, forced-leaves_room}
use Rattle.strategy.proofs.JoinedLaws.{C0-none, Both, joined-well_formed, joined_keeps, joined-none}
use Rattle.strategy.proofs.RoundLaws.{C, strategy-kept, C-well_formed, C-held, strategy-both, strategy-keeps, keeps-strategy, more-windows}

module _ (p : Plan) (good : Accepted p) where
  nothing-leaves_room : LeavesRoom p []
  nothing-leaves_room k h = absurd (omega arith)

  pub nothing-runs_inside : RunsInside p []
  nothing-runs_inside k h = absurd (omega arith)

  nothing-long_or_short : (long : Bool) → LongOrShort p long []
  nothing-long_or_short long k h = absurd (omega arith)

  pub nothing-kept : Kept p []
  nothing-kept = always-kept p [] (held_one p [] (omega arith) (subst (Held p) (sym (seen_all p [])) (held_none p)))

  -- no strategy where every first window of some kind fails
  fails-first : (Q : History → Type 0) → Fails p p.jobs Q → Forced p Q p.jobs [] → ⊥
  fails-first Q f q =
      let g = fails-before p good Q 0 p.jobs (subst (λ k. Fails p k Q) (sym (zero-add p.jobs)) f) in
      g.1 [] refl (nothing-long_or_short g.0) q

  -- a strategy from the beginning, as a game of the first window
  first-window : (m : ℕ) → StrategyFor p (suc m) → Forced p (λ h. Strategy p h (m * p.jobs) × LeavesRoom p h) p.jobs []
  first-window m s =
      forced-leaves_room p good (λ h. Strategy p h (m * p.jobs)) (λ h q. strategy-kept p good (m * p.jobs) h q) p.jobs [] nothing-leaves_room
      (forced-split p (Kept p) p.jobs (m * p.jobs) [] (subst (λ g. Strategy p [] g) (more-windows p good m) s))

  -- ---- contradictions

  round-none : (m : ℕ) (c0 c : Rows) → C0 p ≡ bounds c0 → C p m ≡ bounds c → round p c0 c ≡ contradiction
      → Fails p p.jobs (λ h. Strategy p h (suc m * p.jobs) × LeavesRoom p h)
  unfolding round
  round-none m c0 c e0 e none =
      ⊎_elim
      (λ (j : joined p c0 c ≡ contradiction).
      fails-map p good _ _ p.jobs two-windows
      (fails-before p good (Both p c0 c) p.jobs p.jobs (joined-none p good c0 c e0 origin_bounded j)))
      (λ (r : (t : Rows) × (joined p c0 c ≡ bounds t) × (eliminated p p.jobs p.jobs t ≡ contradiction)).
      fails-map p good _ _ p.jobs
      (λ h n old q.
      forced-map p _ _ p.jobs h
      (λ u f b. let size = f.size in joined_keeps p good c0 c e0 origin_bounded r.0 r.1 u (omega arith) b)
      (two-windows h n old q))
      (elim-none p good p.jobs p.jobs r.0 (omega arith) (joined-well_formed p good c0 c e0 origin_bounded r.0 r.1) r.2))
      (then_set-none (joined p c0 c) (eliminated p p.jobs p.jobs) none)
    where
      origin_bounded : OriginBounded p (nodes p.jobs) (at c)
      origin_bounded = (C-well_formed p good m c e).origin_bounded

      two-windows : (h : History) → length h ≡ p.jobs → RunsInside p h → Strategy p h (suc m * p.jobs) × LeavesRoom p h
          → Forced p (Both p c0 c) p.jobs h
      two-windows h n old q =
          subst (Forced p (Both p c0 c) p.jobs) (seen_all p h)
          (strategy-both p good m c0 c e0 e 0 0 p.jobs (omega arith) h (omega arith) old q.1 (strategy-keeps p good m c e)
          (subst (λ g. Strategy p h g) (more-windows p good m) q.0))

  pub begin-none : (m : ℕ) (c0 c : Rows) → C0 p ≡ bounds c0 → C p m ≡ bounds c → round p c0 c ≡ contradiction → StrategyFor p (suc (suc m)) → ⊥
  begin-none m c0 c e0 e none s = fails-first _ (round-none m c0 c e0 e none) (first-window (suc m) s)

  pub begin-own : C0 p ≡ contradiction → StrategyFor p 1 → ⊥
  begin-own none s =
      fails-first _
      (fails-map p good _ (λ h. Strategy p h (0 * p.jobs) × LeavesRoom p h) p.jobs
      (λ h n old q.
      subst (λ h. All (BetweenKept h) (own_bounds p)) (seen_all p h)
      (held-own p good (seen_from p 0 h) (held_of p h (strategy-kept p good (0 * p.jobs) h q.0) q.1 0)
      (subst (RunsInside p) (sym (seen_all p h)) old) (subst (λ h. p.jobs ≤ length h) (sym (seen_all p h)) (omega arith))))
      (C0-none p good none))
      (first-window 0 s)

  -- ---- one window alone

  module _ (m : ℕ) (c : Rows) (e : C p m ≡ bounds c) where
    alone-well_formed : WellFormed p (nodes (0 + p.jobs)) c
    alone-well_formed = subst (λ k. WellFormed p (nodes k) c) (sym (zero-add p.jobs)) (C-well_formed p good m c e)

    nothing : (t : Rows) → WellFormed p (nodes 0) t → Keeps (nodes 0) (at t) []
    nothing t well_formed y z a b =
        let y0 : y ≡ 0 = omega arith in
        let z0 : z ≡ 0 = omega arith in
        rw (y0, z0, well_formed.diagonal 0 (omega arith)) tt

    -- where one window alone does not fail, its jobs can be started so that C(m) is kept
    pub begin-game : (t : Rows) → eliminated p 0 p.jobs c ≡ bounds t → Forced p (Keeps (nodes p.jobs) (at c)) p.jobs []
    begin-game t left =
        subst (λ k. Forced p (Keeps (nodes k) (at c)) p.jobs []) (zero-add p.jobs)
        (elim-back p good 0 p.jobs c t (omega arith) alone-well_formed left [] refl nothing-runs_inside
        (nothing t (elim-well_formed p good 0 p.jobs c t (omega arith) alone-well_formed left)))

    -- times of the first window that keep C(m) keep the plan's bounds
    pub first-held : (c0 : Rows) → C0 p ≡ bounds c0 → (h : History) → length h ≡ p.jobs → RunsInside p h
        → Keeps (nodes p.jobs) (at c) h → Always p (Held p) h
    first-held c0 e0 h n old kept =
        held_one p h (omega arith) (subst (Held p) (sym (seen_all p h)) (C-held p good m c e c0 e0 h n old kept))

    -- after i jobs of the first window, with g to go
    module _ (i g : ℕ) (ig : i + g ≡ p.jobs) (h : History) (n : length h ≡ i) (old : RunsInside p h) where
      pub first-strategy : (c0 : Rows) → C0 p ≡ bounds c0 → Forced p (Keeps (nodes p.jobs) (at c)) g h → Strategy p h (g + m * p.jobs)
      first-strategy c0 e0 q =
          forced-join p (Kept p) g (m * p.jobs) h
          (forced-map p _ _ g h
          (λ h' f kept.
          let size = f.size in
          let old' = f.runs_inside old in
          let all = first-held c0 e0 h' (omega arith) old' kept in
          keeps-strategy p good m c e 0 h' (omega arith) old' (leaves_room-of p h' all) (always-kept p h' all)
          (subst (Keeps (nodes p.jobs) (at c)) (sym (seen_all p h')) kept))
          q)

      pub strategy-first : LeavesRoom p h → Strategy p h (g + m * p.jobs) → Forced p (Keeps (nodes p.jobs) (at c)) g h
      strategy-first room s =
          forced-map p _ _ g h
          (λ h' f q.
          let size = f.size in
          subst (Keeps (nodes p.jobs) (at c)) (seen_all p h')
          (strategy-keeps p good m c e 0 h' (omega arith) (f.runs_inside old) q.1 q.0))
          (forced-leaves_room p good (λ h. Strategy p h (m * p.jobs)) (λ h q. strategy-kept p good (m * p.jobs) h q) g h room
          (forced-split p (Kept p) g (m * p.jobs) h s))

    pub begin-alone : eliminated p 0 p.jobs c ≡ contradiction → StrategyFor p (suc m) → ⊥
    begin-alone none s =
        let f = elim-none p good 0 p.jobs c (omega arith) alone-well_formed none in
        f.1 [] refl (nothing-long_or_short f.0)
        (subst (λ k. Forced p (Keeps (nodes k) (at c)) p.jobs []) (sym (zero-add p.jobs))
        (strategy-first 0 p.jobs (omega arith) [] refl nothing-runs_inside nothing-leaves_room (subst (λ g. Strategy p [] g) (more-windows p good m) s)))

    pub begin-strategy : (c0 t : Rows) → C0 p ≡ bounds c0 → eliminated p 0 p.jobs c ≡ bounds t → StrategyFor p (suc m)
    begin-strategy c0 t e0 left =
        subst (λ g. Strategy p [] g) (sym (more-windows p good m))
        (first-strategy 0 p.jobs (omega arith) [] refl nothing-runs_inside c0 e0 (begin-game t left))
