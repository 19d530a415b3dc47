-- The round theorem: after whole windows, a strategy for m more windows exists exactly if the history keeps the plan's bounds and its last window
-- keeps C(m). A contradiction in round m + 1 means that no strategy goes m + 1 windows past the first. From the beginning, a strategy for m + 1
-- windows exists exactly if one window alone, with C(m), gives no contradiction when it is eliminated.
use Prim.Native.Nat.{ℕ, zero, suc, ◌+◌, ◌*◌, ◌≤◌, ◌<◌}
use Rattle.std.specs.Prelude.{◌≡◌, refl, ◌++◌, length}
use Rattle.std.proofs.Common.{sym, ap, ◌∙◌, zero-mul, arith}
use Rattle.std.proofs.Math.Path.{subst}
use Rattle.std.proofs.Math.Bool.{true}
use Rattle.std.proofs.Math.ListN.{get_or-append}
use Rattle.plan.specs.declared.Plan.{Plan}
use Rattle.plan.specs.Accepted.{Accepted}
use Rattle.bounds.specs.Events.{event_of, nodes}
use Rattle.bounds.specs.Tables.{Cell, Rows, at, Set, bounds}
use Rattle.bounds.specs.Elimination.{then_set, eliminated}
use Rattle.bounds.specs.BuildLaws.{event_of-start, event_of-finish, by_node}
use Rattle.rounds.specs.Rounds.{C0, joined, round}
use Rattle.strategy.specs.Histories.{History, no_ran, seen_from}
use Rattle.strategy.specs.Strategies.{Kept, Forced, Strategy}
use Rattle.strategy.proofs.Keeping.{when, Keeps, RunsInside}
use Rattle.strategy.proofs.HistoryLaws.{Follows, forced-map, forced-split, forced-join, forced-play}
use Rattle.strategy.proofs.PlaceLaws.{WellFormed, then_set-bounds, elim-well_formed, elim-keeps, elim-back}
use Rattle.strategy.proofs.WindowLaws.{Held, held-own, held_across, own_held}
use Rattle.strategy.proofs.SeenLaws.{length_seen, runs_inside-seen, forced-seen, seen-forced, seen_next}
use Rattle.strategy.proofs.KeptLaws.{Always, kept-before, held_next, LeavesRoom, held_of, leaves_room-of, always-kept, forced-leaves_room}
use Rattle.strategy.proofs.JoinedLaws.{C0-well_formed, C0-keeps, C0-back, Both, joined-well_formed, joined_keeps, joined_back}

-- 'C(0) is one window's own bounds. Round m (m from 1): put C(m-1) on the next window, C(0) on this one, ..'
unfoldable pub C : Plan → ℕ → Set
C p zero = C0 p
C p (suc m) = then_set (C0 p) (λ c0. then_set (C p m) (round p c0))

-- ---- the beginning of a history keeps what its longer one keeps

when-before : (u m : History) (y : ℕ) → y < nodes (length u) → when (u ++ m) (event_of y) ≡ when u (event_of y)
unfolding event_of
when-before u m =
    by_node (λ y. y < nodes (length u) → when (u ++ m) (event_of y) ≡ when u (event_of y)) (λ h. refl)
    (λ k h. let l : k < length u = omega arith in rw (event_of-start k) (ap (λ r. r.start) (get_or-append u m no_ran k l)))
    (λ k h. let l : k < length u = omega arith in rw (event_of-finish k) (ap (λ r. r.finish) (get_or-append u m no_ran k l)))

keeps-before : (k : ℕ) (f : ℕ → ℕ → Cell) (u m : History) → k ≤ nodes (length u) → Keeps k f (u ++ m) → Keeps k f u
keeps-before k f u m n kept y z a b =
    rw (when-before u m y (omega arith), when-before u m z (omega arith)) at (kept y z a b)

module _ (p : Plan) (good : Accepted p) where
  -- a strategy from here on means that so far the bounds are kept
  pub strategy-kept : (g : ℕ) (h : History) → Strategy p h g → Kept p h
  strategy-kept g h s =
      let r = forced-play p good (Kept p) true g h s in
      kept-before p h r.follows.more (subst (Kept p) r.follows.whole r.won)

  -- ---- the parts of a round

  pub record Round (m : ℕ) (c : Rows) : Type 0 where
    pub own : Rows
    pub own_is : C0 p ≡ bounds own
    pub before : Rows
    pub before-is : C p m ≡ bounds before
    pub both : Rows
    pub both_is : joined p own before ≡ bounds both
    pub left_is : eliminated p p.jobs p.jobs both ≡ bounds c

  pub round-parts : (m : ℕ) (c : Rows) → C p (suc m) ≡ bounds c → Round m c
  unfolding C round
  round-parts m c e =
      let r = then_set-bounds (C0 p) _ c e in
      let q = then_set-bounds (C p m) (round p r.0) c r.2 in
      let s = then_set-bounds (joined p r.0 q.0) (eliminated p p.jobs p.jobs) c q.2 in
      record { own = r.0; own_is = r.1; before = q.0; before-is = q.1; both = s.0; both_is = s.1; left_is = s.2 }

  pub C-well_formed : (m : ℕ) (c : Rows) → C p m ≡ bounds c → WellFormed p (nodes p.jobs) c
  unfolding C
  C-well_formed zero c e = C0-well_formed p good c e
  C-well_formed (suc m) c e =
      let r = round-parts m c e in
      elim-well_formed p good p.jobs p.jobs r.both c (omega arith)
      (joined-well_formed p good r.own r.before r.own_is (C-well_formed m r.before r.before-is).origin_bounded r.both r.both_is) r.left_is

  round-well_formed : (m : ℕ) (c : Rows) (r : Round m c) → WellFormed p (nodes (p.jobs + p.jobs)) r.both
  round-well_formed m c r =
      joined-well_formed p good r.own r.before r.own_is (C-well_formed m r.before r.before-is).origin_bounded r.both r.both_is

  same_set : (a b : Rows) (x : Set) → x ≡ bounds a → x ≡ bounds b → a ≡ b
  same_set a b x e f = cc

  -- what keeps C(m) keeps C(0)
  pub C-own : (m : ℕ) (c : Rows) → C p m ≡ bounds c → (c0 : Rows) → C0 p ≡ bounds c0 → (u : History) → length u ≡ p.jobs → RunsInside p u
      → Keeps (nodes p.jobs) (at c) u → Keeps (nodes p.jobs) (at c0) u
  unfolding C
  C-own zero c e c0 e0 u n old kept = subst (λ c. Keeps (nodes p.jobs) (at c) u) (same_set c c0 (C0 p) e e0) kept
  C-own (suc m) c e c0 e0 u n old kept =
      let r = round-parts m c e in
      let g = elim-back p good p.jobs p.jobs r.both c (omega arith) (round-well_formed m c r) r.left_is u n old kept in
      let q = forced-play p good _ true p.jobs u g in
      let size = q.follows.size in
      let b = joined_back p good r.own r.before r.own_is (C-well_formed m r.before r.before-is).origin_bounded r.both r.both_is
      q.history (omega arith) (q.follows.runs_inside old) q.won in
      subst (λ c. Keeps (nodes p.jobs) (at c) u) (same_set r.own c0 (C0 p) r.own_is e0)
      (keeps-before (nodes p.jobs) (at r.own) u q.follows.more (omega arith)
      (subst (λ h. Keeps (nodes p.jobs) (at r.own) h) q.follows.whole b.this))

  -- times of one window that keep C(m) keep the plan's bounds on it
  pub C-held : (m : ℕ) (c : Rows) → C p m ≡ bounds c → (c0 : Rows) → C0 p ≡ bounds c0 → (u : History) → length u ≡ p.jobs → RunsInside p u
      → Keeps (nodes p.jobs) (at c) u → Held p u
  C-held m c e c0 e0 u n old kept =
      own_held p good u (C0-back p good c0 e0 u (omega arith) old (C-own m c e c0 e0 u n old kept)) (λ l. absurd (omega arith))

  -- ---- from one round to the next

  -- what the round theorem says of m rounds, one way and the other
  abbrev pub Answers : ℕ → Rows → Type 0
  Answers m c =
      (j : ℕ) (h : History) → length h ≡ suc j * p.jobs → RunsInside p h → LeavesRoom p h → Strategy p h (m * p.jobs)
      → Keeps (nodes p.jobs) (at c) (seen_from p j h)

  abbrev pub Answered : ℕ → Rows → Type 0
  Answered m c =
      (j : ℕ) (h : History) → length h ≡ suc j * p.jobs → RunsInside p h → LeavesRoom p h → Kept p h
      → Keeps (nodes p.jobs) (at c) (seen_from p j h) → Strategy p h (m * p.jobs)

  pub more-windows : (m : ℕ) → suc m * p.jobs ≡ p.jobs + m * p.jobs
  more-windows m = omega arith

  -- After j + 1 windows and i jobs of the next one, with g jobs of it to go: a strategy to its end and m windows more is a game of these two windows.
  module _ (m : ℕ) (c0 c : Rows) (c0-is : C0 p ≡ bounds c0) (c-is : C p m ≡ bounds c) (j i g : ℕ) (ig : i + g ≡ p.jobs)
      (h : History) (n : length h ≡ suc j * p.jobs + i) (old : RunsInside p h) (room : LeavesRoom p h) where
    pub strategy-both : Answers m c → Strategy p h (g + m * p.jobs) → Forced p (Both p c0 c) g (seen_from p j h)
    strategy-both answers s =
        forced-seen p j (Both p c0 c) g h (omega arith)
        (forced-map p _ _ g h
        (λ h' f q.
        let size = f.size in
        let two : length h' ≡ suc (suc j) * p.jobs = omega arith in
        let old' = f.runs_inside old in
        let held = held_of p h' (strategy-kept (m * p.jobs) h' q.0) q.1 in
        let len = length_seen p j h' in
        record {
          this = C0-keeps p good c0 c0-is (seen_from p j h') (held-own p good (seen_from p j h') (held j) (runs_inside-seen p j h' old') (omega arith));
          next = rw (seen_next p j h') (answers (suc j) h' two old' q.1 q.0);
          across = held_across p good (seen_from p j h') (held j) (omega arith);
        })
        (forced-leaves_room p good (λ h. Strategy p h (m * p.jobs)) (λ h q. strategy-kept (m * p.jobs) h q) g h room
        (forced-split p (Kept p) g (m * p.jobs) h s)))

    pub held_both : Kept p h → (h' : History) → Follows p h g h' → Both p c0 c (seen_from p j h') → Always p (Held p) h'
    held_both k h' f b =
        let size = f.size in
        let two : length h' ≡ suc (suc j) * p.jobs = omega arith in
        let old' = f.runs_inside old in
        let len₁ = length_seen p j h' in
        let len₂ = length_seen p (suc j) h' in
        let this-held : Held p (seen_from p j h') =
        own_held p good (seen_from p j h')
        (C0-back p good c0 c0-is (seen_from p j h') (omega arith) (runs_inside-seen p j h' old') b.this) (λ l. b.across) in
        let next-held : Held p (seen_from p (suc j) h') =
        C-held m c c-is c0 c0-is (seen_from p (suc j) h') (omega arith) (runs_inside-seen p (suc j) h' old') (rw (seen_next p j h') at b.next) in
        subst (λ h. Always p (Held p) h) (sym f.whole)
        (held_next p good h f.more j (omega arith) (ap length (sym f.whole) ∙ two) (held_of p h k room)
        (subst (λ h. Held p (seen_from p j h)) f.whole this-held)
        (subst (λ h. Held p (seen_from p (suc j) h)) f.whole next-held))

    pub both-strategy : Answered m c → Kept p h → Forced p (Both p c0 c) g (seen_from p j h) → Strategy p h (g + m * p.jobs)
    both-strategy answered k q =
        forced-join p (Kept p) g (m * p.jobs) h
        (forced-map p _ _ g h
        (λ h' f b.
        let size = f.size in
        let held = held_both k h' f b in
        answered (suc j) h' (omega arith) (f.runs_inside old) (leaves_room-of p h' held) (always-kept p h' held) (rw (seen_next p j h') at b.next))
        (seen-forced p j (Both p c0 c) g h (omega arith) q))

  -- the game of two windows is the game of the table that a round starts with
  module _ (m : ℕ) (c : Rows) (r : Round m c) (u : History) (g : ℕ) (n : length u + g ≡ p.jobs + p.jobs) where
    pub both-keeps : Forced p (Both p r.own r.before) g u → Forced p (Keeps (nodes (p.jobs + p.jobs)) (at r.both)) g u
    both-keeps q =
        forced-map p _ _ g u
        (λ v f b.
        joined_keeps p good r.own r.before r.own_is (C-well_formed m r.before r.before-is).origin_bounded r.both r.both_is v
        (f.size ∙ n) b)
        q

    pub keeps-both : RunsInside p u → Forced p (Keeps (nodes (p.jobs + p.jobs)) (at r.both)) g u → Forced p (Both p r.own r.before) g u
    keeps-both old q =
        forced-map p _ _ g u
        (λ v f b.
        joined_back p good r.own r.before r.own_is (C-well_formed m r.before r.before-is).origin_bounded r.both r.both_is v (f.size ∙ n)
        (f.runs_inside old) b)
        q

  pub strategy-keeps : (m : ℕ) (c : Rows) → C p m ≡ bounds c → Answers m c
  unfolding C
  strategy-keeps zero c e = λ j h n old room s.
      let len = length_seen p j h in
      let k : Kept p h = strategy-kept (0 * p.jobs) h s in
      C0-keeps p good c e (seen_from p j h)
      (held-own p good (seen_from p j h) (held_of p h k room j) (runs_inside-seen p j h old) (omega arith))
  strategy-keeps (suc m) c e = λ j h n old room s.
      let r = round-parts m c e in
      let len = length_seen p j h in
      elim-keeps p good p.jobs p.jobs r.both c (omega arith) (round-well_formed m c r) r.left_is (seen_from p j h) (omega arith)
      (both-keeps m c r (seen_from p j h) p.jobs (omega arith)
      (strategy-both m r.own r.before r.own_is r.before-is j 0 p.jobs (omega arith) h (omega arith) old room
      (strategy-keeps m r.before r.before-is) (subst (λ g. Strategy p h g) (more-windows m) s)))

  pub keeps-strategy : (m : ℕ) (c : Rows) → C p m ≡ bounds c → Answered m c
  unfolding C Forced
  keeps-strategy zero c e = λ j h n old room k kept. subst (λ g. Strategy p h g) (sym (zero-mul p.jobs)) k
  keeps-strategy (suc m) c e = λ j h n old room k kept.
      let r = round-parts m c e in
      let len = length_seen p j h in
      subst (λ g. Strategy p h g) (sym (more-windows m))
      (both-strategy m r.own r.before r.own_is r.before-is j 0 p.jobs (omega arith) h (omega arith) old room
      (keeps-strategy m r.before r.before-is) k
      (keeps-both m c r (seen_from p j h) p.jobs (omega arith) (runs_inside-seen p j h old)
      (elim-back p good p.jobs p.jobs r.both c (omega arith) (round-well_formed m c r) r.left_is (seen_from p j h) (omega arith)
      (runs_inside-seen p j h old) kept)))
