-- The verdict. Settled: C(m-1), C(m) and every later set are one, so a strategy exists for every number of windows. No strategy: none for K windows,
-- one for every smaller number.
use Prim.Native.Nat.{ℕ, zero, suc, ◌+◌, ◌≤◌, ◌<◌, ◌-◌}
use Rattle.std.specs.Prelude.{◌≡◌, Bool, true, false, cond}
use Rattle.std.proofs.Math.Path.{refl, sym, ap, subst}
use Rattle.std.proofs.Common.{◌∙◌, ⊎_elim, zero-mul, add-suc, add-zero}
use mathlib.Core.List.{[]}
use native.Mathlib.Omega.{arith}
use Rattle.whole.specs.Clash.{clash}
use Rattle.plan.specs.declared.Plan.{Plan}
use Rattle.plan.specs.Accepted.{Accepted}
use Rattle.bounds.specs.Tables.{Rows, Set, contradiction, bounds}
use Rattle.bounds.specs.Elimination.{then_set, eliminated}
use Rattle.rounds.specs.declared.Verdict.TheVariants.{Settled, NoStrategy}
use Rattle.rounds.specs.Rounds.{
  C0,
  round,
  same_rows,
  is_contradictory,
  fails_alone,
  settled,
  no_strategy,
  decided,
  rounds_from,
  outcome_from,
  outcome,
  verdict_of,
  verdict,
  Outcome,
  unsettled,
}
use Rattle.rounds.specs.SameLaws.{same_rows-unique}
use Rattle.strategy.specs.Strategies.{Strategy, StrategyFor, StrategyForAll}
use Rattle.strategy.proofs.EliminationLaws.{below-or-last}
use Rattle.strategy.proofs.RoundLaws.{C, round-parts}
use Rattle.strategy.proofs.BeginLaws.{nothing-kept, begin-none, begin-own, begin-alone, begin-strategy}
use Rattle.strategy.proofs.FirstLaws.{round-alone}

module _ (p : Plan) (good : Accepted p) where
  pub C-next : (m : ℕ) (c0 c : Rows) → C0 p ≡ bounds c0 → C p m ≡ bounds c → C p (suc m) ≡ round p c0 c
  unfolding C then_set
  C-next m c0 c e0 e =
      ap (λ x. then_set x (λ c0. then_set (C p m) (round p c0))) e0 ∙ ap (λ x. then_set x (round p c0)) e

  pub C-earlier : (m k : ℕ) (c : Rows) → C p m ≡ bounds c → k ≤ m → (b : Rows) × (C p k ≡ bounds b)
  C-earlier zero k c e h = (c, ap (C p) (let z : k ≡ 0 = omega arith in z) ∙ e)
  C-earlier (suc m) k c e h =
      ⊎_elim (λ (a : k < suc m). let r = round-parts p good m c e in C-earlier m k r.before r.before-is (omega arith))
      (λ (a : k ≡ suc m). (c, ap (C p) a ∙ e))
      (below-or-last k (suc m) (omega arith))

  no-windows : StrategyFor p 0
  unfolding Rattle.strategy.specs.Strategies.Forced
  no-windows = subst (λ g. Strategy p [] g) (sym (zero-mul p.jobs)) (nothing-kept p good)

  -- where there is a C(m), there is a strategy for m windows and fewer
  strategies-before : (m : ℕ) (c : Rows) → C p m ≡ bounds c → (k : ℕ) → k ≤ m → StrategyFor p k
  strategies-before m c e zero h = no-windows
  strategies-before m c e (suc k) h =
      let b = C-earlier m (suc k) c e h in
      let r = round-parts p good k b.0 b.1 in
      let t = round-alone p good k b.0 r in
      begin-strategy p good k r.before r.before-is r.own t.0 r.own_is t.1

  -- ---- settled

  pub record IsSettled (m : ℕ) (c : Rows) : Type 0 where
    pub before : ℕ
    pub is : m ≡ suc before
    pub set : C p before ≡ bounds c
    pub next : C p (suc before) ≡ bounds c

  same-settled : (m m' : ℕ) (c c' : Rows) → settled m c ≡ settled m' c' → (m ≡ m') × (c ≡ c')
  same-settled m m' c c' e = (cc, cc)

  settled-when : (k m m' left : ℕ) (c0 t u c : Rows) → m ≡ suc k → C p k ≡ bounds t → C p (suc k) ≡ bounds u
      → (rounds_from p c0 (m + 1) left u ≡ settled m' c → IsSettled m' c)
      → (b : Bool) → same_rows t u ≡ b → cond b (settled m u) (rounds_from p c0 (m + 1) left u) ≡ settled m' c → IsSettled m' c
  settled-when k m m' left c0 t u c n e f later true s h =
      let r = same-settled m m' u c h in
      let tu = same_rows-unique t u s in
      record {
        before = k;
        is = sym r.0 ∙ n;
        set = e ∙ ap bounds (tu ∙ r.1);
        next = f ∙ ap bounds r.1;
      }
  settled-when k m m' left c0 t u c n e f later false s h = later h

  settled-step : (k m m' left : ℕ) (c0 t c : Rows) → C0 p ≡ bounds c0 → m ≡ suc k → C p k ≡ bounds t
      → ((u : Rows) → C p (suc k) ≡ bounds u → rounds_from p c0 (m + 1) left u ≡ settled m' c → IsSettled m' c)
      → (x : Set) → round p c0 t ≡ x → decided p m t x (rounds_from p c0 (m + 1) left) ≡ settled m' c → IsSettled m' c
  unfolding decided
  settled-step k m m' left c0 t c e0 n e later contradiction r h = clash (cc)
  settled-step k m m' left c0 t c e0 n e later (bounds u) r h =
      let f = C-next k c0 t e0 e ∙ r in
      settled-when k m m' left c0 t u c n e f (later u f) (same_rows t u) refl h

  settled-from : (left k m m' : ℕ) (c0 t c : Rows) → C0 p ≡ bounds c0 → m ≡ suc k → C p k ≡ bounds t
      → rounds_from p c0 m left t ≡ settled m' c → IsSettled m' c
  unfolding rounds_from
  settled-from zero k m m' c0 t c e0 n e h = clash (cc)
  settled-from (suc left) k m m' c0 t c e0 n e h =
      settled-step k m m' left c0 t c e0 n e
      (λ u f g. settled-from left (suc k) (m + 1) m' c0 u c e0 (omega arith) f g)
      (round p c0 t) refl h

  settled-own : (m : ℕ) (c : Rows) (x : Set) → C0 p ≡ x → outcome_from p x ≡ settled m c → IsSettled m c
  unfolding outcome_from C
  settled-own m c contradiction e h = clash (cc)
  settled-own m c (bounds t) e h = settled-from p.rounds 0 1 m t t c e refl e h

  pub settled_is : (m : ℕ) (c : Rows) → outcome p ≡ settled m c → IsSettled m c
  unfolding outcome
  settled_is m c h = settled-own m c (C0 p) refl h

  -- 'C(m) = C(m-1)' gives every later set
  module _ (m : ℕ) (c : Rows) (s : IsSettled m c) where
    own_of : (c0 : Rows) × (C0 p ≡ bounds c0)
    own_of = let r = round-parts p good s.before c s.next in (r.own, r.own_is)

    pub settled-after : (d : ℕ) → C p (s.before + d) ≡ bounds c
    settled-after zero = ap (C p) (add-zero s.before) ∙ s.set
    settled-after (suc d) =
        ap (C p) (add-suc s.before d)
        ∙ C-next (s.before + d) own_of.0 c own_of.1 (settled-after d)
        ∙ sym (C-next s.before own_of.0 c own_of.1 s.set)
        ∙ s.next

    pub settled-from-then : (k : ℕ) → m ≤ suc k → C p k ≡ bounds c
    settled-from-then k h =
        let b = s.is in
        ap (C p) (let e : k ≡ s.before + (k - s.before) = omega arith in e) ∙ settled-after (k - s.before)

    pub settled-strategy : StrategyForAll p
    settled-strategy k = strategies-before (s.before + k) c (settled-after k) k (omega arith)

  -- ---- no strategy

  pub record Hopeless (K : ℕ) : Type 0 where
    pub none : StrategyFor p K → ⊥
    pub fewer : (k : ℕ) → k < K → StrategyFor p k

  alone_of : (t : Rows) (b : Bool) → fails_alone p t ≡ b → (x : Set) → eliminated p 0 p.jobs t ≡ x → is_contradictory x ≡ b
  unfolding fails_alone
  alone_of t b h x e = sym (ap is_contradictory e) ∙ h

  fails-is : (t : Rows) (x : Set) → eliminated p 0 p.jobs t ≡ x → fails_alone p t ≡ true → eliminated p 0 p.jobs t ≡ contradiction
  fails-is t contradiction e h = e
  fails-is t (bounds v) e h = let q = alone_of t true h (bounds v) e in clash (cc)

  stands-is : (t : Rows) (x : Set) → eliminated p 0 p.jobs t ≡ x → fails_alone p t ≡ false → (v : Rows) × (eliminated p 0 p.jobs t ≡ bounds v)
  stands-is t (bounds v) e h = (v, e)
  stands-is t contradiction e h = let q = alone_of t false h contradiction e in clash (cc)

  module _ (k : ℕ) (c0 t : Rows) (e0 : C0 p ≡ bounds c0) (e : C p k ≡ bounds t) (r : round p c0 t ≡ contradiction) where
    fails-at : fails_alone p t ≡ true → Hopeless (suc k)
    fails-at h =
        record {
          none = begin-alone p good k t e (fails-is t (eliminated p 0 p.jobs t) refl h);
          fewer = λ i l. strategies-before k t e i (omega arith);
        }

    stands_at : fails_alone p t ≡ false → Hopeless (suc (suc k))
    stands_at h =
        let v = stands-is t (eliminated p 0 p.jobs t) refl h in
        record {
          none = begin-none p good k c0 t e0 e r;
          fewer =
              λ i l.
              ⊎_elim (λ (a : i < suc k). strategies-before k t e i (omega arith))
              (λ (a : i ≡ suc k). subst (StrategyFor p) (sym a) (begin-strategy p good k t e c0 v.0 e0 v.1))
              (below-or-last i (suc k) l);
        }

    contradicted : (m K : ℕ) → m ≡ suc k → (b : Bool) → fails_alone p t ≡ b → no_strategy (cond b m (m + 1)) ≡ no_strategy K → Hopeless K
    contradicted m K n true h q = subst Hopeless (sym n ∙ same m K q) (fails-at h)
      where
        same : (a b : ℕ) → no_strategy a ≡ no_strategy b → a ≡ b
        same a b e = cc
    contradicted m K n false h q =
        let e : suc (suc k) ≡ m + 1 = omega arith in
        subst Hopeless (e ∙ same (m + 1) K q) (stands_at h)
      where
        same : (a b : ℕ) → no_strategy a ≡ no_strategy b → a ≡ b
        same a b e = cc

  later-when : (K m left : ℕ) (c0 u : Rows) → (rounds_from p c0 (m + 1) left u ≡ no_strategy K → Hopeless K)
      → (b : Bool) → cond b (settled m u) (rounds_from p c0 (m + 1) left u) ≡ no_strategy K → Hopeless K
  later-when K m left c0 u later true h = clash (cc)
  later-when K m left c0 u later false h = later h

  none-step : (k m K left : ℕ) (c0 t : Rows) → C0 p ≡ bounds c0 → m ≡ suc k → C p k ≡ bounds t
      → ((u : Rows) → C p (suc k) ≡ bounds u → rounds_from p c0 (m + 1) left u ≡ no_strategy K → Hopeless K)
      → (x : Set) → round p c0 t ≡ x → decided p m t x (rounds_from p c0 (m + 1) left) ≡ no_strategy K → Hopeless K
  unfolding decided
  none-step k m K left c0 t e0 n e later contradiction r h = contradicted k c0 t e0 e r m K n (fails_alone p t) refl h
  none-step k m K left c0 t e0 n e later (bounds u) r h = later-when K m left c0 u (later u (C-next k c0 t e0 e ∙ r)) (same_rows t u) h

  none_from : (left k m K : ℕ) (c0 t : Rows) → C0 p ≡ bounds c0 → m ≡ suc k → C p k ≡ bounds t → rounds_from p c0 m left t ≡ no_strategy K → Hopeless K
  unfolding rounds_from
  none_from zero k m K c0 t e0 n e h = clash (cc)
  none_from (suc left) k m K c0 t e0 n e h =
      none-step k m K left c0 t e0 n e (λ u f g. none_from left (suc k) (m + 1) K c0 u e0 (omega arith) f g) (round p c0 t) refl h

  none-own : (K : ℕ) (x : Set) → C0 p ≡ x → outcome_from p x ≡ no_strategy K → Hopeless K
  unfolding outcome_from C
  none-own K contradiction e h =
      subst Hopeless (same 1 K h)
      (record { none = begin-own p good e; fewer = λ k l. subst (StrategyFor p) (let z : 0 ≡ k = omega arith in z) no-windows })
    where
      same : (a b : ℕ) → no_strategy a ≡ no_strategy b → a ≡ b
      same a b e = cc
  none-own K (bounds t) e h = none_from p.rounds 0 1 K t t e refl e h

  pub none_is : (K : ℕ) → outcome p ≡ no_strategy K → Hopeless K
  unfolding outcome
  none_is K h = none-own K (C0 p) refl h

  -- ---- the verdict and its outcome

  settled-of : (m : ℕ) (o : Outcome) → verdict_of p o ≡ Settled m → (c : Rows) × (o ≡ settled m c)
  settled-of m (settled k c) h = (c, let e : settled k c ≡ settled m c = cc in e)
  settled-of m (no_strategy K) h = clash (cc)
  settled-of m unsettled h = clash (cc)

  pub settled-outcome : (m : ℕ) → verdict p ≡ Settled m → (c : Rows) × (outcome p ≡ settled m c)
  settled-outcome m h = settled-of m (outcome p) h

  none_of : (K : ℕ) (o : Outcome) → verdict_of p o ≡ NoStrategy K → o ≡ no_strategy K
  none_of K (settled k c) h = clash (cc)
  none_of K (no_strategy k) h = cc
  none_of K unsettled h = clash (cc)

  pub none-outcome : (K : ℕ) → verdict p ≡ NoStrategy K → outcome p ≡ no_strategy K
  none-outcome K h = none_of K (outcome p) h
