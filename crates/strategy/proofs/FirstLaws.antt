-- The set that a round starts with, among the origin and the next window's nodes, is C(m-1) moved by `window`: the bounds between windows name
-- this window too, and C(m-1) was judged already. So where round m gives no contradiction, one window alone, with C(m-1), gives none.
use Prim.Native.Nat.{ℕ, zero, suc, ◌+◌, ◌-◌, ◌≤◌, ◌<◌}
use Rattle.std.specs.Prelude.{◌≡◌, Bool, cond, ◌&&◌, List, [], ◌∷◌, eqb, ◌-ℤ◌}
use Rattle.std.proofs.Math.Path.{refl, ap, subst}
use Rattle.std.proofs.Common.{sym, ap₂, ◌∙◌, inl, inr, eqb-true}
use Rattle.std.proofs.Math.Bool.{true, false}
use native.Mathlib.Omega.{arith}
use Rattle.plan.specs.declared.Kind.{Kind}
use Rattle.plan.specs.declared.Kind.TheVariants as kind
use Rattle.plan.specs.declared.Bound.{Bound}
use Rattle.plan.specs.declared.Plan.{Plan}
use Rattle.plan.specs.EventNames.{is_next}
use Rattle.plan.specs.Accepted.{BoundAccepted, Accepted}
use Rattle.plan.specs.ListLaws.{All}
use Rattle.bounds.specs.declared.Judgement.{Judgement}
use Rattle.bounds.specs.declared.Judgement.TheVariants.{Contradiction, LeftOut, Kept}
use Rattle.bounds.specs.Events.{node_of, start_node, finish_node, nodes}
use Rattle.bounds.specs.Tables.{Cell, off, upto, lesser_cell, Rows, at, least_of, Between, judgement, kept_cell, bounds, judged_set}
use Rattle.bounds.specs.BuildLaws.{both_true}
use Rattle.bounds.specs.Elimination.{start_cell, without_finish, without_start, without_place, eliminated}
use Rattle.rounds.specs.Given.{place_of, event_at, between_bounds}
use Rattle.rounds.specs.Rounds.{C0, own_nodes, shift_of, on_next, joined}
use Rattle.rounds.specs.OnNextLaws.{on_next-onto}
use Rattle.rounds.specs.Next.{onto}
use Rattle.strategy.proofs.SetLaws.{judged_set-at}
use Rattle.strategy.proofs.PlaceLaws.{then_set-bounds}
use Rattle.strategy.proofs.GivenLaws.{listed-accepted, listed-one-this, across-all}
use Rattle.strategy.proofs.WindowLaws.{place-this}
use Rattle.strategy.proofs.JoinedLaws.{C0-well_formed, C0-past, next_node, next-later, joined_cell}
use Rattle.strategy.proofs.RoundLaws.{C, Round, round-parts}
use Rattle.strategy.proofs.AloneLaws.{MovedCells, shifted, next-below, judgement-next, kept-plus, elim-shifted}

-- ---- no bound between windows is one of the next window alone

-- a bound that says nothing of the pair
abbrev Elsewhere : ℕ → ℕ → Between → Type 0
Elsewhere y z b = node_of b.y ≡ y → node_of b.z ≡ z → ⊥

skipped : (y z : ℕ) (b : Between) (c : Cell) (t : Bool) → (eqb (node_of b.y) y && eqb (node_of b.z) z) ≡ t → Elsewhere y z b
    → cond t (lesser_cell (upto b.w) c) c ≡ c
skipped y z b c false e h = refl
skipped y z b c true e h =
    let r = both_true (eqb (node_of b.y) y) (eqb (node_of b.z) z) e in
    absurd (h (eqb-true (node_of b.y) y r.0) (eqb-true (node_of b.z) z r.1))

least_of-off : (y z : ℕ) (bs : List Between) → All (Elsewhere y z) bs → least_of bs y z ≡ off
unfolding least_of
least_of-off y z [] h = refl
least_of-off y z (b ∷ bs) h =
    skipped y z b (least_of bs y z) _ refl h.0 ∙ least_of-off y z bs h.1

module _ (p : Plan) (good : Accepted p) where
  next-far : (y k : ℕ) → k ≡ next_node p y → 0 < k → k ≤ own_nodes p → ⊥
  unfolding onto
  next-far zero k e lo hi = omega arith
  next-far (suc y) k e lo hi = let n = next-later p (suc y) (omega arith) in omega arith

  this-node : (k : Kind) (i : ℕ) → i < p.jobs → (0 < node_of (event_at k i)) × (node_of (event_at k i) ≤ own_nodes p)
  unfolding node_of
  this-node kind.Start i h = omega arith
  this-node kind.Finish i h = omega arith

  between-off : (y z : ℕ) → least_of (between_bounds p) (next_node p y) (next_node p z) ≡ off
  unfolding node_of
  between-off y z =
      least_of-off (next_node p y) (next_node p z) (between_bounds p)
      (across-all (Elsewhere (next_node p y) (next_node p z)) p
      (record {
        ordered = λ a b. let j = good.jobs-least in next-far z (finish_node (p.jobs - 1)) b (omega arith) (omega arith);
        given =
            λ d m n a b.
            let s = listed-accepted p good d m in
            given-at d (is_next d.a.letter) refl s (listed-one-this p good d m) a b;
      }))
    where
      given-at : (d : Bound) (t : Bool) → is_next d.a.letter ≡ t → BoundAccepted p.jobs d → (is_next d.a.letter ≡ true → is_next d.b.letter ≡ false)
          → node_of (event_at d.b.kind (place_of p d.b.letter d.b.job)) ≡ next_node p y
          → node_of (event_at d.a.kind (place_of p d.a.letter d.a.job)) ≡ next_node p z → ⊥
      given-at d true e s one a b =
          let r = this-node d.b.kind _ (place-this p d.b.letter d.b.job (one e) s.b-least s.b-most) in
          next-far y _ a r.0 r.1
      given-at d false e s one a b =
          let r = this-node d.a.kind _ (place-this p d.a.letter d.a.job e s.a-least s.a-most) in
          next-far z _ b r.0 r.1

  -- ---- sets that were judged already

  abbrev JudgedAlready : ℕ → Rows → Type 0
  JudgedAlready k t = (y z : ℕ) → y < k → z < k → kept_cell (judgement p y z (at t y z)) (at t y z) ≡ at t y z

  twice : (y z : ℕ) (c : Cell) (j : Judgement) → judgement p y z c ≡ j
      → kept_cell (judgement p y z (kept_cell j c)) (kept_cell j c) ≡ kept_cell j c
  unfolding judgement
  twice y z c Contradiction e = refl
  twice y z c LeftOut e = refl
  twice y z c Kept e = ap (λ j. kept_cell j c) e

  judged-again : (k : ℕ) (f : ℕ → ℕ → Cell) (t : Rows) → judged_set p k f ≡ bounds t → JudgedAlready k t
  judged-again k f t e y z a b =
      subst (λ c. kept_cell (judgement p y z c) c ≡ c) (sym (judged_set-at p k f t e y z a b)) (twice y z (f y z) _ refl)

  elim-judged : (low count : ℕ) (t t₂ : Rows) → JudgedAlready (nodes (low + count)) t → eliminated p low count t ≡ bounds t₂ → JudgedAlready (nodes low) t₂
  unfolding eliminated without_place
  elim-judged low zero t t₂ h e = λ y z a b. subst (λ t. kept_cell (judgement p y z (at t y z)) (at t y z) ≡ at t y z) (same t t₂ e)
      (h y z (omega arith) (omega arith))
    where
      same : (t v : Rows) → bounds t ≡ bounds v → t ≡ v
      same t v e = cc
  elim-judged low (suc count) t t₂ h e =
      let r = then_set-bounds (without_place p (low + count) t) (eliminated p low count) t₂ e in
      let q = then_set-bounds (without_finish p (low + count) t) (without_start p (low + count)) r.0 r.1 in
      elim-judged low count r.0 t₂ (judged-again (start_node (low + count)) (start_cell (low + count) q.0) r.0 q.2) r.2

  pub C-judged : (m : ℕ) (c : Rows) → C p m ≡ bounds c → JudgedAlready (nodes p.jobs) c
  unfolding C C0 joined
  C-judged zero c e = judged-again (nodes p.jobs) _ c e
  C-judged (suc m) c e =
      let r = round-parts p good m c e in
      elim-judged p.jobs p.jobs r.both c (judged-again (nodes (p.jobs + p.jobs)) _ r.both r.both_is) r.left_is

  -- ---- the set that a round starts with

  module _ (c0 c : Rows) (c0-is : C0 p ≡ bounds c0) (c-judged : JudgedAlready (nodes p.jobs) c) (t : Rows) (t-is : joined p c0 c ≡ bounds t) where
    own-off : (y z : ℕ) → at c0 (next_node p y) (next_node p z) ≡ off
    unfolding onto
    own-off zero zero = (C0-well_formed p good c0 c0-is).diagonal 0 (omega arith)
    own-off zero (suc z) = let n = next-later p (suc z) (omega arith) in C0-past p good c0 c0-is 0 (next_node p (suc z)) (inr (omega arith))
    own-off (suc y) z = let n = next-later p (suc y) (omega arith) in C0-past p good c0 c0-is (next_node p (suc y)) (next_node p z) (inl (omega arith))

    alone-cell : (x : Cell) → lesser_cell off (lesser_cell x off) ≡ x
    unfolding lesser_cell
    alone-cell off = refl
    alone-cell (upto w) = refl

    cell-next : (y z : ℕ) → joined_cell p c0 c (next_node p y) (next_node p z) ≡ shifted p y z (at c y z)
    cell-next y z =
        ap₂ (λ a b. lesser_cell a (lesser_cell (on_next p c (next_node p y) (next_node p z)) b)) (own-off y z) (between-off y z)
        ∙ alone-cell _
        ∙ on_next-onto p c y z

    pub joined-shifted : MovedCells p (nodes p.jobs) (at c) (at t)
    unfolding joined
    joined-shifted y z a b =
        let ny = next-below p (nodes p.jobs) y a in
        let nz = next-below p (nodes p.jobs) z b in
        judged_set-at p (nodes (p.jobs + p.jobs)) (joined_cell p c0 c) t t-is (next_node p y) (next_node p z) (omega arith) (omega arith)
        ∙ ap (λ x. kept_cell (judgement p (next_node p y) (next_node p z) x) x) (cell-next y z)
        ∙ ap (λ j. kept_cell j (shifted p y z (at c y z))) (judgement-next p y z (at c y z) a b)
        ∙ kept-plus (judgement p y z (at c y z)) (at c y z) (shift_of p z -ℤ shift_of p y)
        ∙ ap (shifted p y z) (c-judged y z a b)

  pub round-alone : (m : ℕ) (c : Rows) (r : Round p good m c) → (t : Rows) × (eliminated p 0 p.jobs r.before ≡ bounds t)
  round-alone m c r =
      elim-shifted p p.jobs r.before r.both (omega arith)
      (joined-shifted r.own r.before r.own_is (C-judged m r.before r.before-is) r.both r.both_is) c r.left_is
