-- The set that a round starts with, as the code makes it. An array with the own bounds holds C(0) and nothing else; with the bounds between windows put
-- into it, it leads, with every carried set still to be put on the next window, to the joined set, or every joined set is a contradiction.
use Rattle.std.specs.Prelude.{ℕ, ◌+◌, ◌≤◌, ◌<◌, ◌≡◌, refl, ◌⊎◌, Bool, true, false, cond, List, [], ◌∷◌, ltb, ℤ, pos, get_or}
use Rattle.std.proofs.Common.{sym, ap, subst, ◌∙◌, inl, inr, ⊎_elim, arith, ltb-true, ltb-false}
use Rattle.std.proofs.Math.Path.{ap₂}
use Rattle.plan.specs.declared.Plan.{Plan}
use Rattle.bounds.specs.Events.{node_of, nodes, most_nodes}
use Rattle.bounds.specs.Tables.{off, lesser_cell, Rows, at, Between, least_of, contradiction, bounds, judged_set}
use Rattle.bounds.specs.BuildLaws.{at-build, at-build-past}
use Rattle.bounds.specs.TablesLaws.{judged_set-ext}
use Rattle.bounds.specs.Flat.{place, cell_of, cell_at, rows_of, flat, put_at, put_bounds, no_bounds}
use Rattle.bounds.specs.FlatLaws.{put_at-same, then_flat-keeps, FlatOutcome}
use Rattle.bounds.specs.StartLaws.{place-one}
use Rattle.bounds.specs.LeadsToLaws.{least-comm, LeadsTo}
use Rattle.bounds.specs.BoundsLaws.{AllWithinNodes, put_bounds-leads-to, put_bounds-outcome, no_bounds-off}
use Rattle.bounds.specs.Held.{TimesHeld}
use Rattle.bounds.specs.TimesHeldLaws.{nodes-room}
use Rattle.rounds.specs.Given.{own_bounds, between_bounds}
use Rattle.rounds.specs.Rounds.{C0, on_next, joined}
use Rattle.rounds.specs.NamedLaws.{own-named, own-named-both, between-named, own_is}

-- ---- what is put elsewhere

-- bounds between the first k nodes write no cell of another node
put_bounds-same : (early late : List ℤ) (k : ℕ) → k ≤ most_nodes → (bs : List Between) → AllWithinNodes k bs → (y z : ℕ) → z < most_nodes → (k ≤ y) ⊎ (k ≤ z)
    → (ws : List ℤ)
    → get_or (put_bounds early late bs ws).weights (place y z) (pos 0) ≡ get_or ws (place y z) (pos 0)
unfolding put_bounds
put_bounds-same early late k small [] a y z l past ws = refl
put_bounds-same early late k small (b ∷ bs) a y z l past ws =
    let from = a.0.from in
    let to = a.0.to in
    then_flat-keeps (λ us. get_or us (place y z) (pos 0) ≡ get_or ws (place y z) (pos 0)) (put_at early late (node_of b.y) (node_of b.z) b.w (pos 0) ws)
    (put_bounds early late bs)
    (put_at-same early late (node_of b.y) (node_of b.z) b.w (pos 0) ws (place y z) (pos 0)
    (λ e.
    let one = place-one y z (node_of b.y) (node_of b.z) l (omega arith) e in
    let row = one.0 in
    let column = one.1 in
    ⊎_elim (λ h. absurd (omega arith)) (λ h. absurd (omega arith)) past))
    (λ us e. put_bounds-same early late k small bs a.1 y z l past us ∙ e)

-- ---- the own bounds

-- a contradiction among them is one in C(0)
pub own-none : (p : Plan) (early late : List ℤ) → TimesHeld p early late → (found : Bool) (us : List ℤ)
    → flat found us ≡ put_bounds early late (own_bounds p) no_bounds → found ≡ true → C0 p ≡ contradiction
own-none p early late times-held found us put f =
    sym (own_is p early late times-held)
    ∙ ap (λ r. cond r.found contradiction (bounds (rows_of (nodes p.jobs) r.weights))) (sym put)
    ∙ ap (λ b. cond b contradiction (bounds (rows_of (nodes p.jobs) us))) f

module _ (p : Plan) (early late : List ℤ) (times-held : TimesHeld p early late) (own : List ℤ)
    (put : flat false own ≡ put_bounds early late (own_bounds p) no_bounds) where
  own-leads-to : LeadsTo p (nodes (p.jobs + p.jobs)) (λ y z. off) (judged_set p (nodes (p.jobs + p.jobs)) (least_of (own_bounds p))) own
  own-leads-to =
      let o = put_bounds-outcome p (nodes (p.jobs + p.jobs)) early late times-held.times (nodes-room times-held.accepted) (own_bounds p)
      (own-named-both p times-held.accepted) in
      subst (LeadsTo p (nodes (p.jobs + p.jobs)) (λ y z. off) (judged_set p (nodes (p.jobs + p.jobs)) (least_of (own_bounds p))))
      (ap (λ r. r.weights) (sym put))
      (o.keeps (ap (λ r. r.found) (sym put)))

  -- C(0) is what the array holds
  pub own-rows : C0 p ≡ bounds (rows_of (nodes p.jobs) own)
  own-rows =
      sym (own_is p early late times-held) ∙ ap (λ r. cond r.found contradiction (bounds (rows_of (nodes p.jobs) r.weights))) (sym put)

  own-past : (y z : ℕ) → y < most_nodes → z < most_nodes → (nodes p.jobs ≤ y) ⊎ (nodes p.jobs ≤ z) → cell_at own y z ≡ off
  own-past y z h l past =
      let room = nodes-room times-held.accepted in
      ap (λ r. cell_at r.weights y z) put
      ∙ ap cell_of (put_bounds-same early late (nodes p.jobs) (omega arith) (own_bounds p) (own-named p times-held.accepted) y z l past no_bounds)
      ∙ no_bounds-off y z h l

  own-cell : (y z : ℕ) → y < most_nodes → z < most_nodes → at (rows_of (nodes p.jobs) own) y z ≡ cell_at own y z
  own-cell y z h l = by (ltb y (nodes p.jobs)) refl (ltb z (nodes p.jobs)) refl
    where
      past : (nodes p.jobs ≤ y) ⊎ (nodes p.jobs ≤ z) → at (rows_of (nodes p.jobs) own) y z ≡ cell_at own y z
      past q = at-build-past (nodes p.jobs) (cell_at own) y z q ∙ sym (own-past y z h l q)

      by : (b : Bool) → ltb y (nodes p.jobs) ≡ b → (c : Bool) → ltb z (nodes p.jobs) ≡ c → at (rows_of (nodes p.jobs) own) y z ≡ cell_at own y z
      by true e true f = at-build (nodes p.jobs) (cell_at own) y z (ltb-true y _ e) (ltb-true z _ f)
      by true e false f = past (inr (ltb-false z _ f))
      by false e c f = past (inl (ltb-false y _ e))

  -- ---- the bounds between windows

  pub between-outcome : (t : Rows)
      → let set = joined p (rows_of (nodes p.jobs) own) t in
      FlatOutcome (LeadsTo p (nodes (p.jobs + p.jobs)) (on_next p t) set) (set ≡ contradiction) (put_bounds early late (between_bounds p) own)
  unfolding joined
  between-outcome t =
      let room = nodes-room times-held.accepted in
      let k = nodes (p.jobs + p.jobs) in
      let set = joined p (rows_of (nodes p.jobs) own) t in
      put_bounds-leads-to p k early late times-held.times room set (on_next p t) (between_bounds p) (between-named p times-held.accepted) own
      (record {
        len = own-leads-to.len;
        kept = own-leads-to.kept;
        leads =
            judged_set-ext p k _ _
            (λ y z h l. ap₂ lesser_cell (own-cell y z (omega arith) (omega arith)) (least-comm (on_next p t y z) (least_of (between_bounds p) y z)));
      })
