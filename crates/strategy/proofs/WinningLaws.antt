-- The offer of a run that shows its history, from which the game can still be won: it is not empty, and t is on offer exactly if the game is won after a start
-- at t (`offer-some`, `offer-winning`, `winning-offer`).
use Rattle.std.specs.Prelude.{ℕ, zero, suc, ◌+◌, ◌<◌, ◌≡◌, List, [], ℤ, ◌≤ℤ◌, length, get_or}
use Rattle.std.proofs.Common.{sym, subst, ◌∙◌, arith}
use Rattle.std.proofs.Math.Path.{ap}
use Rattle.whole.specs.Rules.{wholes}
use Rattle.plan.specs.declared.Plan.{Plan}
use Rattle.plan.specs.Accepted.{Accepted}
use Rattle.bounds.specs.Events.{start_node, finish_node}
use Rattle.bounds.specs.Tables.{upto, Rows, at}
use Rattle.bounds.specs.Elimination.{then_set}
use Rattle.rounds.specs.Rounds.{joined}
use Rattle.calendars.specs.Calendars.{then_tables, before_starts, calendar_of, calendar}
use Rattle.runs.specs.declared.Run.{Run}
use Rattle.runs.specs.declared.Offer.{Offer}
use Rattle.runs.specs.Offers.{offer_of}
use Rattle.runs.specs.Steps.{OnOffer}
use Rattle.strategy.specs.Histories.{History}
use Rattle.strategy.proofs.CellLaws.{bounded-cell}
use Rattle.strategy.proofs.VerdictLaws.{IsSettled}
use Rattle.strategy.proofs.PlaceLaws.{WellFormed}
use Rattle.strategy.proofs.StageLaws.{Stages, before-well_formed, length-tables}
use Rattle.strategy.proofs.OfferLaws.{StartFits, offer-start_fits, start_fits-offer}
use Rattle.strategy.proofs.GameLaws.{
  Settling,
  Winnable,
  Winning,
  tables,
  some-winning,
  AllowedAt,
  winning-allowed,
  allowed-winning,
  later-well_formed,
  later-fits,
}
use Rattle.strategy.proofs.RunLaws.{ShowsHistory, later-start_fits, start_fits-later, first-start_fits, start_fits-first}

module _ (p : Plan) (good : Accepted p) (m : ℕ) (c : Rows) (s : IsSettled p good m c) (f : Settling p good m c s) where
  abbrev ts : List Rows
  ts = before_starts p p.jobs f.both

  all-tables : length ts ≡ p.jobs
  all-tables = length-tables p p.jobs f.both c f.left_is

  calendar-is : calendar p c ≡ calendar_of p ts
  unfolding calendar then_tables then_set
  calendar-is =
      ap (λ x. calendar_of p (then_tables (then_set x (λ c0. joined p c0 c)) (before_starts p p.jobs))) f.own_is
      ∙ ap (λ x. calendar_of p (then_tables x (before_starts p p.jobs))) f.both_is

  -- ---- the offer

  module _ (r : Run) (h : History) (j i g : ℕ) (w : Winnable p good m c s f h j i (suc g)) (sh : ShowsHistory p r h j i) where
    low : i < p.jobs
    low = let a = w.ig in omega arith

    abbrev st : Stages p c f.both p.jobs i
    st = tables p good m c s f i low

    before : WellFormed p (finish_node (p.jobs + i)) (get_or ts i [])
    before =
        subst (WellFormed p (finish_node (p.jobs + i))) (sym st.listed)
        (before-well_formed p good f.both (p.jobs + i) st.rest (later-fits p good m c s f h i g low)
        (later-well_formed p good m c s f h i g low) st.later)

    lo : (x : ℤ) × (at (get_or ts i []) (start_node (p.jobs + i)) 0 ≡ upto x)
    lo = bounded-cell _ _ (before.origin_bounded.below (start_node (p.jobs + i)) (omega arith) (omega arith))

    hi : (x : ℤ) × (at (get_or ts i []) 0 (start_node (p.jobs + i)) ≡ upto x)
    hi = bounded-cell _ _ (before.origin_bounded.above (start_node (p.jobs + i)) (omega arith) (omega arith))

  module _ (r : Run) (h : History) (i g : ℕ) where
    fits-allowed : (j : ℕ) (w : Winnable p good m c s f h j i (suc g)) (sh : ShowsHistory p r h j i) (t : ℤ)
        → StartFits p good.jobs-most ts all-tables i (low r h j i g w sh) r j t → AllowedAt p good m c s f j i (low r h j i g w sh) h t
    fits-allowed zero w sh t a =
        let l = low r h zero i g w sh in
        let st = tables p good m c s f i l in
        start_fits-first p good.jobs-most ts all-tables i l r h t sh st.later.before st.alone.before st.listed st.same a
    fits-allowed (suc j) w sh t a =
        let l = low r h (suc j) i g w sh in
        let st = tables p good m c s f i l in
        start_fits-later p good.jobs-most ts all-tables i l r h t j sh w.size st.later.before st.listed a

    allowed-fits : (j : ℕ) (w : Winnable p good m c s f h j i (suc g)) (sh : ShowsHistory p r h j i) (t : ℤ)
        → AllowedAt p good m c s f j i (low r h j i g w sh) h t → StartFits p good.jobs-most ts all-tables i (low r h j i g w sh) r j t
    allowed-fits zero w sh t a =
        let l = low r h zero i g w sh in
        let st = tables p good m c s f i l in
        first-start_fits p good.jobs-most ts all-tables i l r h t sh st.later.before st.alone.before st.listed st.same a
    allowed-fits (suc j) w sh t a =
        let l = low r h (suc j) i g w sh in
        let st = tables p good m c s f i l in
        later-start_fits p good.jobs-most ts all-tables i l r h t j sh w.size st.later.before st.listed a

    module _ (j : ℕ) (w : Winnable p good m c s f h j i (suc g)) (sh : ShowsHistory p r h j i) where
      abbrev pub offer : Offer
      offer = offer_of p (calendar p c) r (suc j) (suc i)

      offer-is : offer ≡ offer_of p (calendar_of p ts) r (suc j) (suc i)
      offer-is = ap (λ c. offer_of p c r (suc j) (suc i)) calendar-is

      pub offer-winning : (t : ℤ) → OnOffer offer t → Winning p good m c s f h j g t
      offer-winning t o =
          let l = low r h j i g w sh in
          allowed-winning p good m c s f h i g l j w t
          (fits-allowed j w sh t
          (offer-start_fits p good.jobs-most ts all-tables i l r j t (lo r h j i g w sh).0 (lo r h j i g w sh).1 (hi r h j i g w sh).0
          (hi r h j i g w sh).1
          (subst (λ o. OnOffer o t) offer-is o)))

      pub winning-offer : (t : ℤ) → Winning p good m c s f h j g t → OnOffer offer t
      winning-offer t q =
          let l = low r h j i g w sh in
          subst (λ o. OnOffer o t) (sym offer-is)
          (start_fits-offer p good.jobs-most ts all-tables i l r j t (lo r h j i g w sh).0 (lo r h j i g w sh).1 (hi r h j i g w sh).0
          (hi r h j i g w sh).1
          (allowed-fits j w sh t (winning-allowed p good m c s f h i g l j w t q)))

      pub offer-some : offer.from.0 ≤ℤ offer.to.0
      offer-some =
          let q = some-winning p good m c s f h j i g w in
          let o = winning-offer q.0 q.1 in
          let a = o.least in
          let b = o.most in
          omega wholes
