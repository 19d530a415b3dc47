-- Events eliminated from an array, one after the other: where no contradiction is found, the array holds the table that remains, and where one is, that is
-- the whole answer.
use Rattle.std.specs.Prelude.{ℕ, suc, ◌+◌, ◌-◌, ◌<◌, ◌≡◌, Bool, true, false, List, ℤ, length}
use Rattle.std.proofs.Common.{sym, ap, subst, ◌∙◌, arith}
use Rattle.plan.specs.declared.Plan.{Plan}
use Rattle.bounds.specs.Events.{start_node, finish_node, nodes}
use Rattle.bounds.specs.Tables.{contradiction, bounds}
use Rattle.bounds.specs.Elimination.{without_start, without_finish, without_place, eliminated}
use Rattle.bounds.specs.Flat.{rows_of, set_in}
use Rattle.bounds.specs.Held.{JudgedTable, TableHeldFor}
use Rattle.bounds.specs.JudgedTableLaws.{without_finish-judged-table}
use Rattle.bounds.specs.PlacesLaws.{
  set_in-found,
  set_in-left,
  finish-next,
  place-next,
  without_place-none,
  without_place-some,
  without_place-judged-table,
  eliminated-none,
  eliminated-some,
}

-- ---- one place

module _ (p : Plan) (early late : List ℤ) (k : ℕ) (ws : List ℤ) where
  pub finish-table-held : TableHeldFor p early late (nodes (k + 1)) ws → TableHeldFor p early late (suc (finish_node k)) ws
  finish-table-held g = subst (λ n. TableHeldFor p early late n ws) (sym (place-next k)) g

  -- what its finish leaves
  module _ (found : Bool) (us : List ℤ) (e : set_in (finish_node k) found us ≡ without_finish p k (rows_of (suc (finish_node k)) ws)) where
    finish-is : set_in (finish_node k) found us ≡ without_finish p k (rows_of (nodes (k + 1)) ws)
    finish-is = e ∙ ap (λ n. without_finish p k (rows_of n ws)) (place-next k)

    pub place_found : found ≡ true → without_place p k (rows_of (nodes (k + 1)) ws) ≡ contradiction
    place_found f = without_place-none p k (rows_of (nodes (k + 1)) ws) (sym finish-is ∙ set_in-found (finish_node k) found us f)

    pub place-left : found ≡ false → without_place p k (rows_of (nodes (k + 1)) ws) ≡ without_start p k (rows_of (suc (start_node k)) us)
    place-left f =
        without_place-some p k (rows_of (nodes (k + 1)) ws) (rows_of (suc (start_node k)) us)
        (sym finish-is ∙ set_in-left (finish_node k) found us f ∙ ap (λ n. bounds (rows_of n us)) (finish-next k))

    pub start-table-held : TableHeldFor p early late (suc (finish_node k)) ws → found ≡ false → length us ≡ length ws
        → TableHeldFor p early late (suc (start_node k)) us
    start-table-held g f size =
        let room = g.room in
        record {
          times-held = g.times-held;
          room = omega arith;
          size = size ∙ g.size;
          fit = subst (λ n. JudgedTable p n (rows_of n us)) (finish-next k)
              (without_finish-judged-table p k (rows_of (suc (finish_node k)) ws) (rows_of (finish_node k) us) g.fit
              (sym e ∙ set_in-left (finish_node k) found us f));
        }

-- ---- the last of several places

last-place : (low left : ℕ) → 0 < left → nodes (low + left) ≡ nodes (low + (left - 1) + 1)
last-place low left h = omega arith

module _ (p : Plan) (early late : List ℤ) (low left : ℕ) (ws : List ℤ) (some : 0 < left) where
  pub last-table-held : TableHeldFor p early late (nodes (low + left)) ws → TableHeldFor p early late (nodes (low + (left - 1) + 1)) ws
  last-table-held g = subst (λ n. TableHeldFor p early late n ws) (last-place low left some) g

  module _ (found : Bool) (us : List ℤ)
      (e : set_in (nodes (low + (left - 1))) found us ≡ without_place p (low + (left - 1)) (rows_of (nodes (low + (left - 1) + 1)) ws)) where
    place_is : set_in (nodes (low + (left - 1))) found us ≡ without_place p (low + (left - 1)) (rows_of (nodes (low + left)) ws)
    place_is = e ∙ ap (λ n. without_place p (low + (left - 1)) (rows_of n ws)) (sym (last-place low left some))

    pub places-found : found ≡ true → eliminated p low left (rows_of (nodes (low + left)) ws) ≡ contradiction
    places-found f =
        eliminated-none p low left (rows_of (nodes (low + left)) ws) some (sym place_is ∙ set_in-found (nodes (low + (left - 1))) found us f)

    pub places-left : found ≡ false
        → eliminated p low left (rows_of (nodes (low + left)) ws) ≡ eliminated p low (left - 1) (rows_of (nodes (low + (left - 1))) us)
    places-left f =
        eliminated-some p low left (rows_of (nodes (low + left)) ws) some (rows_of (nodes (low + (left - 1))) us)
        (sym place_is ∙ set_in-left (nodes (low + (left - 1))) found us f)

    pub places-table-held : TableHeldFor p early late (nodes (low + left)) ws → found ≡ false → length us ≡ length ws
        → TableHeldFor p early late (nodes (low + (left - 1))) us
    places-table-held g f size =
        let room = g.room in
        record {
          times-held = g.times-held;
          room = omega arith;
          size = size ∙ g.size;
          fit = without_place-judged-table p (low + (left - 1)) (rows_of (nodes (low + (left - 1) + 1)) ws) (rows_of (nodes (low + (left - 1))) us)
              (last-table-held g).fit
              (sym e ∙ set_in-left (nodes (low + (left - 1))) found us f);
        }
