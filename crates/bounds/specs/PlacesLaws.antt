-- The elimination of a place and of several in a row, one answer of the code after the other: a contradiction ends it, and a table that remains is
-- fit for what follows.
use Prim.Native.Nat.{ℕ, suc, ◌+◌, ◌-◌, ◌<◌}
use Rattle.std.specs.Prelude.{◌≡◌, refl, Bool, true, false, List, ℤ}
use Rattle.std.proofs.Common.{sym, subst, ◌∙◌}
use Rattle.std.proofs.Math.Path.{ap}
use native.Mathlib.Omega.{arith}
use Rattle.whole.specs.Clash.{clash}
use Rattle.plan.specs.declared.Plan.{Plan}
use Rattle.bounds.specs.Events.{start_node, finish_node, nodes}
use Rattle.bounds.specs.Tables.{Rows, Set, contradiction, bounds}
use Rattle.bounds.specs.Elimination.{without_start, without_finish, then_set, without_place, eliminated}
use Rattle.bounds.specs.Flat.{rows_of, set_in}
use Rattle.bounds.specs.Held.{JudgedTable}
use Rattle.bounds.specs.JudgedTableLaws.{without_start-judged-table, without_finish-judged-table}

-- ---- answers

pub set_in-found : (k : ℕ) (found : Bool) (ws : List ℤ) → found ≡ true → set_in k found ws ≡ contradiction
set_in-found k found ws e = ap (λ b. set_in k b ws) e

pub set_in-left : (k : ℕ) (found : Bool) (ws : List ℤ) → found ≡ false → set_in k found ws ≡ bounds (rows_of k ws)
set_in-left k found ws e = ap (λ b. set_in k b ws) e

-- where a set and what follows it leave a table, the set left one too
pub then_set-some : (s : Set) (f : Rows → Set) (u : Rows) {P : Type 0} → ((v : Rows) → s ≡ bounds v → f v ≡ bounds u → P) → then_set s f ≡ bounds u → P
unfolding then_set
then_set-some contradiction f u g e = clash (cc)
then_set-some (bounds v) f u g e = g v refl e

-- ---- nodes

pub finish-next : (k : ℕ) → finish_node k ≡ suc (start_node k)
finish-next k = omega arith

pub place-next : (k : ℕ) → suc (finish_node k) ≡ nodes (k + 1)
place-next k = omega arith

-- ---- one place

module _ (p : Plan) (k : ℕ) (t : Rows) where
  pub without_place-none : without_finish p k t ≡ contradiction → without_place p k t ≡ contradiction
  unfolding without_place then_set
  without_place-none e = ap (λ s. then_set s (without_start p k)) e

  pub without_place-some : (u : Rows) → without_finish p k t ≡ bounds u → without_place p k t ≡ without_start p k u
  unfolding without_place then_set
  without_place-some u e = ap (λ s. then_set s (without_start p k)) e

pub without_place-judged-table : (p : Plan) (k : ℕ) (t u : Rows) → JudgedTable p (nodes (k + 1)) t → without_place p k t ≡ bounds u → JudgedTable p (nodes k) u
unfolding without_place
without_place-judged-table p k t u fit e =
    then_set-some (without_finish p k t) (without_start p k) u
    (λ v h q.
    let left = without_finish-judged-table p k t v (subst (λ n. JudgedTable p n t) (sym (place-next k)) fit) h in
    without_start-judged-table p k v u (subst (λ n. JudgedTable p n v) (finish-next k) left) q)
    e

-- ---- several places

module _ (p : Plan) (low count : ℕ) (t : Rows) (some : 0 < count) where
  turn : eliminated p low count t ≡ then_set (without_place p (low + (count - 1)) t) (eliminated p low (count - 1))
  unfolding eliminated
  turn = let more : count ≡ suc (count - 1) = omega arith in ap (λ n. eliminated p low n t) more

  pub eliminated-none : without_place p (low + (count - 1)) t ≡ contradiction → eliminated p low count t ≡ contradiction
  unfolding then_set
  eliminated-none e = turn ∙ ap (λ s. then_set s (eliminated p low (count - 1))) e

  pub eliminated-some : (u : Rows) → without_place p (low + (count - 1)) t ≡ bounds u → eliminated p low count t ≡ eliminated p low (count - 1) u
  unfolding then_set
  eliminated-some u e = turn ∙ ap (λ s. then_set s (eliminated p low (count - 1))) e

pub eliminated-end : (p : Plan) (low count : ℕ) (t : Rows) → count ≡ 0 → eliminated p low count t ≡ bounds t
unfolding eliminated
eliminated-end p low count t e = ap (λ n. eliminated p low n t) e
