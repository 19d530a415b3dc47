-- `rounds::same::same_rows` meets its contract: every row is compared, and one that differs is enough.
use Prim.Native.Nat.{ℕ, ◌<◌}
use mathlib.Core.Path.{◌≡◌, refl, sym, ◌∙◌, subst}
use mathlib.Core.Bool.{Bool, true, false}
use mathlib.Core.List.{List}
use native.Mathlib.Omega.{arith}
use lib.IntN.{ℤ}
use lib.ListN.{length}
use borrow.Author.Tests.{tests}
use Rattle.std.specs.Bool.{MatchBool}
use Rattle.std.specs.List.{range_with_len, AllWithin, HoldsAt}
use Rattle.std.proofs.Common.{rules, zero-add}
use Rattle.std.proofs.lemmas.Iterator.{cases_from_all, YieldsList-from_range}
use Rattle.std.proofs.lemmas.List.FromFn.{length-range_with_len, get_or-range_with_len}
use Rattle.bounds.specs.Tables.{Cell, listed}
use Rattle.bounds.specs.Flat.{cell_at}
use Rattle.rounds.specs.Rounds.{same_row, same_rows}
use Rattle.rounds.specs.SameLaws.{same_rows-all, same_rows-not}
use Rattle.rounds.proofs.same.same_rows.Goals as goal

-- row y of the first k nodes
abbrev row_of : ℕ → List ℤ → ℕ → List Cell
row_of k ws y = listed k (cell_at ws y)

compared : (k : ℕ) (f g : ℕ → List Cell) (r : Bool)
    → MatchBool r (AllWithin (λ y. same_row (f y) (g y) ≡ true) (range_with_len 0 k) 0 (length (range_with_len 0 k)))
    ((i : ℕ) × (i < length (range_with_len 0 k)) × HoldsAt (λ y. same_row (f y) (g y) ≡ false) (range_with_len 0 k) i)
    → r ≡ same_rows (listed k f) (listed k g)
compared k f g true all =
    sym
    (same_rows-all k f g
    (λ y h. subst (λ y. same_row (f y) (g y) ≡ true) (get_or-range_with_len 0 k y 0 h ∙ zero-add y) (all y 0 (omega arith) (omega (arith, length-range_with_len 0 k)))))
compared k f g false one =
    let low : one.0 < k = let below = one.1 in omega (arith, length-range_with_len 0 k) in
    sym (same_rows-not k f g one.0 low (subst (λ y. same_row (f y) (g y) ≡ false) (get_or-range_with_len 0 k one.0 0 low ∙ zero-add one.0) (one.2 0)))

pub returns : goal.returns
returns c =
    let a = c.args in
    let f = row_of a.k a.first.now.weights in
    let g = row_of a.k a.second.now.weights in
    compared a.k f g c.all.result
    (cases_from_all _ _ _ (λ y. same_row (f y) (g y) ≡ true) (λ y. same_row (f y) (g y) ≡ false) c.all.ensures.ran
    (YieldsList-from_range 0 a.k a.k refl (omega arith))
    (λ x q k. search (rules, tests))
    (λ x q k. search (rules, tests)))
