-- `rounds::same::same_row` meets its contract: the parts of the two arrays that are row y are compared, which `same_row-of` says of their cells.
use Prim.Native.Nat.{◌+◌, ◌*◌, ◌-◌, ◌≤◌}
use mathlib.Core.Path.{◌≡◌, ◌∙◌, ap, ap₂}
use native.Mathlib.Omega.{arith}
use lib.IntN.{pos}
use lib.ListN.{length, drop, take, length-drop}
use Rattle.std.proofs.Common.{get_or-drop, int_eq}
use lib.Pointwise.{pointwise}
use Rattle.bounds.specs.TablesLaws.{listed-ext}
use Rattle.bounds.specs.Flat.{cell_of}
use Rattle.rounds.specs.Rounds.{same_row}
use Rattle.rounds.specs.SameLaws.{same_row-of}
use Rattle.rounds.proofs.same.same_row.Goals as goal

pub returns : goal.returns
returns c =
    let a = c.args in
    let k = a.k in
    let row = a.y * 37 in
    let ws = a.first.now.weights in
    let vs = a.second.now.weights in
    let count : row + k - row ≡ k = omega arith in
    let in-ws : k ≤ length (drop row ws) = omega (arith, length-drop row ws) in
    let in-vs : k ≤ length (drop row vs) = omega (arith, length-drop row vs) in
    c.eq.ensures
    ∙ ap (λ n. pointwise int_eq (take n (drop row ws)) (take n (drop row vs))) count
    ∙ same_row-of k (drop row ws) (drop row vs) in-ws in-vs
    ∙ ap₂ same_row
    (listed-ext k _ _ (λ z h. ap cell_of (get_or-drop row ws z (pos 0))))
    (listed-ext k _ _ (λ z h. ap cell_of (get_or-drop row vs z (pos 0))))
