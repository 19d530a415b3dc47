-- `rounds::joined::put_next_cell` meets its contract: one put, at the nodes on the next window and moved by the difference of their moves.
use Prim.Native.Nat.{ℕ, ◌+◌, ◌*◌, ◌<◌}
use mathlib.Core.Path.{◌≡◌, sym, ◌∙◌, ap, ap₂, subst}
use native.Mathlib.Omega.{arith}
use lib.IntN.{◌-ℤ◌}
use mir.Syntax.{w32}
use mir.Val.{to_z, of_z}
use mir.Facts.{to_z-of_z}
use Rattle.whole.specs.SplitLaws.{told-fits}
use Rattle.bounds.specs.Spans.{TimesInRange}
use Rattle.bounds.specs.Flat.{weight_at, put_at}
use Rattle.bounds.specs.Events.{most_nodes}
use Rattle.bounds.specs.JudgedTableLaws.{ShiftInRange}
use Rattle.rounds.specs.Rounds.{shift_by}
use Rattle.rounds.specs.Next.{onto}
use Rattle.rounds.specs.OnNextLaws.{onto-below}
use Rattle.rounds.specs.NextLaws.{shift_by-in, shift-moving}
use Rattle.rounds.proofs.Moved.{shift_back, apart-back, moved-putting}
use Rattle.rounds.proofs.joined.put_next_cell.Goals as goal

pub put-requires : goal.put-requires
put-requires c =
    let shifts : (y : ℕ) → ShiftInRange (shift_by c.args.window y) = λ y. shift_by-in c.args.window y c.requires.0.window-least c.requires.0.window-most in
    let more-is : let a =
    c.args in
    to_z w32 (of_z w32 c.shift_by-more.result)
    ≡ shift_by a.window a.z = shift_back (c.shift_by-more.ensures ∙ ap (λ w. shift_by w c.args.z) (to_z-of_z c.ranges.window)) (shifts c.args.z) in
    let less-is : let a =
    c.args in
    to_z w32 (of_z w32 c.shift_by-less.result)
    ≡ shift_by a.window a.y = shift_back (c.shift_by-less.ensures ∙ ap (λ w. shift_by w c.args.y) (to_z-of_z c.ranges.window)) (shifts c.args.y) in
    let apart-is : let a = c.args in
    to_z w32 (of_z w32 (to_z w32 (of_z w32 c.shift_by-more.result) -ℤ to_z w32 (of_z w32 c.shift_by-less.result)))
    ≡ shift_by a.window a.z -ℤ shift_by a.window a.y = apart-back c.shift_by-more.result c.shift_by-less.result more-is less-is (shifts c.args.z)
    (shifts c.args.y) in
    let a = c.args in
    let n = c.requires.0.jobs-most in
    let timed : (y : ℕ) → y < 1 + 2 * a.jobs → TimesInRange a.times.now.early a.times.now.late (onto a.jobs y)
    = λ y h. c.requires.0.times (onto a.jobs y) (onto-below a.jobs y most_nodes (omega arith)) in (
      subst (λ n. TimesInRange a.times.now.early a.times.now.late n) (sym c.node_onto-from.ensures) (timed a.y c.requires.1),
      subst (λ n. TimesInRange a.times.now.early a.times.now.late n) (sym c.node_onto-to.ensures) (timed a.z c.requires.2),
      moved-putting (to_z-of_z (told-fits w32 (weight_at a.carried.now.weights a.y a.z) c.v-1.given))
          apart-is
          (c.requires.0.weighed a.y a.z c.requires.1 c.requires.2)
          (shift-moving (shift_by a.window a.z) (shift_by a.window a.y) (shifts a.z) (shifts a.y)),
    )

pub returns : goal.returns
returns c =
    let shifts : (y : ℕ) → ShiftInRange (shift_by c.args.window y) = λ y. shift_by-in c.args.window y c.requires.0.window-least c.requires.0.window-most in
    let more-is : let a =
    c.args in
    to_z w32 (of_z w32 c.shift_by-more.result)
    ≡ shift_by a.window a.z = shift_back (c.shift_by-more.ensures ∙ ap (λ w. shift_by w c.args.z) (to_z-of_z c.ranges.window)) (shifts c.args.z) in
    let less-is : let a =
    c.args in
    to_z w32 (of_z w32 c.shift_by-less.result)
    ≡ shift_by a.window a.y = shift_back (c.shift_by-less.ensures ∙ ap (λ w. shift_by w c.args.y) (to_z-of_z c.ranges.window)) (shifts c.args.y) in
    let apart-is : let a = c.args in
    to_z w32 (of_z w32 (to_z w32 (of_z w32 c.shift_by-more.result) -ℤ to_z w32 (of_z w32 c.shift_by-less.result)))
    ≡ shift_by a.window a.z -ℤ shift_by a.window a.y = apart-back c.shift_by-more.result c.shift_by-less.result more-is less-is (shifts c.args.z)
    (shifts c.args.y) in
    let a = c.args in
    let from = c.node_onto-from in
    let to = c.node_onto-to in
    c.put.ensures
    ∙ ap₂ (λ v w. put_at a.times.now.early a.times.now.late from.result to.result v w a.table.now.weights)
    (to_z-of_z (told-fits w32 (weight_at a.carried.now.weights a.y a.z) c.v-1.given))
    apart-is
    ∙ ap₂
    (λ u x. put_at a.times.now.early a.times.now.late u x (weight_at a.carried.now.weights a.y a.z) (shift_by a.window a.z -ℤ shift_by a.window a.y)
    a.table.now.weights)
    from.ensures
    to.ensures
