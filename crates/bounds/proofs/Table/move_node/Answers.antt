-- `bounds::Table::move_node` meets its contract: two puts, of which the first leaves the finish's own cells as they are.
use mathlib.Core.Path.{◌≡◌, sym, ◌∙◌, ap, ap₂, subst}
use native.Mathlib.Omega.{arith}
use lib.IntN.{pos}
use lib.ListN.{get_or}
use mir.Syntax.{w32}
use mir.Facts.{to_z-of_z}
use Rattle.std.specs.Result.{is_err}
use Rattle.whole.specs.SplitLaws.{told-fits}
use Rattle.bounds.specs.Flat.{place, weight_at, WeightInRange, flat, put_at}
use Rattle.bounds.specs.FlatLaws.{put_at-same, moved_at-stop, moved_at-past}
use Rattle.bounds.proofs.Sums.{moved-fits}
use Rattle.bounds.proofs.Table.move_node.Goals as goal

pub returns-in_err-put : goal.returns-in_err-put
returns-in_err-put c =
    let first-is : let a = c.args in
    flat (is_err c.put.result) c.put.new.self.weights
    ≡ put_at a.times.now.early a.times.now.late a.y a.s (weight_at a.self.now.weights a.y a.f) a.less a.self.now.weights = let a = c.args in
    c.put.ensures
    ∙ ap₂ (λ v w. put_at a.times.now.early a.times.now.late a.y a.s v w a.self.now.weights)
    (to_z-of_z (told-fits w32 (weight_at a.self.now.weights a.y a.f) c.ahead-1.given))
    (to_z-of_z c.ranges.less) in
    let a = c.args in
    rw c.from_residual.ensures.0
    (moved_at-stop a.times.now.early a.times.now.late a.s a.f a.less a.more a.y a.self.now.weights (is_err c.put.result) c.put.new.self.weights
    first-is
    (ap is_err c.in_err-put.was))

pub put-requires-2 : goal.put-requires-2
put-requires-2 c =
    let first-is : let a = c.args in
    flat (is_err c.put.result) c.put.new.self.weights
    ≡ put_at a.times.now.early a.times.now.late a.y a.s (weight_at a.self.now.weights a.y a.f) a.less a.self.now.weights = let a = c.args in
    c.put.ensures
    ∙ ap₂ (λ v w. put_at a.times.now.early a.times.now.late a.y a.s v w a.self.now.weights)
    (to_z-of_z (told-fits w32 (weight_at a.self.now.weights a.y a.f) c.ahead-1.given))
    (to_z-of_z c.ranges.less) in
    let back-same : let a = c.args in weight_at c.put.new.self.weights a.f a.y ≡ weight_at a.self.now.weights a.f a.y = let a = c.args in
    ap (λ r. get_or r.weights (place a.f a.y) (pos 0)) first-is
    ∙ put_at-same a.times.now.early a.times.now.late a.y a.s (weight_at a.self.now.weights a.y a.f) a.less a.self.now.weights (place a.f a.y)
    (pos 0)
    (λ e. omega (arith, c.requires.before, c.requires.order, c.requires.node)) in
    let a = c.args in (
      c.requires.times a.s (omega (arith, c.requires.order, c.requires.node)),
      c.requires.times a.y (omega (arith, c.requires.before, c.requires.node)),
      moved-fits (told-fits w32 (weight_at c.put.new.self.weights a.f a.y) c.back-1.given) c.ranges.more
          (subst WeightInRange (sym back-same) c.requires.row)
          c.requires.more-moves,
    )

pub returns : goal.returns
returns c =
    let first-is : let a = c.args in
    flat (is_err c.put.result) c.put.new.self.weights
    ≡ put_at a.times.now.early a.times.now.late a.y a.s (weight_at a.self.now.weights a.y a.f) a.less a.self.now.weights = let a = c.args in
    c.put.ensures
    ∙ ap₂ (λ v w. put_at a.times.now.early a.times.now.late a.y a.s v w a.self.now.weights)
    (to_z-of_z (told-fits w32 (weight_at a.self.now.weights a.y a.f) c.ahead-1.given))
    (to_z-of_z c.ranges.less) in
    let a = c.args in
    c.put-2.ensures
    ∙ ap₂ (λ v w. put_at a.times.now.early a.times.now.late a.s a.y v w c.put.new.self.weights)
    (to_z-of_z (told-fits w32 (weight_at c.put.new.self.weights a.f a.y) c.back-1.given))
    (to_z-of_z c.ranges.more)
    ∙ moved_at-past a.times.now.early a.times.now.late a.s a.f a.less a.more a.y a.self.now.weights (is_err c.put.result) c.put.new.self.weights first-is
    (ap is_err c.in_ok-put.was)
