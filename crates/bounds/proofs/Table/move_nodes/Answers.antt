use Prim.Native.Nat.{ℕ, ◌<◌}
use mathlib.Core.Path.{◌≡◌, sym, ◌∙◌, ap, ap₂}
use native.Mathlib.Omega.{arith}
use lib.IntN.{pos}
use lib.ListN.{get_or}
use mir.Syntax.{w32}
use mir.Val.{to_z, of_z}
use mir.Facts.{to_z-of_z}
use Rattle.std.specs.Result.{is_err}
use Rattle.bounds.specs.Flat.{place, moved_at, moved_rows}
use Rattle.bounds.specs.FlatLaws.{each_node-stop, each_node-past, each_node-end, moved_at-same}
use Rattle.bounds.proofs.Table.move_nodes.Goals as goal

pub returns-in_err-move_node : goal.returns-in_err-move_node
returns-in_err-move_node c =
    let a = c.args in
    let l = c.loop-y in
    let r = c.move_node in
    rw c.from_residual.ensures.0
    (sym
    (l.invariant.0
    ∙ each_node-stop (moved_at a.times.now.early a.times.now.late a.s a.f (to_z w32 (of_z w32 a.less)) (to_z w32 (of_z w32 a.more))) a.f l.y
    l.self.weights
    (is_err r.result)
    r.new.self.weights
    (omega arith)
    r.ensures
    (ap is_err c.in_err-move_node.was))
    ∙ ap₂ (λ less more. moved_rows a.times.now.early a.times.now.late a.s a.f less more a.self.now.weights) (to_z-of_z c.ranges.less) (to_z-of_z c.ranges.more))

pub loop-y-preserved : goal.loop-y-preserved
loop-y-preserved c =
    let a = c.args in
    let l = c.loop-y in
    let r = c.move_node in
    let less = to_z w32 (of_z w32 a.less) in
    let more = to_z w32 (of_z w32 a.more) in
    let low : l.y < a.f = omega arith in
    let same : (i : ℕ) → (i ≡ place l.y a.s → ⊥) → (i ≡ place a.s l.y → ⊥) → get_or r.new.self.weights i (pos 0) ≡ get_or l.self.weights i (pos 0)
    = λ i m n.
    ap (λ f. get_or f.weights i (pos 0)) r.ensures
    ∙ moved_at-same a.times.now.early a.times.now.late a.s a.f less more l.y l.self.weights i (pos 0) m n in
    let order = c.requires.order in
    let node = c.requires.node in (
      l.invariant.0
          ∙ each_node-past (moved_at a.times.now.early a.times.now.late a.s a.f less more) a.f l.y l.self.weights (is_err r.result) r.new.self.weights low r.ensures
          (ap is_err c.in_ok-move_node.was),
      λ u h. same (place u a.f) (λ e. omega arith) (λ e. omega arith) ∙ l.invariant.1 u h,
      λ x h. same (place a.f x) (λ e. omega arith) (λ e. omega arith) ∙ l.invariant.2 x h,
    )

pub returns : goal.returns
returns c =
    let a = c.args in
    let l = c.loop-y in
    sym
    (l.invariant.0
    ∙ each_node-end (moved_at a.times.now.early a.times.now.late a.s a.f (to_z w32 (of_z w32 a.less)) (to_z w32 (of_z w32 a.more))) a.f l.y l.self.weights
    (omega arith))
    ∙ ap₂ (λ less more. moved_rows a.times.now.early a.times.now.late a.s a.f less more a.self.now.weights) (to_z-of_z c.ranges.less) (to_z-of_z c.ranges.more)
