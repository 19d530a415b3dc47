use Prim.Native.Nat.{◌<◌, ◌+◌, ◌-◌}
use mathlib.Core.Path.{◌≡◌, sym, ◌∙◌, ap, subst}
use native.Mathlib.Omega.{arith}
use lib.IntN.{pos}
use lib.ListN.{get_or}
use mir.Syntax.{w32}
use mir.Val.{to_z, of_z}
use mir.Facts.{to_z-of_z}
use Rattle.std.specs.Result.{is_err}
use Rattle.whole.specs.SplitLaws.{told-fits}
use Rattle.events.specs.Bits.{bits_of, members_from}
use Rattle.bounds.specs.Flat.{place, weight_at, WeightInRange, Flat, put_at, each_node, joined_at, joined_cells, HasBounded}
use Rattle.bounds.specs.FlatLaws.{put_at-same, each_node-stop, each_node-past, HasBounded-same, joined_cells-member, joined_cells-over}
use Rattle.bounds.proofs.Sums.{weights-fit}
use Rattle.bounds.proofs.Table.join_cells.Goals as goal
use Rattle.bounds.proofs.Table.join_cells.Goals.{In-Some, After-put}

-- it comes next, and what comes after it is left
turn : (c : In-Some) → let a = c.args in
    let l = c.loop-z in
    let z = c.in-Some.z in
    let e = l.invariant.0.0 in
    let step = joined_at a.times.now.early a.times.now.late a.s a.y (to_z w32 (of_z w32 a.w)) in
    (z < a.s) × (each_node step e (a.s - e) l.self.weights ≡ each_node step z (a.s - z) l.self.weights)
    × (c.next.new.self ≡ members_from (bits_of a.set) (z + 1) (a.s - (z + 1)))
turn c =
    let a = c.args in
    let l = c.loop-z in
    let has : HasBounded l.self.weights a.s a.set
    = HasBounded-same a.self.now.weights l.self.weights a.s a.set (λ z h. l.invariant.1 (place a.s z) (omega (arith, c.requires.before))) c.requires.bounded in
    joined_cells-member a.times.now.early a.times.now.late a.s a.y (to_z w32 (of_z w32 a.w)) l.self.weights a.set has (omega (arith, c.requires.node))
    l.invariant.0.0 c.in-Some.z c.next.new.self (sym l.invariant.0.1 ∙ c.in-Some.ensures.steps)

pub overflow_add-v : goal.overflow_add-v
overflow_add-v c = let low = (turn (goal.at.overflow_add-v c).In-Some).0 in omega (arith, c.requires.node)

pub offset_bounds-self-row : goal.offset_bounds-self-row
offset_bounds-self-row c = let low = (turn (goal.at.offset_bounds-self-row c).In-Some).0 in omega (arith, c.requires.node)

pub bounds-self-row : goal.bounds-self-row
bounds-self-row c = let low = (turn (goal.at.bounds-self-row c).In-Some).0 in omega (arith, c.requires.node)

pub put-requires : goal.put-requires
put-requires c =
    let a = c.args in
    let l = c.loop-z in
    let z = c.in-Some.z in
    let low = (turn (goal.at.put-requires c).In-Some).0 in
    let y-timed = c.requires.times a.y (omega (arith, c.requires.before, c.requires.node)) in
    let z-timed = c.requires.times z (omega (arith, c.requires.node)) in
    let same : weight_at l.self.weights a.s z ≡ weight_at a.self.now.weights a.s z = l.invariant.1 (place a.s z) (omega (arith, c.requires.before)) in (
      search,
      search,
      weights-fit (told-fits w32 (weight_at l.self.weights a.s z) c.v-1.given) c.ranges.w (subst WeightInRange (sym same) (c.requires.row z low))
          c.requires.weighed c.requires.on,
    )

put_is : (c : After-put) (r : Flat) → let a = c.args in
    let l = c.loop-z in
    r ≡ put_at a.times.now.early a.times.now.late a.y c.in-Some.z (to_z w32 (of_z w32 (weight_at l.self.weights a.s c.in-Some.z))) (to_z w32 (of_z w32 a.w)) l.self.weights
    → r ≡ joined_at a.times.now.early a.times.now.late a.s a.y (to_z w32 (of_z w32 a.w)) c.in-Some.z l.self.weights
put_is c r e =
    let a = c.args in
    let l = c.loop-z in
    e
    ∙ ap (λ v. put_at a.times.now.early a.times.now.late a.y c.in-Some.z v (to_z w32 (of_z w32 a.w)) l.self.weights)
    (to_z-of_z (told-fits w32 (weight_at l.self.weights a.s c.in-Some.z) c.v-1.given))

pub returns-in_err-put : goal.returns-in_err-put
returns-in_err-put c =
    let a = c.args in
    let l = c.loop-z in
    let h = goal.at.returns-in_err-put c in
    let step = joined_at a.times.now.early a.times.now.late a.s a.y (to_z w32 (of_z w32 a.w)) in
    rw c.from_residual.ensures.0
    (sym
    (l.invariant.0.2 ∙ (turn h.In-Some).1
    ∙ each_node-stop step a.s c.in-Some.z l.self.weights (is_err c.put.result) c.put.new.self.weights (turn h.In-Some).0 (put_is h.After-put _ c.put.ensures)
    (ap is_err c.in_err-put.was))
    ∙ ap (λ w. joined_cells a.times.now.early a.times.now.late a.s a.y w a.self.now.weights) (to_z-of_z c.ranges.w))

pub loop-z-preserved : goal.loop-z-preserved
loop-z-preserved c =
    let a = c.args in
    let l = c.loop-z in
    let z = c.in-Some.z in
    let us = c.put.new.self.weights in
    let h = goal.at.loop-z-preserved c in
    let here = turn h.In-Some in
    let step = joined_at a.times.now.early a.times.now.late a.s a.y (to_z w32 (of_z w32 a.w)) in (
      (
        z + 1,
        here.2,
        l.invariant.0.2 ∙ here.1
            ∙ each_node-past step a.s z l.self.weights (is_err c.put.result) us here.0 (put_is h.After-put _ c.put.ensures) (ap is_err c.in_ok-put.was),
      ),
      λ i h.
          ap (λ f. get_or f.weights i (pos 0)) (put_is (goal.at.loop-z-preserved c).After-put _ c.put.ensures)
          ∙ put_at-same a.times.now.early a.times.now.late a.y z _ _ l.self.weights i (pos 0) (λ e. let low = here.0 in omega arith)
          ∙ l.invariant.1 i h,
    )

-- ---- and none is left

pub returns : goal.returns
returns c =
    let a = c.args in
    let l = c.loop-z in
    let has : HasBounded l.self.weights a.s a.set
    = HasBounded-same a.self.now.weights l.self.weights a.s a.set (λ z h. l.invariant.1 (place a.s z) (omega (arith, c.requires.before))) c.requires.bounded in
    sym
    (l.invariant.0.2
    ∙ joined_cells-over a.times.now.early a.times.now.late a.s a.y (to_z w32 (of_z w32 a.w)) l.self.weights a.set has (omega (arith, c.requires.node))
    l.invariant.0.0 (sym l.invariant.0.1 ∙ c.in-None.ensures.steps.0))
    ∙ ap (λ w. joined_cells a.times.now.early a.times.now.late a.s a.y w a.self.now.weights) (to_z-of_z c.ranges.w)
