use Prim.Native.Nat.{◌<◌}
use mathlib.Core.Path.{sym, ◌∙◌, ap, subst}
use native.Mathlib.Omega.{arith}
use lib.IntN.{pos}
use lib.ListN.{get_or}
use Rattle.std.specs.Result.{is_err}
use Rattle.bounds.specs.Flat.{place, WeightInRange, joined_row}
use Rattle.bounds.specs.FlatLaws.{each_node-stop, each_node-past, each_node-end, bounded_nodes-has, HasBounded-same, joined_row-same}
use Rattle.bounds.proofs.Table.join_rows.Goals as goal

pub join_row-requires : goal.join_row-requires
join_row-requires c =
    let a = c.args in
    let l = c.loop-y in
    let low : l.y < a.s = omega arith in
    record {
      times = c.requires.times;
      node = c.requires.node;
      before = low;
      bounded =
          HasBounded-same a.self.now.weights l.self.weights a.s _ (λ z h. l.invariant.1 (place a.s z) (omega arith))
          (bounded_nodes-has a.self.now.weights a.s _ c.bounded_nodes-set.ensures);
      weighed = subst WeightInRange (sym (l.invariant.1 (place l.y a.s) (omega arith))) (c.requires.column l.y low);
      row = λ z h. subst WeightInRange (sym (l.invariant.1 (place a.s z) (omega arith))) (c.requires.row z h);
    }

pub returns-in_err-join_row : goal.returns-in_err-join_row
returns-in_err-join_row c =
    let a = c.args in
    let l = c.loop-y in
    let r = c.join_row in
    rw c.from_residual.ensures.0
    (sym
    (l.invariant.0
    ∙ each_node-stop (joined_row a.times.now.early a.times.now.late a.s) a.s l.y l.self.weights (is_err r.result) r.new.self.weights (omega arith) r.ensures
    (ap is_err c.in_err-join_row.was)))

pub loop-y-preserved : goal.loop-y-preserved
loop-y-preserved c =
    let a = c.args in
    let l = c.loop-y in
    let r = c.join_row in (
      l.invariant.0
          ∙ each_node-past (joined_row a.times.now.early a.times.now.late a.s) a.s l.y l.self.weights (is_err r.result) r.new.self.weights (omega arith) r.ensures
          (ap is_err c.in_ok-join_row.was),
      λ i h.
          ap (λ f. get_or f.weights i (pos 0)) r.ensures
          ∙ joined_row-same a.times.now.early a.times.now.late a.s l.y l.self.weights i (pos 0) (omega (arith, c.requires.node))
          ∙ l.invariant.1 i (omega arith),
    )

pub returns : goal.returns
returns c =
    let a = c.args in
    let l = c.loop-y in
    sym (l.invariant.0 ∙ each_node-end (joined_row a.times.now.early a.times.now.late a.s) a.s l.y l.self.weights (omega arith))
