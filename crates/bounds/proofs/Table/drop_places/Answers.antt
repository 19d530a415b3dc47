use Prim.Native.Nat.{◌+◌}
use mathlib.Core.Path.{◌≡◌, sym, ◌∙◌, ap}
use native.Mathlib.Omega.{arith}
use Rattle.std.specs.Result.{is_err}
use Rattle.bounds.specs.Events.{nodes}
use Rattle.bounds.specs.Tables.{bounds}
use Rattle.bounds.specs.Flat.{rows_of}
use Rattle.bounds.specs.PlacesLaws.{eliminated-end}
use Rattle.bounds.specs.TableHeldLaws.{last-table-held, places-found, places-left, places-table-held}
use Rattle.bounds.proofs.Table.drop_places.Goals as goal

pub returns-in_err-drop_place : goal.returns-in_err-drop_place
returns-in_err-drop_place c =
    let a = c.args in
    let l = c.loop-left in
    let some = c.loop-left-test.true in
    let r = c.drop_place in record {
      weights_after = λ p g.
          let i = l.invariant.1 p g in
          rw c.from_residual.ensures.0
          (sym
          (i.0
          ∙ places-found p a.times.now.early a.times.now.late a.low l.left l.self.weights some (is_err r.result) r.new.self.weights
          (r.ensures.weights_after p (last-table-held p a.times.now.early a.times.now.late a.low l.left l.self.weights some i.1))
          (ap is_err c.in_err-drop_place.was)));
      weights_len_unchanged = r.ensures.weights_len_unchanged ∙ l.invariant.0;
    }

pub loop-left-preserved : goal.loop-left-preserved
loop-left-preserved c =
    let a = c.args in
    let l = c.loop-left in
    let some = c.loop-left-test.true in
    let r = c.drop_place in
    let left = (ap is_err c.in_ok-drop_place.was) in (
      r.ensures.weights_len_unchanged ∙ l.invariant.0,
      λ p g.
          let i = l.invariant.1 p g in
          let e = r.ensures.weights_after p (last-table-held p a.times.now.early a.times.now.late a.low l.left l.self.weights some i.1) in (
            i.0 ∙ places-left p a.times.now.early a.times.now.late a.low l.left l.self.weights some (is_err r.result) r.new.self.weights e left,
            places-table-held p a.times.now.early a.times.now.late a.low l.left l.self.weights some (is_err r.result) r.new.self.weights e i.1 left r.ensures.weights_len_unchanged,
          ),
    )

pub returns : goal.returns
returns c =
    let a = c.args in
    let l = c.loop-left in
    let none : l.left ≡ 0 = omega arith in
    let low : nodes (a.low + l.left) ≡ nodes a.low = omega arith in record {
      weights_after = λ p g.
          sym
          ((l.invariant.1 p g).0
          ∙ eliminated-end p a.low l.left (rows_of (nodes (a.low + l.left)) l.self.weights) none
          ∙ ap (λ n. bounds (rows_of n l.self.weights)) low);
      weights_len_unchanged = l.invariant.0;
    }
