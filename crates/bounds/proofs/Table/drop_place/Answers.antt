-- `bounds::Table::drop_place` meets its contract: its finish, and then its start, by the laws of `TableHeldLaws`.
use mathlib.Core.Path.{sym, ◌∙◌, ap}
use Rattle.std.specs.Result.{is_err}
use Rattle.bounds.specs.TableHeldLaws.{finish-table-held, start-table-held, place_found, place-left}
use Rattle.bounds.proofs.Table.drop_place.Goals as goal

pub returns-in_err-drop_finish : goal.returns-in_err-drop_finish
returns-in_err-drop_finish c =
    let a = c.args in
    let f = c.drop_finish in record {
      weights_after = λ p g.
          rw c.from_residual.ensures.0
          (sym
          (place_found p a.times.now.early a.times.now.late a.k a.self.now.weights (is_err f.result) f.new.self.weights
          (f.ensures.weights_after p (finish-table-held p a.times.now.early a.times.now.late a.k a.self.now.weights g))
          (ap is_err c.in_err-drop_finish.was)));
      weights_len_unchanged = f.ensures.weights_len_unchanged;
    }

pub drop_start-requires : goal.drop_start-requires
drop_start-requires c =
    let a = c.args in
    let f = c.drop_finish in
    let p = c.requires.plan in
    let g = finish-table-held p a.times.now.early a.times.now.late a.k a.self.now.weights c.requires.stands in
    record {
      plan = p;
      stands = start-table-held p a.times.now.early a.times.now.late a.k a.self.now.weights (is_err f.result) f.new.self.weights (f.ensures.weights_after p g) g (ap is_err c.in_ok-drop_finish.was)
          f.ensures.weights_len_unchanged;
    }

pub returns : goal.returns
returns c =
    let a = c.args in
    let f = c.drop_finish in
    let left = (ap is_err c.in_ok-drop_finish.was) in
    let r = c.drop_start in record {
      weights_after = λ p whole.
          let g = finish-table-held p a.times.now.early a.times.now.late a.k a.self.now.weights whole in
          let e = f.ensures.weights_after p g in
          r.ensures.weights_after p
          (start-table-held p a.times.now.early a.times.now.late a.k a.self.now.weights (is_err f.result) f.new.self.weights e g left f.ensures.weights_len_unchanged)
          ∙ sym (place-left p a.times.now.early a.times.now.late a.k a.self.now.weights (is_err f.result) f.new.self.weights e left);
      weights_len_unchanged = r.ensures.weights_len_unchanged ∙ f.ensures.weights_len_unchanged;
    }
