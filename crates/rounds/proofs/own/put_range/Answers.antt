-- `rounds::own::put_range` meets its contract: two puts, of the event's latest and of its earliest.
use mathlib.Core.Path.{◌≡◌, ◌∙◌, ap}
use mathlib.Core.List.{[], ◌∷◌}
use lib.IntN.{pos}
use mir.Facts.{to_z-of_z}
use Rattle.std.specs.Result.{is_err}
use Rattle.bounds.specs.Spans.{time_of_node}
use Rattle.bounds.specs.Flat.{flat, put_at, put_bounds}
use Rattle.bounds.specs.BoundsLaws.{put_bounds-stop, put_bounds-past}
use Rattle.rounds.specs.PutLaws.{up_bound, down_bound, up_is, down_is}
use Rattle.bounds.specs.SpansLaws.{in_range-fits}
use Rattle.rounds.proofs.Times.{zero-less-back}
use Rattle.rounds.proofs.own.put_range.Goals as goal

pub returns-in_err-put : goal.returns-in_err-put
returns-in_err-put c =
    let first-is : let a = c.args in
    flat (is_err c.put.result) c.put.new.self.weights ≡ put_bounds a.times.now.early a.times.now.late (up_bound a.times.now.late a.y ∷ []) a.table.now.weights = let a = c.args in
    c.put.ensures
    ∙ ap (λ v. put_at a.times.now.early a.times.now.late 0 a.y v (pos 0) a.table.now.weights) (to_z-of_z (in_range-fits (c.requires.0 a.y c.requires.1).late-in))
    ∙ up_is a.times.now.early a.times.now.late a.y a.table.now.weights in
    let a = c.args in
    rw c.from_residual.ensures.0
    (put_bounds-stop a.times.now.early a.times.now.late (up_bound a.times.now.late a.y ∷ []) (down_bound a.times.now.early a.y ∷ []) a.table.now.weights
    (is_err c.put.result)
    c.put.new.self.weights
    first-is
    (ap is_err c.in_err-put.was))

pub returns : goal.returns
returns c =
    let first-is : let a = c.args in
    flat (is_err c.put.result) c.put.new.self.weights ≡ put_bounds a.times.now.early a.times.now.late (up_bound a.times.now.late a.y ∷ []) a.table.now.weights = let a = c.args in
    c.put.ensures
    ∙ ap (λ v. put_at a.times.now.early a.times.now.late 0 a.y v (pos 0) a.table.now.weights) (to_z-of_z (in_range-fits (c.requires.0 a.y c.requires.1).late-in))
    ∙ up_is a.times.now.early a.times.now.late a.y a.table.now.weights in
    let a = c.args in
    let in-range = (c.requires.0 a.y c.requires.1).early-in in
    c.put-2.ensures
    ∙ ap (λ v. put_at a.times.now.early a.times.now.late a.y 0 v (pos 0) c.put.new.self.weights) (zero-less-back (time_of_node a.times.now.early a.y) in-range)
    ∙ down_is a.times.now.early a.times.now.late a.y c.put.new.self.weights
    ∙ put_bounds-past a.times.now.early a.times.now.late (up_bound a.times.now.late a.y ∷ []) (down_bound a.times.now.early a.y ∷ []) a.table.now.weights
    (is_err c.put.result)
    c.put.new.self.weights
    first-is
    (ap is_err c.in_ok-put.was)
