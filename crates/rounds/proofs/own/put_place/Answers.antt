-- `rounds::own::put_place` meets its contract: the start's bounds, and then the finish's.
use mathlib.Core.Path.{◌≡◌, ◌∙◌, ap}
use Rattle.std.specs.Result.{is_err}
use Rattle.bounds.specs.declared.Event.TheVariants.{Start, Finish}
use Rattle.bounds.specs.BuildLaws.{event_of-start, event_of-finish}
use Rattle.bounds.specs.Flat.{flat, put_bounds}
use Rattle.bounds.specs.BoundsLaws.{put_bounds-stop, put_bounds-past}
use Rattle.rounds.specs.Put.{range_of}
use Rattle.rounds.proofs.own.put_place.Goals as goal

pub returns-in_err-put_range : goal.returns-in_err-put_range
returns-in_err-put_range c =
    let start_is : let a = c.args in
    flat (is_err c.put_range.result) c.put_range.new.table.weights
    ≡ put_bounds a.times.now.early a.times.now.late (range_of a.times.now.early a.times.now.late (Start a.k)) a.table.now.weights = let a = c.args in
    c.put_range.ensures
    ∙ ap (λ e. put_bounds a.times.now.early a.times.now.late (range_of a.times.now.early a.times.now.late e) a.table.now.weights) (event_of-start a.k) in
    let a = c.args in
    rw c.from_residual.ensures.0
    (put_bounds-stop a.times.now.early a.times.now.late (range_of a.times.now.early a.times.now.late (Start a.k))
    (range_of a.times.now.early a.times.now.late (Finish a.k))
    a.table.now.weights
    (is_err c.put_range.result)
    c.put_range.new.table.weights
    start_is
    (ap is_err c.in_err-put_range.was))

pub returns : goal.returns
returns c =
    let start_is : let a = c.args in
    flat (is_err c.put_range.result) c.put_range.new.table.weights
    ≡ put_bounds a.times.now.early a.times.now.late (range_of a.times.now.early a.times.now.late (Start a.k)) a.table.now.weights = let a = c.args in
    c.put_range.ensures
    ∙ ap (λ e. put_bounds a.times.now.early a.times.now.late (range_of a.times.now.early a.times.now.late e) a.table.now.weights) (event_of-start a.k) in
    let a = c.args in
    c.put_range-2.ensures
    ∙ ap (λ e. put_bounds a.times.now.early a.times.now.late (range_of a.times.now.early a.times.now.late e) c.put_range.new.table.weights) (event_of-finish a.k)
    ∙ put_bounds-past a.times.now.early a.times.now.late (range_of a.times.now.early a.times.now.late (Start a.k))
    (range_of a.times.now.early a.times.now.late (Finish a.k))
    a.table.now.weights
    (is_err c.put_range.result)
    c.put_range.new.table.weights
    start_is
    (ap is_err c.in_ok-put_range.was)
