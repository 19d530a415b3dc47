-- `answered`: the length that was answered counts bytes of the slice, by `written-counts`.
use Rattle.std.proofs.Math.Path.{refl}
use Rattle.lines.specs.WrittenLaws.{written-counts}
use Rattle.by_value.proofs.plans.answered.Goals as goal

pub slice_bounds-out-end : goal.slice_bounds-out-end
slice_bounds-out-end g c = (written-counts _ _ c.answer_value.new.out c.in-Ok.ensures.value c.answer_value.auto.out refl).0

pub slice_bounds-say-end : goal.slice_bounds-say-end
slice_bounds-say-end g c = (written-counts _ _ c.answer_value.new.out c.in-Ok.ensures.value c.answer_value.auto.out refl).1
