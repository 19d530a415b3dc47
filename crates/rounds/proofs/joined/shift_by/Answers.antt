-- `rounds::joined::shift_by` meets its contract: the two cases of `shift_by`.
use mathlib.Core.Path.{◌∙◌}
use mir.Facts.{to_z-of_z}
use Rattle.rounds.specs.OnNextLaws.{shift_by-origin, shift_by-event}
use Rattle.rounds.proofs.joined.shift_by.Goals as goal

pub returns-then-y-eq0 : goal.returns-then-y-eq0
returns-then-y-eq0 c = shift_by-origin c.args.window c.args.y c.if-y-eq0.true

pub returns-else-y-eq0 : goal.returns-else-y-eq0
returns-else-y-eq0 c =
    to_z-of_z c.ranges.window ∙ shift_by-event c.args.window c.args.y c.if-y-eq0.false
