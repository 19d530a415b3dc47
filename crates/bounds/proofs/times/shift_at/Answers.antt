-- `bounds::times::shift_at` meets its contract: the two cases of `shift`.
use mathlib.Core.Path.{◌∙◌}
use mir.Syntax.{w32}
use mir.Facts.{to_z-of_z}
use Rattle.whole.specs.SplitLaws.{told-fits}
use Rattle.bounds.specs.EventsLaws.{shift-this, shift-next}
use Rattle.bounds.proofs.times.shift_at.Goals as goal

pub returns-then-k-p : goal.returns-then-k-p
returns-then-k-p c = shift-this c.args.p c.args.k c.if-k-p.true

pub returns : goal.returns
returns c =
    let a = c.args in to_z-of_z (told-fits w32 a.p.window c.struct_told-1.given.0.1)
    ∙ shift-next a.p a.k c.if-k-p.false
