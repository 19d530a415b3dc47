-- `bounds::judging::from_origin` meets its contract: the test of the code is the test of `from_origin`.
use mir.Facts.{to_z-of_z}
use Rattle.bounds.proofs.judging.from_origin.Goals as goal

pub returns-then-w-low : goal.returns-then-w-low
returns-then-w-low c = rw (simp (to_z-of_z c.ranges.w, to_z-of_z c.ranges.low) at c.if-w-low.true)

pub returns-else-w-low : goal.returns-else-w-low
returns-else-w-low c = rw (simp (to_z-of_z c.ranges.w, to_z-of_z c.ranges.low) at c.if-w-low.false)
