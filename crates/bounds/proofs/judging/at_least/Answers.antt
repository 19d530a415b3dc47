-- `bounds::judging::at_least` meets its contract: the test of the code is the test of `at_least`.
use mir.Facts.{to_z-of_z}
use Rattle.bounds.proofs.judging.at_least.Goals as goal

pub returns-then-w-limit : goal.returns-then-w-limit
returns-then-w-limit c = rw (simp (to_z-of_z c.ranges.w, to_z-of_z c.ranges.limit) at c.if-w-limit.true)

pub returns-else-w-limit : goal.returns-else-w-limit
returns-else-w-limit c = rw (simp (to_z-of_z c.ranges.w, to_z-of_z c.ranges.limit) at c.if-w-limit.false)
