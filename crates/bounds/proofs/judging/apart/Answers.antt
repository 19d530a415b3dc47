-- `bounds::judging::apart` meets its contract: the tests of the code are those of `apart`.
use mir.Facts.{to_z-of_z}
use Rattle.bounds.proofs.judging.apart.Goals as goal

pub returns-then-w-low : goal.returns-then-w-low
returns-then-w-low c = rw (simp (to_z-of_z c.ranges.w, to_z-of_z c.ranges.low) at c.if-w-low.true)

pub returns-then-high-w : goal.returns-then-high-w
returns-then-high-w c =
    rw (
      simp (to_z-of_z c.ranges.w, to_z-of_z c.ranges.low) at c.if-w-low.false,
      simp (to_z-of_z c.ranges.w, to_z-of_z c.ranges.high) at c.if-high-w.true,
    )

pub returns-else-high-w : goal.returns-else-high-w
returns-else-high-w c =
    rw (
      simp (to_z-of_z c.ranges.w, to_z-of_z c.ranges.low) at c.if-w-low.false,
      simp (to_z-of_z c.ranges.w, to_z-of_z c.ranges.high) at c.if-high-w.false,
    )
