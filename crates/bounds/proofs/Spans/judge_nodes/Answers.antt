-- `bounds::Spans::judge_nodes` meets its contract: the four differences fit, and `judge` answers by them.
use mathlib.Core.Path.{◌≡◌, ◌∙◌}
use lib.IntN.{ℤ, ◌-ℤ◌}
use mir.Syntax.{w32}
use mir.Val.{to_z, of_z}
use mir.Facts.{to_z-of_z}
use Rattle.bounds.specs.Spans.{time_of_node, judged_by}
use Rattle.bounds.specs.SpansLaws.{judged_at-by}
use Rattle.bounds.proofs.Gaps.{gap_back}
use Rattle.bounds.proofs.Spans.judge_nodes.Goals as goal

-- what lies between two times, as the code has it
abbrev between : ℤ → ℤ → ℤ
between t u = to_z w32 (of_z w32 (to_z w32 (of_z w32 t) -ℤ to_z w32 (of_z w32 u)))

pub returns : goal.returns
returns c =
    let a = c.args in
    let early = time_of_node a.self.now.early in
    let late = time_of_node a.self.now.late in
    let answer : c.judge.result
    ≡ judged_by (between (early a.z) (late a.y)) (between (late a.z) (early a.y)) (between (late a.z) (late a.y))
    (between (early a.z) (early a.y))
    c.of.result
    c.of-2.result
    (to_z w32 (of_z w32 a.w))
    = c.judge.ensures in
    simp (to_z-of_z c.ranges.w) at answer
    ∙ judged_at-by a.self.now.early a.self.now.late a.y a.z a.w (gap_back c.requires.1.early-in c.requires.0.late-in)
    (gap_back c.requires.1.late-in c.requires.0.early-in)
    (gap_back c.requires.1.late-in c.requires.0.late-in)
    (gap_back c.requires.1.early-in c.requires.0.early-in)
    c.of.ensures
    c.of-2.ensures
