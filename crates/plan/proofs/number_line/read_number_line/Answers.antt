-- `read_number_line`: the line at its place is what the line for itself is (`line_taken-told`, `line_taken-placed`).
use Rattle.text.specs.Numbers.{number_after}
use Rattle.lines.specs.Reading.{lined_number}
use Rattle.std.proofs.Common.{rules}
use Rattle.plan.specs.ReadAtLaws.{line_taken-told, line_taken-placed}
use Rattle.plan.proofs.number_line.read_number_line.Goals as goal

pub returns : goal.returns
returns c =
    let a = c.args in
    record {
      told = line_taken-told (λ l. lined_number (number_after a.key.now a.lo a.hi l)) c.read_line.ensures c.requires (λ v p. search rules);
      place = line_taken-placed (λ l. lined_number (number_after a.key.now a.lo a.hi l)) c.read_line.ensures c.requires (λ v p. search rules);
    }
