-- `line_at`: the line ends in the text (`len_to-fits`).
use Rattle.std.proofs.Common.{arith, length-take-le, sym}
use Rattle.text.specs.Lines.{LF}
use Rattle.text.specs.LineLaws.{len_to-fits}
use Rattle.lines.proofs.parts.line_at.Goals as goal

pub slice_bounds-result-end : goal.slice_bounds-result-end
slice_bounds-result-end c =
    let rest = c.in-Some.rest.now in
    sym (length-take-le c.len_to.result rest (omega (arith, c.len_to.ensures, len_to-fits LF rest)))
