-- Past the text's end nothing is left (`len_to-end`).
use Rattle.std.proofs.Common.{arith, sym}
use Rattle.text.specs.Lines.{LF}
use Rattle.text.specs.LineLaws.{len_to-end}
use Rattle.text.proofs.line_reader.LineReader.line_len.Goals as goal

pub returns-in-None : goal.returns-in-None
returns-in-None c = sym (len_to-end LF c.args.self.text.now c.args.self.at (omega (arith, c.in-None.ensures.lookup)))
