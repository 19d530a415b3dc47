use Rattle.std.proofs.Common.{◌∙◌}
use Rattle.text.specs.LineLaws.{has_key-starts_with}
use Rattle.text.proofs.line.has_key.Goals as goal

pub returns : goal.returns
returns c = c.starts_with.ensures.value ∙ has_key-starts_with c.args.key.now c.args.s.now
