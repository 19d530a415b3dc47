use Rattle.std.proofs.Common.{◌+◌, ap, ◌∙◌}
use Rattle.text.specs.DigitLaws.{digits-count}
use Rattle.text.proofs.decimal.count_digits.Goals as goal

pub returns : goal.returns
returns c =
    let k = c.checked_ilog10.ensures in
    ap (λ n. n + 1) c.unwrap_or.ensures ∙ digits-count c.args.n c.checked_ilog10.result k.none k.power_le k.next_power_gt
