use Rattle.std.proofs.Common.{arith}
use Rattle.text.specs.DigitLaws.{digits-short}
use Rattle.text.specs.NumberLaws.{decimal-pos}
use Rattle.text.proofs.decimal.U64Decimal.put.Goals as goal

pub returns-clause-stored : goal.returns-clause-stored
returns-clause-stored c = rw (decimal-pos c.args.self) c.put_digits.ensures

pub returns-clause-upper_bound : goal.returns-clause-upper_bound
returns-clause-upper_bound c = omega (arith, c.put_digits.ensures.place, digits-short c.args.self c.ranges.self.fits)
