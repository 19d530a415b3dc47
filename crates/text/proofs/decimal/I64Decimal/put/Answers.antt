-- A number below 0 is `-` and the digits of what it is from 0, by `stored-append`; no i64 has more than twenty bytes (`decimal-short`).
use Rattle.std.proofs.Common.{arith, to_z-of_z, ◌≡◌, nat_abs}
use Rattle.whole.specs.Rules.{wholes}
use Rattle.text.specs.NumberLaws.{decimal-above, decimal-below, decimal-short}
use Rattle.text.specs.LentLaws.{stored-append}
use Rattle.text.proofs.decimal.I64Decimal.put.Goals as goal

pub returns-then-self-lt0-clause-stored : goal.returns-then-self-lt0-clause-stored
returns-then-self-lt0-clause-stored c =
    let z = c.args.self in
    let n : c.unsigned_abs-n.result ≡ nat_abs z = rw (to_z-of_z c.ranges.self) at c.unsigned_abs-n.ensures.value in
    rw (decimal-below z (omega wholes)) (stored-append c.put_byte-from.ensures (rw n at c.put_digits.ensures))

pub returns-then-self-lt0-clause-upper_bound : goal.returns-then-self-lt0-clause-upper_bound
returns-then-self-lt0-clause-upper_bound c =
    omega (arith, (returns-then-self-lt0-clause-stored c).place, decimal-short c.args.self c.ranges.self)

pub returns-else-self-lt0-clause-stored : goal.returns-else-self-lt0-clause-stored
returns-else-self-lt0-clause-stored c =
    let z = c.args.self in
    let n : c.unsigned_abs-n.result ≡ nat_abs z = rw (to_z-of_z c.ranges.self) at c.unsigned_abs-n.ensures.value in
    rw (decimal-above z (omega wholes)) (rw n at c.put_digits-else-self-lt0.ensures)

pub returns-else-self-lt0-clause-upper_bound : goal.returns-else-self-lt0-clause-upper_bound
returns-else-self-lt0-clause-upper_bound c =
    omega (arith, (returns-else-self-lt0-clause-stored c).place, decimal-short c.args.self c.ranges.self)
