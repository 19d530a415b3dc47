-- `number_after`: what follows the key is the rest of s after the key's length (`number_after-key`).
use Rattle.std.proofs.Common.{sym, ap, ◌∙◌, to_z-of_z}
use Rattle.text.specs.Numbers.{number_in}
use Rattle.text.specs.NumberLaws.{number_after-key, number_after-other}
use Rattle.text.proofs.numbers.number_after.Goals as goal

pub returns-in-Some : goal.returns-in-Some
returns-in-Some c =
    let a = c.args in
    let number = c.in-Some.ensures.cases in
    c.read_number.ensures ∙ rw (to_z-of_z c.ranges.lo, to_z-of_z c.ranges.hi)
    (ap (number_in a.lo a.hi) number.1 ∙ sym (number_after-key a.key.now a.lo a.hi a.s.now number.0))

pub returns-in-None : goal.returns-in-None
returns-in-None c = let a = c.args in sym (number_after-other a.key.now a.lo a.hi a.s.now c.in-None.ensures.cases)
