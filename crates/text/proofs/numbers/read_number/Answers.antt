-- `read_number`: a law for each return, by what the text begins with and by what the digits after it are.
use Rattle.std.proofs.Common.{arith, ◌≡◌, sym, ap, ◌∙◌, to_z-of_z}
use Rattle.std.specs.Prelude.{Some, None, Err}
use Rattle.std.proofs.lemmas.Result.{err_from_is_err_and}
use Rattle.text.specs.declared.NumberFault.TheVariants.{Form}
use Rattle.text.specs.DigitsRead.{positive_read}
use Rattle.text.specs.DigitsReadLaws.{number_in-zero, number_in-positive, number_in-positive-bad, number_in-negative, number_in-negative-bad}
use Rattle.text.proofs.numbers.read_number.Goals as goal

pub returns-then-eq : goal.returns-then-eq
returns-then-eq c =
    let a = c.args in
    c.in_range.ensures ∙ rw (to_z-of_z c.ranges.lo, to_z-of_z c.ranges.hi)
    (sym (number_in-zero a.lo a.hi a.s.now (rw c.as_slice.ensures at (sym c.if-eq.ensures))))

pub returns-in_err-n : goal.returns-in_err-n
returns-in_err-n c =
    let a = c.args in
    let p = err_from_is_err_and c.from_residual.result c.from_residual.ensures.1 in
    let none : c.read_positive.result ≡ None = grind arith in
    let form : p.0 ≡ Form = grind arith in
    let digits = c.in-Some.ensures.cases in
    p.1 ∙ ap Err form ∙ sym (number_in-negative-bad a.lo a.hi a.s.now digits.0 (ap positive_read (sym digits.1) ∙ sym c.read_positive.ensures ∙ none))

pub returns-in-Some : goal.returns-in-Some
returns-in-Some c =
    let a = c.args in
    let some : c.read_positive.result ≡ Some c.in_ok-n.n = grind arith in
    let digits = c.in-Some.ensures.cases in
    c.negative_in.ensures ∙ rw (to_z-of_z c.ranges.lo, to_z-of_z c.ranges.hi)
    (sym (number_in-negative a.lo a.hi a.s.now c.in_ok-n.n c.ranges.lo digits.0 (ap positive_read (sym digits.1) ∙ sym c.read_positive.ensures ∙ some)))

pub returns-in_err-n-2 : goal.returns-in_err-n-2
returns-in_err-n-2 c =
    let a = c.args in
    let p = err_from_is_err_and c.from_residual-in_err-n-2.result c.from_residual-in_err-n-2.ensures.1 in
    let none : c.read_positive-2.result ≡ None = grind arith in
    let form : p.0 ≡ Form = grind arith in
    p.1 ∙ ap Err form ∙ sym (number_in-positive-bad a.lo a.hi a.s.now (rw c.as_slice.ensures at (sym c.if-eq.ensures)) c.in_default.ensures.cases (sym c.read_positive-2.ensures ∙ none))

pub returns : goal.returns
returns c =
    let a = c.args in
    let some : c.read_positive-2.result ≡ Some c.in_ok-n-2.n = grind arith in
    c.positive_in.ensures ∙ rw (to_z-of_z c.ranges.lo, to_z-of_z c.ranges.hi)
    (sym (number_in-positive a.lo a.hi a.s.now c.in_ok-n-2.n c.ranges.hi c.in_default.ensures.cases (sym c.read_positive-2.ensures ∙ some)))
