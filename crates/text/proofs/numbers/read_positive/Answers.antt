use Rattle.text.specs.DigitLaws.{is_digit-range}
use Rattle.std.proofs.Common.{◌≡◌, ℕ, ◌+◌, ◌*◌, get_or, drop, sym, ap, ◌∙◌, arith}
use Rattle.text.specs.DigitsRead.{digits_read}
use Rattle.text.specs.DigitsReadLaws.{digits_read-stop, digits_read-past, digits_read-cut, digits_read-end, positive_read-empty, positive_read-zero, positive_read-first}
use Rattle.text.proofs.numbers.read_positive.Goals as goal
use Rattle.text.proofs.numbers.read_positive.Goals.{then-n, else-n}

pub returns-in-empty : goal.returns-in-empty
returns-in-empty c = sym (positive_read-empty c.args.s.now (omega arith))

pub returns-in-empty-2 : goal.returns-in-empty-2
returns-in-empty-2 c = sym (positive_read-zero c.args.s.now (omega arith) (omega arith))

pub loop-b-init : goal.loop-b-init
loop-b-init c = (omega arith, positive_read-first c.args.s.now (omega arith) (omega arith))

pub returns-then-not-is_ascii_digit : goal.returns-then-not-is_ascii_digit
returns-then-not-is_ascii_digit c =
    sym (c.loop-b.invariant.1 ∙ digits_read-stop c.args.s.now c.loop-b.b-index c.loop-b.n (omega arith) (sym c.is_ascii_digit.ensures.value ∙ c.if-not-is_ascii_digit.true))

pub loop-b-preserved : goal.loop-b-preserved
loop-b-preserved c =
    let s = c.args.s.now in
    let i = c.loop-b.b-index in
    let n = c.loop-b.n in
    let was = c.loop-b.invariant.1 in
    let digit = is_digit-range (get_or s i 0) (sym c.is_ascii_digit.ensures.value ∙ c.if-not-is_ascii_digit.false) in
    let at : (k : ℕ) → c.if-n.n ≡ k → digits_read k (drop (i + 1) s) ≡ digits_read c.if-n.n (drop (i + 1) s) = λ k e. ap
    (λ (m : ℕ). digits_read m (drop (i + 1) s)) (sym e) in
    elim c.if-n.branch [
      | then-n w ↦ (omega (arith, digit.0, digit.1, w.from.ensures), was ∙ digits_read-past s i n (omega arith) digit.0 digit.1 ∙ at _ (w.n-is ∙ ap (λ d. n * 10 + d) w.from.ensures))
      | else-n w ↦ (omega arith, was ∙ digits_read-cut s i n (omega arith) digit.0 digit.1 (omega arith) ∙ at _ w.n-is)
    ]

pub returns : goal.returns
returns c = sym (c.loop-b.invariant.1 ∙ digits_read-end c.args.s.now c.loop-b.b-index c.loop-b.n (omega arith) (omega arith))
