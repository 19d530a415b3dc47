-- `read_positive`: the answer is that of the digits left, after the number of those passed. One law a way, of `DigitsReadLaws`.
use Rattle.std.proofs.Common.{◌≡◌, ◌≤◌, drop}
use Rattle.text.specs.DigitsRead.{too_large, digits_read, positive_read}
use Rattle.text.proofs.numbers.read_positive.Given as goal

abbrev pub invariant-loop-b : goal.invariant-loop-b
invariant-loop-b l = (l.n ≤ too_large) × (positive_read l.s ≡ digits_read l.n (drop l.b-index l.s))
