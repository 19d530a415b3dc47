-- `put_turn`: a key and three numbers in a row, by `turn_text-stored`; the job has one digit.
use mathlib.Core.List.{[], ◌∷◌}
use native.Mathlib.Omega.{arith}
use lib.ListN.{length-append}
use Rattle.std.proofs.Common.{pos, ap, length}
use Rattle.text.specs.Lines.{comma}
use Rattle.text.specs.Numbers.{decimal}
use Rattle.text.specs.NumberLaws.{decimal-pos}
use Rattle.text.specs.DigitLaws.{digits-length-one}
use Rattle.session.specs.AnswerTextLaws.{turn_text-stored}
use Rattle.session.proofs.print.put_turn.Goals as goal

pub returns-clause-stored : goal.returns-clause-stored
returns-clause-stored c =
    let a = c.args in
    turn_text-stored a.key.now a.j a.i a.t.0 c.put_bytes-window.ensures c.put_ended-job.ensures.stored c.put_ended-time.ensures.stored c.put_time.ensures.stored

pub returns-clause-upper_bound : goal.returns-clause-upper_bound
returns-clause-upper_bound c =
    let i = c.args.i in
    omega (arith, length-append (decimal (pos i)) (comma ∷ []), ap length (decimal-pos i), digits-length-one i (omega arith))
