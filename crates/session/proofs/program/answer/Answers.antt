-- `answer`: the answers of a settled session, by `settled-printed`, or the one line of a refusal, by `refused-printed`.
use native.Mathlib.Omega.{arith}
use Rattle.lines.specs.WrittenLaws.{wrote_as}
use Rattle.session.specs.SettledLaws.{settled-printed, refused-printed}
use Rattle.session.proofs.program.answer.Goals as goal

pub returns-in-Ok : goal.returns-in-Ok
returns-in-Ok c =
    let w = c.write.ensures in
    let l = c.in-Ok.session.lines in
    let told = wrote_as c.args.out.now (omega (arith, l.short)) (settled-printed c.in-Ok.ensures) (w.value, (w.out_after, w.bound)) in
    record { value = told.0; out_after = told.1.0; text_len_bound = told.1.1 }

pub returns-in-Err : goal.returns-in-Err
returns-in-Err c =
    let w = c.write_refused.ensures in
    let told = wrote_as c.args.out.now (omega arith) (refused-printed c.args.text.now _ c.in-Err.ensures) (w.value, (w.out_after, w.x_len_bound)) in
    record { value = told.0; out_after = told.1.0; text_len_bound = told.1.1 }
