-- `answer_value`: a plan that is judged good is decided (`value-text`), and one that is refused has its line (`refused-text`).
use Rattle.std.proofs.Common.{◌∙◌, refl, arith}
use Rattle.lines.specs.WrittenLaws.{wrote_as}
use Rattle.calendars.specs.DecisionsLaws.{text-of-decision}
use Rattle.values.specs.ValueLaws.{value-text, refused-text}
use Rattle.values.proofs.value.answer_value.Goals as goal

pub decide-requires : goal.decide-requires
decide-requires c = c.in-Ok.ensures.accepted refl

pub write_decision-requires : goal.write_decision-requires
write_decision-requires c = (c.in-Ok.ensures.accepted refl).jobs-most

pub returns-in-Ok : goal.returns-in-Ok
returns-in-Ok c =
    let p = c.args.p in
    let w = c.write_decision.ensures in
    let told = wrote_as c.args.out.now (omega arith) (text-of-decision p c.decide.ensures ∙ value-text p c.in-Ok.ensures.value)
    (w.value, (w.out_after, w.c_len_bound)) in
    record { value = told.0; out_after = told.1.0; p_len_bound = told.1.1 }

pub returns-in-Err : goal.returns-in-Err
returns-in-Err c =
    let w = c.write_refused.ensures in
    let told = wrote_as c.args.out.now (omega arith) (refused-text c.args.p c.in-Err.ensures.value) (w.value, (w.out_after, w.x_len_bound)) in
    record { value = told.0; out_after = told.1.0; p_len_bound = told.1.1 }
