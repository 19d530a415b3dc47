-- `refused_in_session`: nothing is reported of a session that was read, by `ends-reported`, and else its refusal, by `part-refused`.
use Rattle.lines.specs.PartLaws.{part-refused}
use Rattle.session.specs.SettledLaws.{ends-reported}
use Rattle.session.specs.SessionRead.{session_read}
use Rattle.session.proofs.refused.refused_in_session.Goals as goal

pub returns-in-Ok : goal.returns-in-Ok
returns-in-Ok c = ends-reported c.args.text.now (session_read c.args.text.now) c.in-Ok.ensures

pub returns-in-Err : goal.returns-in-Err
returns-in-Err c =
    let p = c.faulty_part.ensures in part-refused c.args.text.now c.in-Err.fault c.faulty_part.result p.refusal p.line c.in-Err.ensures
