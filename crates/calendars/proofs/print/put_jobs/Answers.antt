use Prim.Native.Nat.{◌-◌}
use Rattle.std.proofs.Common.{◌≡◌, arith}
use Rattle.calendars.specs.CalendarText.{job_texts}
use Rattle.calendars.specs.CalendarTextLaws.{left-job, left-jobs}
use Rattle.text.specs.LeftLaws.{left-whole}
use Rattle.calendars.proofs.print.put_jobs.Goals as goal

pub loop-i-init : goal.loop-i-init
loop-i-init c =
    let a = c.args in
    let all : a.jobs - 0 ≡ a.jobs = omega arith in
    (omega arith, rw all (left-whole a.out.now a.at (job_texts a.jobs a.c.now 0 a.jobs)))

pub loop-i-preserved : goal.loop-i-preserved
loop-i-preserved c =
    let l = c.loop-i in
    let a = c.args in
    (omega arith, left-job a.jobs a.c.now l.i a.jobs l.invariant.1 c.loop-i-test.true c.put_job-end.ensures.stored)

pub returns-clause-stored : goal.returns-clause-stored
returns-clause-stored c =
    let l = c.loop-i in
    let a = c.args in
    left-jobs a.jobs a.c.now l.i a.jobs l.invariant.1 c.loop-i-test.false
