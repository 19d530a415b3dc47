-- `put_plan`: the first four lines, the jobs, the count of the bounds and the bounds in a row, by `stored-keyed` and `stored-jobs`.
use Rattle.std.proofs.Common.{rules, ◌≡◌, to_z, of_z, w64, pos, min, length}
use Rattle.text.specs.Bytes.{bytes}
use Rattle.plan.specs.PlanWritten.{plan_text, jobs_of}
use Rattle.lines.specs.KeyedLaws.{stored-keyed}
use Rattle.values.specs.PlanWrittenLaws.{stored-jobs, stored-plan-jobs, stored-plan-bounds}
use Rattle.values.proofs.Told.{plan-fits}
use Rattle.values.proofs.writer.put_plan.Goals as goal

pub returns-clause-stored : goal.returns-clause-stored
unfolding bytes plan_text
returns-clause-stored c =
    let p = c.args.p in
    let placed = (plan-fits p _ c.well_formed.1.1.0.1.1).placed in
    let jobs : c.min.result ≡ min c.args.p.jobs (length c.args.p.job) = rw placed.job-places c.min.ensures in
    let bounds : c.min-2.result ≡ min c.args.p.bounds (length c.args.p.bound) = rw placed.bound-places c.min-2.ensures in
    let window : to_z w64 (of_z w64 c.from.result) ≡ c.args.p.window = search rules in
    stored-keyed (bytes "window=") p.window (rw window at c.put_line-second.ensures.stored)
    (stored-keyed (bytes "rounds=") (pos p.rounds) c.put_line-third.ensures.stored
    (stored-keyed (bytes "last=") (pos p.last) c.put_line-fourth.ensures.stored
    (stored-keyed (bytes "jobs=") (pos p.jobs) c.put_line-fifth.ensures.stored
    (stored-jobs (jobs_of p) (stored-plan-jobs p jobs c.put_parts-after_jobs.ensures.stored)
    (stored-keyed (bytes "bounds=") (pos p.bounds) c.put_line-first_bound.ensures.stored
    (stored-plan-bounds p bounds c.put_parts.ensures.stored))))))
