-- `bounds::times::job_at` meets its contract: the two cases of `job_at`.
use Rattle.bounds.specs.EventsLaws.{job_at-this, job_at-next}
use Rattle.bounds.proofs.times.job_at.Goals as goal

pub returns-then-k-p : goal.returns-then-k-p
returns-then-k-p c = job_at-this c.args.p c.args.k c.if-k-p.true

pub returns : goal.returns
returns c = job_at-next c.args.p c.args.k c.if-k-p.false
