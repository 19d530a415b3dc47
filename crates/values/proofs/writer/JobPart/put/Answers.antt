-- `put`: four lines in a row, by `stored-keyed`.
use Rattle.std.proofs.Common.{rules, ◌≡◌, to_z, of_z, w64}
use Rattle.text.specs.Bytes.{bytes}
use Rattle.plan.specs.PlanWritten.{jobs_text}
use Rattle.lines.specs.KeyedLaws.{stored-keyed}
use Rattle.values.proofs.writer.JobPart.put.Goals as goal

pub returns-clause-stored : goal.returns-clause-stored
unfolding bytes jobs_text
returns-clause-stored c =
    let j = c.args.self in
    let min : to_z w64 (of_z w64 c.from.result) ≡ c.args.self.min = search rules in
    let max : to_z w64 (of_z w64 c.from-2.result) ≡ c.args.self.max = search rules in
    let release : to_z w64 (of_z w64 c.from-3.result) ≡ c.args.self.release = search rules in
    let deadline : to_z w64 (of_z w64 c.from-4.result) ≡ c.args.self.deadline = search rules in
    stored-keyed (bytes "min=") j.min (rw min at c.put_line-second.ensures.stored)
    (stored-keyed (bytes "max=") j.max (rw max at c.put_line-third.ensures.stored)
    (stored-keyed (bytes "release=") j.release (rw release at c.put_line-fourth.ensures.stored) (rw deadline at c.put_line.ensures.stored)))
