-- `read_session`: the refusal of the plan or of its verdict, by `refused-read`, or what its step lines came to, by `settled-ends`.
use Rattle.plan.specs.ReadAtLaws.{passed_on}
use Rattle.session.specs.SettledLaws.{refused-read, settled-ends}
use Rattle.session.proofs.refused.read_session.Goals as goal

pub returns-in_err-session : goal.returns-in_err-session
returns-in_err-session c =
    rw (passed_on c.from_residual.ensures.1) (refused-read c.args.text.now _ c.in_err-session.ensures)

pub returns : goal.returns
returns c = settled-ends c.in_ok-session.ensures c.read_steps.result c.read_steps.ensures
