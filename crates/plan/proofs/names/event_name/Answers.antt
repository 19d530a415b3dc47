-- `event_name`: three bytes are a name by their letter, kind and digit (`event_name-three`), and nothing else is one (`event_name-other`).
use Rattle.std.proofs.Common.{arith}
use Rattle.plan.specs.EventNameLaws.{event_name-three, event_name-other}
use Rattle.plan.proofs.names.event_name.Goals as goal

pub returns-in_default : goal.returns-in_default
returns-in_default c = rw (event_name-other c.args.s.now (λ e. omega (arith, c.in_default.len_below)))

pub returns-in_default-2 : goal.returns-in_default-2
returns-in_default-2 c = rw (event_name-other c.args.s.now (λ e. omega (arith, c.in_default.len_at_least)))

pub returns-in_err-letter_of : goal.returns-in_err-letter_of
returns-in_err-letter_of c =
    rw (c.from_residual.ensures, event_name-three c.args.s.now (omega arith), ← c.in_err-letter_of.ensures)

pub returns-in_err-kind_of : goal.returns-in_err-kind_of
returns-in_err-kind_of c =
    rw (c.from_residual-in_err-kind_of.ensures, event_name-three c.args.s.now (omega arith), ← c.in_ok-letter_of.ensures, ← c.in_err-kind_of.ensures)

pub returns-in_err-job_of : goal.returns-in_err-job_of
returns-in_err-job_of c = rw (
  c.from_residual-in_err-job_of.ensures,
  event_name-three c.args.s.now (omega arith),
  ← c.in_ok-letter_of.ensures,
  ← c.in_ok-kind_of.ensures,
  ← c.in_err-job_of.ensures,
)

pub returns : goal.returns
returns c =
    rw (event_name-three c.args.s.now (omega arith), ← c.in_ok-letter_of.ensures, ← c.in_ok-kind_of.ensures, ← c.in_ok-job_of.ensures)
