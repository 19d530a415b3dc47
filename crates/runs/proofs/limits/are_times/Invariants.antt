-- `are_times`: whether what is left are times; one law a turn, `are_times-more`.
use Rattle.std.proofs.Common.{◌≡◌, ◌-◌}
use Rattle.runs.specs.ValueLimits.{are_times}
use Rattle.runs.proofs.limits.are_times.Given as goal

abbrev pub invariant-loop-e : goal.invariant-loop-e
invariant-loop-e l = are_times l.seen l.first (l.count - l.first) ≡ are_times l.seen l.e (l.count - l.e)
