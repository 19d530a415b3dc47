-- `is_side` meets its contract. The invariant: whether something is wrong is what is wrong from event e on. Rests on `is_side-past`, `is_side-walk` and the
-- laws of `any_from`.
use Rattle.std.proofs.Common.{◌≡◌, ◌-◌}
use Rattle.events.specs.Bits.{bits_of}
use Rattle.runs.specs.LimitLaws.{any_from, out_at}
use Rattle.runs.proofs.limits.is_side.Given as goal

abbrev pub invariant-loop-e : goal.invariant-loop-e
invariant-loop-e l = let out = out_at l.i (bits_of l.set) l.cs in any_from out 0 l.count ≡ any_from out l.e (l.count - l.e)
