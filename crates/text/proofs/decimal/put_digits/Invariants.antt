-- `put_digits`: what is stored and the digits left, put before it, are all the digits. One law a turn: `put-last_digits`.
use Rattle.std.proofs.Common.{◌≡◌, ◌-◌}
use Rattle.text.specs.Numbers.{digits}
use Rattle.text.specs.Lent.{put, last_digits}
use Rattle.text.proofs.decimal.put_digits.Given as goal

abbrev pub invariant-loop-place : goal.invariant-loop-place
invariant-loop-place l = put l.initial.out l.at (digits l.n) ≡ put l.out l.at (last_digits (l.place - l.at) l.left)
