-- `put_bytes`: what is stored and the bytes left, put after it, are the whole text. One law a turn: `put-past`, `put-end`.
use Rattle.std.proofs.Common.{◌≡◌, ◌+◌, drop}
use Rattle.text.specs.Lent.{put}
use Rattle.text.proofs.write.put_bytes.Given as goal

abbrev pub invariant-loop-i : goal.invariant-loop-i
invariant-loop-i l = put l.initial.out l.at l.s ≡ put l.out (l.at + l.i) (drop l.i l.s)
