-- `is_text`: what follows the text in l is what follows the rest of the text in the rest of l.
use mathlib.Core.Path.{◌≡◌}
use lib.ListN.{drop}
use Rattle.text.specs.Lines.{after_key}
use Rattle.session.proofs.read.is_text.Given as goal

abbrev pub invariant-loop-k : goal.invariant-loop-k
invariant-loop-k l = after_key l.t l.l ≡ after_key (drop l.k l.t) (drop l.k l.l)
