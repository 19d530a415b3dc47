-- The export for C (document 01, 'Offers and runs': 'it gets the length written, or -12 when the slice is too short. Bytes past that length
-- keep their values, and with -12 all bytes do').
use Rattle.std.specs.Prelude.{ℕ, cond, List, ℤ, pos, neg_ℤ, length}
use Rattle.text.specs.Lent.{has_room, written}
use Rattle.lines.specs.declared.Refusal.TheVariants.{NoRoom}
use Rattle.lines.specs.Refusals.{number}
use Rattle.session.specs.Sessions.{dispatch_output}

-- what the entry answers to a session text and a lent slice
unfoldable pub entry_answer : List ℕ → List ℕ → ℤ
entry_answer s out = let t = dispatch_output s in cond (has_room t out) (pos (length t)) (neg_ℤ (pos (number NoRoom)))

-- every byte of the slice afterwards
abbrev pub entry_bytes : List ℕ → List ℕ → List ℕ
entry_bytes s out = written (dispatch_output s) out
