-- A slice that the caller lends (document 01, 'Offers and runs': 'Bytes past that length keep their values, and with -12 all bytes do').
use Rattle.std.specs.Prelude.{ℕ, zero, suc, ◌+◌, ◌/◌, ◌%◌, ◌≡◌, Bool, cond, List, [], ◌∷◌, ◌++◌, leb, length, drop, set}
use Rattle.text.specs.Numbers.{zero_digit}

-- whether a text has room in a lent slice
abbrev pub has_room : List ℕ → List ℕ → Bool
has_room s out = leb (length s) (length out)

-- what the slice holds once the text was written: the text and the bytes past it, or all bytes as they were
unfoldable pub written : List ℕ → List ℕ → List ℕ
written s out = cond (has_room s out) (s ++ drop (length s) out) out

-- while it is written: the bytes of a text set one after the other from a place on; those that have no room are left out
unfoldable pub put : List ℕ → ℕ → List ℕ → List ℕ
put out at [] = out
put out at (b ∷ s) = put (set out at b) (suc at) s

-- the last k digits of n, which are written from the last one on; where n has fewer, with zeros before them
unfoldable pub last_digits : ℕ → ℕ → List ℕ
last_digits zero n = []
last_digits (suc k) n = last_digits k (n / 10) ++ ((zero_digit + n % 10) ∷ [])

-- what a writer of s does to a slice and a place in it: the place moves after s, whether or not s had room
pub record Stored (out : List ℕ) (at : ℕ) (s : List ℕ) (out' : List ℕ) (at' : ℕ) : Type 0 where
  pub place : at' ≡ at + length s
  pub slice : out' ≡ put out at s
