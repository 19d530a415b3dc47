-- Lines and their parts (document 01, 'Plan text': 'Key=value lines in this order, each ended by one LF').
use Rattle.std.specs.Prelude.{ℕ, suc, ◌+◌, Bool, true, false, cond, List, [], ◌∷◌, eqb, ltb, length, take, drop}
use Rattle.std.proofs.Math.Option.{Option, none, some}

-- the bytes with a meaning of their own
abbrev pub LF : ℕ
LF = 10

abbrev pub comma : ℕ
comma = 44

-- how many bytes stand before the first b; all of them, where there is none
unfoldable pub len_to : ℕ → List ℕ → ℕ
len_to b [] = 0
len_to b (a ∷ s) = let more = suc (len_to b s) in cond (eqb a b) 0 more

-- the part before the first b, whether there is one, and what follows it
abbrev pub before : ℕ → List ℕ → List ℕ
before b s = take (len_to b s) s

abbrev pub has : ℕ → List ℕ → Bool
has b s = ltb (len_to b s) (length s)

abbrev pub after : ℕ → List ℕ → List ℕ
after b s = drop (len_to b s + 1) s

-- 'each ended by one LF': the place after the LF of a line of i bytes, which begins at a place of a text of n bytes; past the text's end, where the LF
-- would stand there
abbrev pub behind_line : ℕ → ℕ → ℕ → ℕ
behind_line n at i = cond (ltb n (at + i)) (n + 1) (at + i + 1)

-- where the line ends that begins at a place, its LF included; past the text's end, where it is not ended
abbrev pub next_line : List ℕ → ℕ → ℕ
next_line s at = behind_line (length s) at (len_to LF (drop at s))

-- what follows a key; nothing, where the line does not begin with it
unfoldable pub after_key : List ℕ → List ℕ → Option (List ℕ)
after_key [] s = some s
after_key (k ∷ key) [] = none
after_key (k ∷ key) (b ∷ s) = let more = after_key key s in cond (eqb b k) more none

abbrev pub is_some : {A : Type 0} → Option A → Bool
is_some none = false
is_some (some a) = true

-- whether a line begins with a key
abbrev pub has_key : List ℕ → List ℕ → Bool
has_key key s = is_some (after_key key s)
