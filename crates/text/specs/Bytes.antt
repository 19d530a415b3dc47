-- A quoted text as the list of its bytes, so that the definitions can show what stands in a line.
use Rattle.std.specs.Prelude.{ℕ, List, [], ◌∷◌}
use Prim.Native.Char.{code}
use Prim.Native.String.{String}

-- every quoted text here is ASCII, where a character's code is its byte
unfoldable pub bytes : String → List ℕ
bytes String.[] = []
bytes (String.◌∷◌ c s) = code c ∷ bytes s
