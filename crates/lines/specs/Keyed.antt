-- A line that is a key and a number, written (document 01, 'Plan text': 'Key=value lines').
use Rattle.std.specs.Prelude.{ℕ, List, ◌∷◌, ◌++◌, ℤ}
use Rattle.text.specs.Lines.{LF}
use Rattle.text.specs.Numbers.{decimal}

-- with the text that follows it
abbrev pub keyed : List ℕ → ℤ → List ℕ → List ℕ
keyed key z s = key ++ (decimal z ++ (LF ∷ s))
