-- What a writer into a lent slice answers and leaves (document 01, 'Numbers of refusal': '12 | the text to be written is longer than the lent buffer';
-- 'Offers and runs': 'Bytes past that length keep their values').
use Rattle.std.specs.Prelude.{ℕ, cond, List, ◌++◌, length, drop, Result, Ok, Err}
use Rattle.text.specs.Lent.{has_room}
use Rattle.lines.specs.declared.Refusal.{Refusal}
use Rattle.lines.specs.declared.Refusal.TheVariants.{NoRoom}

unfoldable pub written_as : List ℕ → List ℕ → Result ℕ Refusal
written_as t out = cond (has_room t out) (Ok (length t)) (Err NoRoom)

-- what the slice holds once a text that has room was written: the text, and the bytes past it as they were
abbrev pub written_whole : List ℕ → List ℕ → List ℕ
written_whole t out = t ++ drop (length t) out
