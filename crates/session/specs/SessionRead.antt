-- A session's text read to its end: what ends it stands in its lines and in its plan's verdict (document 01, 'Offers and runs': 'A step refused by 1 or 2 ends
-- the program; other refusals go on.'). An auto start outside the range of T, which ends a session too, is not reached by any text.
use Rattle.std.specs.Prelude.{ℕ, zero, suc, List, [], ◌∷◌, length}
use Rattle.lines.specs.Reading.{Reading, read, Reader, next}
use Rattle.rounds.specs.TextVerdict.{settled_head}
use Rattle.session.specs.StepRead.{step_line}

-- the step lines of a text, up to the first that is refused. Each step takes a byte at least, so the text's length is more than the count of its steps.
unfoldable pub steps_within : ℕ → Reader Unit
steps_within zero s n = read tt s n
steps_within (suc left) [] n = read tt [] n
steps_within (suc left) (b ∷ s) n = next (step_line (b ∷ s) n) (λ st. steps_within left)

abbrev pub step_lines : Reader Unit
step_lines s n = steps_within (length s) s n

-- 'The verdict follows; in a session it comes before any step is read.'
abbrev pub session_read : List ℕ → Reading Unit
session_read s = next (settled_head s) (λ p. step_lines)
