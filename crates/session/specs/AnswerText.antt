-- Answers, printed (document 01, 'Offers and runs': 'Answers: `offer=a,b`, `started=j,i,T`, `final=j,i,T` (window, job, time) or
-- `refused=N,D`').
use Rattle.std.specs.Prelude.{ℕ, ◌+◌, ◌*◌, Bool, false, List, [], ◌∷◌, ◌++◌, ℤ}
use Rattle.text.specs.Bytes.{bytes}
use Rattle.text.specs.Lines.{LF, comma}
use Rattle.text.specs.Numbers.{decimal, digits}
use Rattle.lines.specs.Refusals.{refused_line, ends}
use Rattle.runs.specs.declared.Offer.{Offer}
use Rattle.runs.specs.declared.Answer.{Answer}
use Rattle.runs.specs.declared.Answer.TheVariants.{Offered, Started, Final, Refused}

-- 'window, job, time'
abbrev pub turn_text : ℕ → ℕ → ℤ → List ℕ
turn_text j i t = digits j ++ (comma ∷ (digits i ++ (comma ∷ (decimal t ++ (LF ∷ [])))))

-- an offer's two ends
abbrev pub offer_line : Offer → List ℕ
offer_line o = bytes "offer=" ++ (decimal o.from.0 ++ (comma ∷ (decimal o.to.0 ++ (LF ∷ []))))

unfoldable pub answer_line : Answer → List ℕ
answer_line (Offered o) = offer_line o
answer_line (Started j i t) = bytes "started=" ++ turn_text j i t.0
answer_line (Final j i t) = bytes "final=" ++ turn_text j i t.0
answer_line (Refused x) = refused_line x

-- a time has no more bytes, with the byte after it
abbrev pub longest_time : ℕ
longest_time = 21

-- nor have a window, a job of one digit and a time
abbrev pub longest_turn : ℕ
longest_turn = 2 * longest_time + 2

-- no answer line has more bytes: seven for each of the eight that a step has at least
abbrev pub longest_answer : ℕ
longest_answer = 56

-- the job of `started=j,i,T` and `final=j,i,T`; 0 where none is named
abbrev pub answer_job : Answer → ℕ
answer_job (Offered o) = 0
answer_job (Started j i t) = i
answer_job (Final j i t) = i
answer_job (Refused x) = 0

-- 'A step refused by 1 or 2 ends the program; other refusals go on.'
unfoldable pub ends_session : Answer → Bool
ends_session (Offered o) = false
ends_session (Started j i t) = false
ends_session (Final j i t) = false
ends_session (Refused x) = ends x
