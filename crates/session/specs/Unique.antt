-- No two answers meet the promise of a public operation: each promise is an equation, and `only` of the crate `text` says the rest.
use Rattle.std.specs.Prelude.{◌≡◌, List, ℕ, length, take, Result}
use Rattle.text.specs.Unique.{only}
use Rattle.text.specs.Lent.{written}
use Rattle.lines.specs.declared.Refusal.{Refusal}
use Rattle.lines.specs.Written.{written_whole}
use Rattle.lines.specs.Unique.{whole_unique}
use Rattle.lines.specs.declared.FaultyPart.{FaultyPart}
use Rattle.lines.specs.Reading.{refused_number, refused_value, faulty_part}
use Rattle.lines.specs.Answers.{reported, part_told}
use Rattle.session.specs.SessionRead.{session_read}
use Rattle.session.specs.Sessions.{dispatch_output, session_answer}

pub answer-unique : (s out : List ℕ) {r q : Result ℕ Refusal} → r ≡ session_answer s out → q ≡ session_answer s out → r ≡ q
answer-unique s out = only

pub answer-bytes-unique : (s out : List ℕ) {o p : List ℕ} → o ≡ written (dispatch_output s) out → p ≡ written (dispatch_output s) out → o ≡ p
answer-bytes-unique s out = only

pub answer-read-unique : (s : List ℕ) (n : ℕ) (out : List ℕ) {r q : ℕ} {o p : List ℕ}
    → (r ≡ length (dispatch_output (take n s))) × (o ≡ written_whole (dispatch_output (take n s)) out)
    → (q ≡ length (dispatch_output (take n s))) × (p ≡ written_whole (dispatch_output (take n s)) out)
    → (r ≡ q) × (o ≡ p)
answer-read-unique s n out = whole_unique (dispatch_output (take n s)) out

pub refused-in-session-unique : (s : List ℕ) (r q : Result Unit FaultyPart) → part_told r ≡ reported (session_read s) → part_told q ≡ reported (session_read s)
    → part_told r ≡ part_told q
refused-in-session-unique s r q = only

-- and of its parts: the bytes of the line, and the two numbers
module _ (s : List ℕ) where
  pub refused-in-session-part-unique : {r q : List ℕ} → r ≡ faulty_part (session_read s) → q ≡ faulty_part (session_read s) → r ≡ q
  refused-in-session-part-unique = only

  pub refused-in-session-number-unique : {n m : ℕ} → n ≡ refused_number (session_read s) → m ≡ refused_number (session_read s) → n ≡ m
  refused-in-session-number-unique = only

  pub refused-in-session-value-unique : {n m : ℕ} → n ≡ refused_value (session_read s) → m ≡ refused_value (session_read s) → n ≡ m
  refused-in-session-value-unique = only
