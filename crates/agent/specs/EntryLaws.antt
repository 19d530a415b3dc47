-- The entry answers by what a session answers: its length, which the slice has room for (`entry_length`), or the number of its refusal, which is 12
-- (`entry-refused`).
use Rattle.std.specs.Prelude.{ℕ, ◌≤◌, ◌≡◌, Bool, List, ℤ, length, Result, Ok, Err}
use Rattle.std.proofs.Math.Path.{refl, sym, ap}
use Rattle.std.proofs.Common.{◌∙◌, arith}
use Rattle.std.proofs.Math.Bool.{true, false, cond}
use Rattle.std.proofs.Math.IntN.{pos, neg_ℤ}
use borrow.Author.Tests.{leb-true}
use Rattle.whole.specs.Clash.{clash}
use Rattle.text.specs.Lent.{has_room}
use Rattle.lines.specs.declared.Refusal.{Refusal}
use Rattle.lines.specs.declared.Refusal.TheVariants.{NoRoom}
use Rattle.lines.specs.Refusals.{number}
use Rattle.lines.specs.Written.{written_as}
use Rattle.session.specs.Sessions.{dispatch_output, session_answer}
use Rattle.agent.specs.Entry.{entry_answer}

-- a length that the entry returns
pub record EntryAnswered (s out : List ℕ) (n : ℕ) : Type 0 where
  pub room : n ≤ length out
  pub answer : pos n ≡ entry_answer s out

-- the refusal that it returns
pub record EntryNoRoom (s out : List ℕ) (n : ℕ) : Type 0 where
  pub is : n ≡ number NoRoom
  pub answer : neg_ℤ (pos n) ≡ entry_answer s out

module _ (s out : List ℕ) {r : Result ℕ Refusal} (d : r ≡ session_answer s out) where
  abbrev whole : ℕ
  whole = length (dispatch_output s)

  abbrev by-room : Bool → ℤ
  by-room b = cond b (pos whole) (neg_ℤ (pos (number NoRoom)))

  pub entry_length : (n : ℕ) → r ≡ Ok n → EntryAnswered s out n
  unfolding written_as entry_answer
  entry_length n e = of (has_room (dispatch_output s) out) refl (sym e ∙ d)
    where
      of : (b : Bool) → has_room (dispatch_output s) out ≡ b → Ok n ≡ cond b (Ok whole) (Err NoRoom) → EntryAnswered s out n
      of true h f =
          let is : n ≡ whole = cc in
          let room = leb-true whole (length out) h in
          record { room = omega arith; answer = ap pos is ∙ sym (ap by-room h) }
      of false h f = clash (cc)

  pub entry-refused : (x : Refusal) (n : ℕ) → r ≡ Err x → n ≡ number x → EntryNoRoom s out n
  unfolding written_as entry_answer
  entry-refused x n e q = of (has_room (dispatch_output s) out) refl (sym e ∙ d)
    where
      of : (b : Bool) → has_room (dispatch_output s) out ≡ b → Err x ≡ cond b (Ok whole) (Err NoRoom) → EntryNoRoom s out n
      of true h f = clash (cc)
      of false h f =
          let is : x ≡ NoRoom = cc in
          let no_room : n ≡ number NoRoom = q ∙ ap number is in
          record { is = no_room; answer = ap (λ (n : ℕ). neg_ℤ (pos n)) no_room ∙ sym (ap by-room h) }
