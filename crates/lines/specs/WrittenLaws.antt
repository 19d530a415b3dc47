-- The laws of a whole text in a lent slice: one that has room is written, with its length as the answer (`stored-whole`); one that has none is refused by 12
-- and leaves every byte (`stored-none`). A text that was measured first, on a part without places, which leaves every byte too, is refused or written by its
-- measure (`measured-none`, `measured-whole`); and it is no longer than where its writer ended (`wrote-within`). A text is stored, and written, as any text
-- that equals it (`stored-as`, `wrote_as`). A length is answered where there was room (`written-room`), and counts bytes of
-- its slice (`written-counts`).
-- Where the slice has room for the text, whatever the text is: the writer answers its length and leaves the text and the bytes past it (`answered-whole`), and
-- it does not refuse (`answered-never`). A text that equals it was written so too (`whole-as`): what is printed for the first bytes of what was read is what is
-- printed for all of it, where these are all (`whole-cut`).

use Rattle.std.specs.Prelude.{ℕ, pos, ◌≤◌, ◌<◌, ◌≡◌, refl, Bool, true, false, min, take, drop, Result, Ok, Err, IsOk, is_ok}
use Rattle.std.proofs.Math.Path.{sym, ap}
use Rattle.std.proofs.Common.{subst, ◌∙◌, arith, length-take, take_all, le-leb, leb-true}
use Rattle.std.proofs.Math.Bool.{cond}
use mathlib.Core.List.{List, [], ◌∷◌, ◌++◌, append_assoc}
use Rattle.std.proofs.Math.ListN.{length, length-append}
use Rattle.std.proofs.lemmas.Bool.{lt-leb}
use Rattle.std.proofs.lemmas.List.{take_min}
use Rattle.whole.specs.Clash.{clash}
use Rattle.text.specs.Lent.{has_room, written, Stored}
use Rattle.text.specs.LentLaws.{put-length, put_written, stored-append}
use Rattle.text.specs.Bytes.{bytes}
use Rattle.text.specs.Lines.{LF, comma}
use Rattle.text.specs.Numbers.{digits, decimal}
use Rattle.text.specs.NumberLaws.{decimal-pos}
use Rattle.lines.specs.declared.Refusal.{Refusal}
use Rattle.lines.specs.declared.Refusal.TheVariants.{NoRoom}
use Rattle.lines.specs.Refusals.{number, value, refused_line}
use Rattle.lines.specs.Written.{written_as, written_whole}

-- what a writer of a whole text answers and leaves
pub record WroteAll (t out : List ℕ) (r : Result ℕ Refusal) (out' : List ℕ) : Type 0 where
  pub answer : r ≡ written_as t out
  pub bytes : out' ≡ written t out

pub stored-as : {out t u out' : List ℕ} {at n : ℕ} → t ≡ u → Stored out at t out' n → Stored out at u out' n
stored-as {out} {out' = out'} {at = at} {n = n} e p = subst (λ (s : List ℕ). Stored out at s out' n) e p

stored-from-0 : {t out out' : List ℕ} {n : ℕ} → Stored out 0 t out' n → n ≡ length t
stored-from-0 {t} p = omega (arith, p.place)

pub stored-whole : {t out out' : List ℕ} {n : ℕ} → Stored out 0 t out' n → n ≤ length out → WroteAll t out (Ok n) out'
unfolding written_as
stored-whole {t} {out} {out'} {n} p h =
    let e = stored-from-0 p in
    let room : length t ≤ length out = omega arith in
    record {
      answer = ap Ok e ∙ sym (ap (λ (b : Bool). cond b (Ok (length t)) (Err NoRoom)) (le-leb (length t) (length out) room));
      bytes = p.slice ∙ put_written out t room;
    }

stored-none : {t out o o' : List ℕ} {n : ℕ} → Stored o 0 t o' n → length out < n → WroteAll t out (Err NoRoom) out
unfolding written_as written
stored-none {t} {out} p h =
    let e = stored-from-0 p in
    let none : length out < length t = omega arith in
    record { answer = rw (lt-leb (length t) (length out) none); bytes = rw (lt-leb (length t) (length out) none) }

module _ {t out o o' : List ℕ} {n : ℕ} (p : Stored o 0 t o' n) (h : length o ≡ 0) where
  part-keeps : o' ++ out ≡ out
  part-keeps = of o' (ap length p.slice ∙ put-length o 0 t ∙ h)
    where
      of : (s : List ℕ) → length s ≡ 0 → s ++ out ≡ out
      of [] e = refl
      of (b ∷ s) e = absurd (omega arith)

  pub measured-none : length (o' ++ out) < n → WroteAll t out (Err NoRoom) (o' ++ out)
  measured-none g = rw part-keeps (stored-none p (rw part-keeps at g))

  -- and where it is written after that, into the slice u
  pub measured-whole : {u out' : List ℕ} {m : ℕ} → u ≡ o' ++ out → n ≤ length (o' ++ out) → Stored u 0 t out' m → WroteAll t out (Ok m) out'
  measured-whole {u} {out'} {m} e g q =
      let r : Stored out 0 t out' m = rw (e ∙ part-keeps) at q in
      let l : n ≤ length out = rw part-keeps at g in
      stored-whole r (omega (arith, stored-from-0 p, stored-from-0 r))

-- a text that was not measured, since every such text has room
pub unmeasured-whole : {t u out out' : List ℕ} {m k : ℕ} → u ≡ out → length t ≤ k → k ≤ length out → Stored u 0 t out' m → WroteAll t out (Ok m) out'
unmeasured-whole {t} {u} {out} {out'} {m} e h g q =
    let r : Stored out 0 t out' m = rw e at q in
    stored-whole r (omega (arith, stored-from-0 r))

-- and the text is no longer than the place where its writer ended
pub wrote-within : {t out out' o o' : List ℕ} {r : Result ℕ Refusal} {n k : ℕ} → Stored o 0 t o' n → n ≤ k → WroteAll t out r out'
    → (r ≡ written_as t out) × ((out' ≡ written t out) × (length t ≤ k))
wrote-within p h w = (w.answer, (w.bytes, omega (arith, stored-from-0 p)))

-- what was written as one text was written as any text that equals it
pub wrote_as : (out : List ℕ) {t u o : List ℕ} {r : Result ℕ Refusal} {k m : ℕ} → k ≤ m → t ≡ u
    → (r ≡ written_as t out) × ((o ≡ written t out) × (length t ≤ k))
    → (r ≡ written_as u out) × ((o ≡ written u out) × (length u ≤ m))
wrote_as out h e w = (
  w.0 ∙ ap (λ (s : List ℕ). written_as s out) e,
  (w.1.0 ∙ ap (λ (s : List ℕ). written s out) e, omega (arith, w.1.1, ap length e)),
)

-- ---- the length that was answered counts bytes of the slice

-- where a length is answered there was room
pub written-room : (t out : List ℕ) {r : Result ℕ Refusal} {n : ℕ} → r ≡ written_as t out → r ≡ Ok n → length t ≤ length out
unfolding written_as
written-room t out {n = n} e f = of (has_room t out) refl (sym f ∙ e)
  where
    of : (b : Bool) → has_room t out ≡ b → Ok n ≡ cond b (Ok (length t)) (Err NoRoom) → length t ≤ length out
    of true h d = leb-true (length t) (length out) h
    of false h d = clash (cc)

pub written-counts : (t out out' : List ℕ) {r : Result ℕ Refusal} {m : ℕ} → r ≡ written_as t out → length out' ≡ length out → r ≡ Ok m
    → (m ≤ length out') × (m ≡ length (take m out'))
unfolding written_as
written-counts t out out' {r} {m} e k d = of (has_room t out) refl (sym d ∙ e)
  where
    of : (b : Bool) → has_room t out ≡ b → Ok m ≡ cond b (Ok (length t)) (Err NoRoom) → (m ≤ length out') × (m ≡ length (take m out'))
    of true h f =
        let g : m ≡ length t = cc in
        let room : m ≤ length out' = omega (arith, leb-true (length t) (length out) h) in
        (room, omega (arith, length-take m out'))
    of false h f = clash (cc)

-- ---- a text that has room in the slice, whatever it is

module _ (t out : List ℕ) (room : length t ≤ length out) {r : Result ℕ Refusal} (e : r ≡ written_as t out) where
  answered : r ≡ Ok (length t)
  unfolding written_as
  answered = e ∙ ap (λ (b : Bool). cond b (Ok (length t)) (Err NoRoom)) (le-leb (length t) (length out) room)

  pub answered-whole : {out' : List ℕ} {n : ℕ} → out' ≡ written t out → r ≡ Ok n
      → (n ≡ length t) × ((out' ≡ written_whole t out) × (n ≤ length out'))
  unfolding written
  answered-whole {out' = out'} {n = n} d f =
      let g = sym f ∙ answered in
      let is : n ≡ length t = cc in
      let whole : out' ≡ written_whole t out = d ∙ ap (λ (b : Bool). cond b (written_whole t out) out) (le-leb (length t) (length out) room) in
      (is, (whole, omega (arith, ap length whole, length-append t (drop (length t) out))))

  pub answered-ok : IsOk r
  answered-ok = ap is_ok answered

  pub answered-never : {x : Refusal} {A : Type 0} → r ≡ Err x → A
  answered-never f = let g = sym f ∙ answered in clash (cc)

-- what was written as one text was written as any text that equals it
whole-as : (out : List ℕ) {t u o : List ℕ} {n : ℕ} → t ≡ u
    → (n ≡ length t) × ((o ≡ written_whole t out) × (n ≤ length o))
    → (n ≡ length u) × ((o ≡ written_whole u out) × (n ≤ length o))
whole-as out e w = (w.0 ∙ ap length e, (w.1.0 ∙ ap (λ (s : List ℕ). written_whole s out) e, w.1.1))

-- of what was read, all bytes are the first n, where n is no less than their count
pub whole-cut : (printed : List ℕ → List ℕ) (s out : List ℕ) (m : ℕ) {o : List ℕ} {n : ℕ} → length s ≤ m
    → (n ≡ length (printed s)) × ((o ≡ written_whole (printed s) out) × (n ≤ length o))
    → (n ≡ length (printed (take m s))) × ((o ≡ written_whole (printed (take m s)) out) × (n ≤ length o))
whole-cut printed s out m h = whole-as out (ap printed (sym (take_all m s h)))

-- and of a slice's first n bytes, or of all of them where it has fewer
pub whole-min : (printed : List ℕ → List ℕ) (s out : List ℕ) (n : ℕ) {k m : ℕ} {o : List ℕ} → k ≡ min n (length s)
    → (m ≡ length (printed (take k s))) × ((o ≡ written_whole (printed (take k s)) out) × (m ≤ length o))
    → (m ≡ length (printed (take n s))) × ((o ≡ written_whole (printed (take n s)) out) × (m ≤ length o))
whole-min printed s out n {k} e = whole-as out (ap printed (ap (λ (j : ℕ). take j s) e ∙ take_min n s))

-- ---- the line of a refusal, stored part by part

module _ {out out' out'' out''' : List ℕ} {at at' at'' at''' : ℕ} where
  pub refused_line-stored : (x : Refusal) {n d : ℕ} → n ≡ number x → d ≡ value x
      → Stored out at (bytes "refused=") out' at' → Stored out' at' (decimal (pos n) ++ (comma ∷ [])) out'' at'' → Stored out'' at'' (decimal (pos d) ++ (LF ∷ [])) out''' at'''
      → Stored out at (refused_line x) out''' at'''
  unfolding refused_line
  refused_line-stored x {n} {d} a b p q r =
      let e : (digits n ++ (comma ∷ [])) ++ (digits d ++ (LF ∷ [])) ≡ digits n ++ (comma ∷ (digits d ++ (LF ∷ []))) = simp append_assoc in
      rw (← a, ← b) (stored-append p (rw e at (stored-append (rw (decimal-pos n) at q) (rw (decimal-pos d) at r))))
