-- The faulty line is a part of the text that was read. What a reading leaves, or refuses from its faulty line on, is the text from some place on (`Tail`): so
-- it is of a line (`line-tail`) and of one reading after another (`next-tail`). So the place which a reader answers is where the faulty line begins
-- (`tail-place`); past the text's end there is none (`before-past`, `end_empty`). What is reported from an answer and its place is what is reported
-- from the reading, where that is refused there (`told-refused`) and where it is not refused (`told_none`). A fault that is handed back with its line is what is reported of the
-- reading that is refused there (`part-refused`); what is reported has the reading's number, value and faulty line (`reported-refused`, `reported_none`).
use Rattle.std.specs.Prelude.{◌≡◌, refl, cond, List, [], ◌++◌, ℕ, ◌+◌, ◌-◌, ◌<◌, length, take, drop, Result, Ok, Err}
use Rattle.std.proofs.Common.{sym, ◌∙◌, append_assoc, append-nil, arith, length-append, take-append-drop, drop_of_length-le}
use Rattle.std.proofs.Math.Path.{ap}
use Rattle.std.proofs.Math.Seq.{drop-append_seam}
use Rattle.text.specs.Lines.{LF, before, has, len_to}
use Rattle.lines.specs.declared.Fault.{Fault}
use Rattle.lines.specs.declared.Fault.TheVariants as fault
use Rattle.lines.specs.declared.Refusal.{Refusal}
use Rattle.lines.specs.Reading.{Reading, read, refused, Reader, next, lined, line, refused_number, refused_value, faulty_part}
use Rattle.whole.specs.Clash.{clash}
use Rattle.lines.specs.declared.FaultyLine.{FaultyLine}
use Rattle.lines.specs.declared.FaultyPart.{FaultyPart}
use Rattle.lines.specs.Refusals.{number, value}
use Rattle.lines.specs.ReadAt.{faulty_in}
use Rattle.lines.specs.Answers.{answer_number, answer_value, part_at, RefusalReport, reported, part_told}

-- ---- a tail of a text

pub record Tail (s t : List ℕ) : Type 0 where
  pub head : List ℕ
  pub is : s ≡ head ++ t

pub tail-self : (s : List ℕ) → Tail s s
tail-self s = record { head = []; is = refl }

pub tail_none : (s : List ℕ) → Tail s []
tail_none s = record { head = s; is = sym (append-nil s) }

tail-drop : (k : ℕ) (s : List ℕ) → Tail s (drop k s)
tail-drop k s = record { head = take k s; is = sym (take-append-drop k s) }

tail_more : {s t u : List ℕ} → Tail s t → Tail t u → Tail s u
tail_more {u = u} p q = record { head = p.head ++ q.head; is = p.is ∙ ap (λ (x : List ℕ). p.head ++ x) q.is ∙ sym (append_assoc p.head q.head u) }

-- the place of a tail follows from how much of the text is left there
pub tail-place : {s t : List ℕ} → Tail s t → drop (length s - length t) s ≡ t
tail-place {s} {t} p =
    let k : length s - length t ≡ length p.head = omega (arith, ap length p.is, length-append p.head t) in
    ap (λ (x : ℕ). drop x s) k ∙ ap (drop (length p.head)) p.is ∙ drop-append_seam p.head t

-- ---- what a reading leaves

abbrev pub leaves : {A : Type 0} → Reading A → List ℕ
leaves (read a s n) = s
leaves (refused x s) = s

lined-tail : {A : Type 0} (v : Result A Fault) (s : List ℕ) (n : ℕ) → Tail s (leaves (lined v s n))
unfolding lined
lined-tail (Ok a) s n = tail-drop (len_to LF s + 1) s
lined-tail (Err f) s n = tail-self s

pub line-tail : {A : Type 0} (f : List ℕ → Result A Fault) (s : List ℕ) (n : ℕ) → Tail s (leaves (line f s n))
unfolding line
line-tail f s n = lined-tail (cond (has LF s) (f (before LF s)) (Err fault.Form)) s n

pub next-tail : {A B : Type 0} (m : Reading A) (f : A → Reader B) (s : List ℕ) → Tail s (leaves m) → ((a : A) (t : List ℕ) (n : ℕ) → Tail t (leaves (f a t n)))
    → Tail s (leaves (next m f))
unfolding next
next-tail (read a t n) f s p q = tail_more p (q a t n)
next-tail (refused x t) f s p q = p

-- ---- what is reported from a refusal

-- past a text's end there is nothing
pub before-past : (s : List ℕ) (at : ℕ) → length s < at → before LF (drop at s) ≡ []
unfolding len_to
before-past s at h = rw (drop_of_length-le s {i = at} (omega arith))

-- an answer, and the place in the text s where its faulty line begins
module _ {A : Type 0} (s : List ℕ) (a : Result Unit Refusal) (at : ℕ) where
  pub told-refused : (x : Refusal) {t : List ℕ} → a ≡ Err x → drop at s ≡ t
      → RefusalReport {A = A} (refused x t) (part_at s at a) (answer_number a) (answer_value a)
  unfolding faulty_part
  told-refused x e d = record { part-is = ap (part_at s at) e ∙ ap (before LF) d; number_is = ap answer_number e; value-is = ap answer_value e }

  pub told_none : (b : A) (t : List ℕ) (k : ℕ) → a ≡ Ok tt → RefusalReport (read b t k) (part_at s at a) (answer_number a) (answer_value a)
  unfolding faulty_part
  told_none b t k e = record { part-is = ap (part_at s at) e; number_is = ap answer_number e; value-is = ap answer_value e }

-- what is reported of a reading that is refused at a fault's line
pub part-refused : {A : Type 0} (s : List ℕ) (f : FaultyLine) (p : FaultyPart) {m : Reading A} → p.refusal ≡ f.refusal → p.line.now ≡ before LF (drop f.at s)
    → m ≡ faulty_in s f → part_told (Err p) ≡ reported m
part-refused s f p a b e = ap (λ x. Err (x, p.line.now)) a ∙ ap (λ x. Err (f.refusal, x)) b ∙ sym (ap reported e)

-- the number, the value and the faulty line of what is reported
module _ {A : Type 0} (m : Reading A) where
  pub reported-refused : {r : Refusal} {l : List ℕ} → Err (r, l) ≡ reported m → (number r ≡ refused_number m) × (value r ≡ refused_value m) × (l ≡ faulty_part m)
  unfolding faulty_part
  reported-refused {r} {l} e = of m e
    where
      of : (m : Reading A) → Err (r, l) ≡ reported m → (number r ≡ refused_number m) × (value r ≡ refused_value m) × (l ≡ faulty_part m)
      of (read a s n) e = clash (cc)
      of (refused x s) e =
          let same : ◌≡◌ {A = Refusal × List ℕ} (r, l) (x, before LF s) = cc in
          (ap (λ (p : Refusal × List ℕ). number p.0) same, ap (λ (p : Refusal × List ℕ). value p.0) same, ap (λ (p : Refusal × List ℕ). p.1) same)

  pub reported_none : Ok tt ≡ reported m → (0 ≡ refused_number m) × (0 ≡ refused_value m) × ([] ≡ faulty_part m)
  unfolding faulty_part
  reported_none e = of m e
    where
      of : (m : Reading A) → Ok tt ≡ reported m → (0 ≡ refused_number m) × (0 ≡ refused_value m) × ([] ≡ faulty_part m)
      of (read a s n) e = (refl, refl, refl)
      of (refused x s) e = clash (cc)

-- a refusal that has no faulty line is reported at the text's end
pub end_empty : (s : List ℕ) → drop (length s) s ≡ []
end_empty s = drop_of_length-le s {i = length s} (omega arith)
