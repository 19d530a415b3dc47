-- What follows from a reading that ended well: the reading before it ended well (`next-then`), a line had its LF and its value
-- (`line_read`), a number is in its range (`number_line-then`), and so is a count (`count_line-then`). Each `-then` speaks of the first reading and leaves the
-- rest (`Then`).
use Rattle.std.specs.Prelude.{◌≡◌, refl, Bool, true, false, cond, List, ◌∷◌, ◌++◌, ℕ, suc, ◌≤◌, ℤ, pos, negsuc, nat_abs, ◌≤ℤ◌, Result, Ok, Err}
use Rattle.std.proofs.Common.{sym, ◌∙◌, ap, append_assoc}
use Rattle.whole.specs.Clash.{clash}
use Rattle.whole.specs.Rules.{whole}
use Rattle.text.specs.LineLaws.{has_split}
use Rattle.text.specs.NumberLaws.{number_after-value}
use Rattle.text.specs.Lines.{LF, before, has, after}
use Rattle.text.specs.Numbers.{decimal, number_after}
use Rattle.lines.specs.declared.Fault.{Fault}
use Rattle.lines.specs.declared.Fault.TheVariants as fault
use Rattle.text.specs.declared.NumberFault.{NumberFault}
use Rattle.lines.specs.Reading.{Reading, read, refused, Reader, next, lined, line, lined_number, number_line, count_line}
use Rattle.lines.specs.Keyed.{keyed}

-- ---- one reading after another

-- what was read first, what is known of it, and that all was read from there on
pub record Then {A B : Type 0} (P : A → List ℕ → ℕ → Type 0) (f : A → Reader B) (b : B) (t : List ℕ) (k : ℕ) : Type 0 where
  pub got : A
  pub left : List ℕ
  pub line : ℕ
  pub told : P got left line
  pub more : f got left line ≡ read b t k

-- in a proof that goes through the lines as their reader does, each line names what was read there: such a proof imports this as `◌>>=◌`
abbrev pub in_turn : {A B : Type 0} → A → (A → B) → B
in_turn a f = f a

pub next-then : {A B : Type 0} (m : Reading A) (f : A → Reader B) {b : B} {t : List ℕ} {k : ℕ} → next m f ≡ read b t k → Then (λ a r i. m ≡ read a r i) f b t k
unfolding next
next-then (read a s n) f e = record { got = a; left = s; line = n; told = refl; more = e }
next-then (refused r s) f e = clash (cc)

pub next_of : {A B : Type 0} {m : Reading A} (f : A → Reader B) {a : A} {r : List ℕ} {i : ℕ} {x : Reading B} → m ≡ read a r i → f a r i ≡ x → next m f ≡ x
unfolding next
next_of f e d = rw e d

-- ---- a line

pub record LineRead {A : Type 0} (f : List ℕ → Result A Fault) (s : List ℕ) (n : ℕ) (a : A) (t : List ℕ) (k : ℕ) : Type 0 where
  pub ended : has LF s ≡ true
  pub held : f (before LF s) ≡ Ok a
  pub rest : t ≡ after LF s
  pub number : k ≡ suc n

pub line_read : {A : Type 0} (f : List ℕ → Result A Fault) (s : List ℕ) (n : ℕ) {a : A} {t : List ℕ} {k : ℕ} → line f s n ≡ read a t k → LineRead f s n a t k
unfolding line lined
line_read {A} f s n {a} {t} {k} e = by_end (has LF s) refl e
  where
    by_value : (v : Result A Fault) → f (before LF s) ≡ v → has LF s ≡ true → lined v s n ≡ read a t k → LineRead f s n a t k
    by_value (Ok b) h g d = record { ended = g; held = h ∙ ap Ok (cc); rest = cc; number = cc }
    by_value (Err b) h g d = clash (cc)

    by_end : (b : Bool) → has LF s ≡ b → lined (cond b (f (before LF s)) (Err fault.Form)) s n ≡ read a t k → LineRead f s n a t k
    by_end true g d = by_value (f (before LF s)) refl g d
    by_end false g d = clash (cc)

-- ---- a line that is a key and a number

-- what is known from a number's line: its range, and that the text is the number written before the rest
pub record NumberRead (key : List ℕ) (lo hi : ℤ) (s : List ℕ) (z : ℤ) (t : List ℕ) : Type 0 where
  pub least : lo ≤ℤ z
  pub most : z ≤ℤ hi
  pub written : s ≡ keyed key z t

-- a line that was read is its content, its LF, and the rest
pub line-written : {A : Type 0} {f : List ℕ → Result A Fault} {s : List ℕ} {n : ℕ} {a : A} {t : List ℕ} {k : ℕ} → LineRead f s n a t k → s ≡ before LF s ++ (LF ∷ t)
line-written {s = s} {t = t} l = has_split LF s l.ended ∙ ap (λ (r : List ℕ). before LF s ++ (LF ∷ r)) (sym l.rest)

pub number_line-read : (key : List ℕ) (lo hi : ℤ) (s : List ℕ) (n : ℕ) {z : ℤ} {t : List ℕ} {k : ℕ} → number_line key lo hi s n ≡ read z t k
    → NumberRead key lo hi s z t × (k ≡ suc n)
unfolding lined_number
number_line-read key lo hi s n {z} {t} {k} e = (by_number (number_after key lo hi (before LF s)) refl l.held, l.number)
  where
    l : LineRead (λ l. lined_number (number_after key lo hi l)) s n z t k
    l = line_read (λ l. lined_number (number_after key lo hi l)) s n e

    by_number : (m : Result ℤ NumberFault) → number_after key lo hi (before LF s) ≡ m → lined_number m ≡ Ok z → NumberRead key lo hi s z t
    by_number (Ok y) p d =
        let q = number_after-value key lo hi z (before LF s) (cc) in
        record {
          least = q.0.least;
          most = q.0.greatest;
          written = line-written l ∙ ap (λ (r : List ℕ). r ++ (LF ∷ t)) q.1 ∙ append_assoc key (decimal z) (LF ∷ t);
        }
    by_number (Err f) p d = clash (cc)

pub number_line-then : {B : Type 0} (key : List ℕ) (lo hi : ℤ) (s : List ℕ) (n : ℕ) (f : ℤ → Reader B) {b : B} {t : List ℕ} {k : ℕ}
    → next (number_line key lo hi s n) f ≡ read b t k → Then (λ z r i. NumberRead key lo hi s z r) f b t k
number_line-then key lo hi s n f e =
    let q = next-then (number_line key lo hi s n) f e in
    record { got = q.got; left = q.left; line = q.line; told = (number_line-read key lo hi s n q.told).0; more = q.more }

-- ---- a line that is a key and a count

pub record CountRead (key : List ℕ) (lo hi : ℕ) (s : List ℕ) (z : ℕ) (t : List ℕ) : Type 0 where
  pub least : lo ≤ z
  pub most : z ≤ hi
  pub written : s ≡ keyed key (pos z) t

pub counted : (key : List ℕ) (lo hi : ℕ) (s : List ℕ) (z : ℤ) (t : List ℕ) → NumberRead key (pos lo) (pos hi) s z t → CountRead key lo hi s (nat_abs z) t
counted key lo hi s (pos m) t q = record { least = omega (whole, q.least); most = omega (whole, q.most); written = q.written }
counted key lo hi s (negsuc m) t q = absurd (omega (whole, q.least))

pub count_line-then : {B : Type 0} (key : List ℕ) (lo hi : ℕ) (s : List ℕ) (n : ℕ) (f : ℕ → Reader B) {b : B} {t : List ℕ} {k : ℕ}
    → next (count_line key lo hi s n) f ≡ read b t k → Then (λ z r i. CountRead key lo hi s z r) f b t k
unfolding next
count_line-then key lo hi s n f e =
    let all = next-then (count_line key lo hi s n) f e in
    let z = number_line-then key (pos lo) (pos hi) s n _ all.told in
    record {
      got = nat_abs z.got;
      left = z.left;
      line = z.line;
      told = counted key lo hi s z.got z.left z.told;
      more = next_of f z.more all.more;
    }
