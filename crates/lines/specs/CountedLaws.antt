-- Lines are counted by bytes: each line that is read takes a byte at least (`Counted`). So it is of a line (`line-counted`, `count-counted`), of an answer that
-- reads nothing (`answer-counted`), and of one reading after another (`then-counted`).
use Rattle.std.specs.Prelude.{ℕ, ◌+◌, ◌≤◌, ◌≡◌, List, length, Result}
use Rattle.std.proofs.Common.{ap, arith, length-drop, ltb-true}
use Rattle.text.specs.Lines.{LF, len_to}
use Rattle.lines.specs.declared.Fault.{Fault}
use Rattle.lines.specs.Reading.{read, Reader, ◌>>=◌, answer, line, count_line}
use Rattle.lines.specs.ReadingLaws.{next-then, line_read}

pub record Counted {A : Type 0} (m : Reader A) : Type 0 where
  pub counts : (s : List ℕ) (n : ℕ) (a : A) (t : List ℕ) (k : ℕ) → m s n ≡ read a t k → k + length t ≤ n + length s

pub then-counted : {A B : Type 0} (m : Reader A) (f : A → Reader B) → Counted m → ((a : A) → Counted (f a)) → Counted (◌>>=◌ m f)
then-counted m f h g =
    record {
      counts = λ s n b t k e.
          let q = next-then (m s n) f e in
          let x = h.counts s n q.got q.left q.line q.told in
          let y = (g q.got).counts q.left q.line b t k q.more in
          omega arith;
    }

pub answer-counted : {A : Type 0} (a : A) → Counted (answer a)
answer-counted a =
    record {
      counts = λ s n b t k e.
          let x : k ≡ n = cc in
          let y : t ≡ s = cc in
          omega (arith, ap length y);
    }

pub line-counted : {A : Type 0} (f : List ℕ → Result A Fault) → Counted (line f)
line-counted f =
    record {
      counts = λ s n a t k e.
          let q = line_read f s n e in
          omega (arith, q.number, ap length q.rest, length-drop (len_to LF s + 1) s, ltb-true (len_to LF s) (length s) q.ended);
    }

pub count-counted : (key : List ℕ) (lo hi : ℕ) → Counted (count_line key lo hi)
count-counted key lo hi = then-counted _ _ (line-counted _) (λ z. answer-counted _)
