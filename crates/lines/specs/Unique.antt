-- No two answers meet the promise of a public operation: each promise is an equation, and `only` of the crate `text` says the rest; of a writer
-- from a place on, `stored-unique`.
use Rattle.std.specs.Prelude.{◌≡◌, Bool, List, [], ℕ, ℤ, pos, length, drop, Result}
use Rattle.text.specs.Lent.{Stored, written}
use Rattle.text.specs.Unique.{only, stored-unique}
use Rattle.text.specs.declared.NumberFault.{NumberFault}
use Rattle.lines.specs.declared.Fault.{Fault}
use Rattle.lines.specs.declared.Refusal.{Refusal}
use Rattle.lines.specs.declared.FaultyLine.{FaultyLine}
use Rattle.lines.specs.declared.FaultyPart.{FaultyPart}
use Rattle.text.specs.Lines.{LF, before}
use Rattle.lines.specs.Refusals.{number, value, ends, line_lacks, fault_at, refused_line}
use Rattle.lines.specs.Keyed.{keyed}
use Rattle.lines.specs.Answers.{answer_number, answer_value, part_at}
use Rattle.lines.specs.Written.{written_as, written_whole}

pub number-unique : (r : Refusal) {n m : ℕ} → n ≡ number r → m ≡ number r → n ≡ m
number-unique r = only

pub value-unique : (r : Refusal) {n m : ℕ} → n ≡ value r → m ≡ value r → n ≡ m
value-unique r = only

pub ends-unique : (r : Refusal) {b c : Bool} → b ≡ ends r → c ≡ ends r → b ≡ c
ends-unique r = only

pub line-lacks-unique : (f : NumberFault) {r q : Fault} → r ≡ line_lacks f → q ≡ line_lacks f → r ≡ q
line-lacks-unique f = only

pub fault-at-unique : (line : ℕ) (f : Fault) {r q : Refusal} → r ≡ fault_at line f → q ≡ fault_at line f → r ≡ q
fault-at-unique line f = only

-- what is reported from an answer: the part, and the two numbers; a `FaultyPart` carries them, by `faulty-part-unique`, `number-unique` and `value-unique`
module _ (s : List ℕ) (a : Result Unit Refusal) (at : ℕ) where
  pub tell-refusal-unique : {r q : List ℕ} → r ≡ part_at s at a → q ≡ part_at s at a → r ≡ q
  tell-refusal-unique = only

  pub tell-refusal-number-unique : {n m : ℕ} → n ≡ answer_number a → m ≡ answer_number a → n ≡ m
  tell-refusal-number-unique = only

  pub tell-refusal-value-unique : {n m : ℕ} → n ≡ answer_value a → m ≡ answer_value a → n ≡ m
  tell-refusal-value-unique = only

-- the refusal, and the bytes of the line
pub faulty-part-unique : (s : List ℕ) (f : FaultyLine) (p q : FaultyPart) → (p.refusal ≡ f.refusal) × (p.line.now ≡ before LF (drop f.at s))
    → (q.refusal ≡ f.refusal) × (q.line.now ≡ before LF (drop f.at s))
    → (p.refusal ≡ q.refusal) × (p.line.now ≡ q.line.now)
faulty-part-unique s f p q d e = (only d.0 e.0, only d.1 e.1)

pub put-refused-unique : (x : Refusal) {out o p : List ℕ} {at j k : ℕ} → Stored out at (refused_line x) o j → Stored out at (refused_line x) p k
    → (o ≡ p) × (j ≡ k)
put-refused-unique x = stored-unique

pub write-refused-unique : (x : Refusal) (out : List ℕ) {r q : Result ℕ Refusal} → r ≡ written_as (refused_line x) out → q ≡ written_as (refused_line x) out → r ≡ q
write-refused-unique x out = only

pub write-refused-bytes-unique : (x : Refusal) (out : List ℕ) {o u : List ℕ} → o ≡ written (refused_line x) out → u ≡ written (refused_line x) out → o ≡ u
write-refused-bytes-unique x out = only

-- a text that was written whole, and its length
pub whole_unique : (t out : List ℕ) {r q : ℕ} {o p : List ℕ} → (r ≡ length t) × (o ≡ written_whole t out) → (q ≡ length t) × (p ≡ written_whole t out)
    → (r ≡ q) × (o ≡ p)
whole_unique t out d e = (only d.0 e.0, only d.1 e.1)

-- whatever text it is that is written, and however long it can be
pub most-unique : (most : ℕ) {n m : ℕ} → n ≡ most → m ≡ most → n ≡ m
most-unique most = only

pub put-unique : (t : List ℕ) {out o p : List ℕ} {j k : ℕ} → Stored out 0 t o j → Stored out 0 t p k → (o ≡ p) × (j ≡ k)
put-unique t = stored-unique

pub write-unique : (t out : List ℕ) {r q : Result ℕ Refusal} → r ≡ written_as t out → q ≡ written_as t out → r ≡ q
write-unique t out = only

pub write-bytes-unique : (t out : List ℕ) {o u : List ℕ} → o ≡ written t out → u ≡ written t out → o ≡ u
write-bytes-unique t out = only

-- whatever a program prints for a text
pub answer-unique : (t out : List ℕ) {r q : Result ℕ Refusal} → r ≡ written_as t out → q ≡ written_as t out → r ≡ q
answer-unique t out = only

pub answer-bytes-unique : (t out : List ℕ) {o u : List ℕ} → o ≡ written t out → u ≡ written t out → o ≡ u
answer-bytes-unique t out = only

pub answer-whole-unique : (t out : List ℕ) {r q : ℕ} {o p : List ℕ} → (r ≡ length t) × (o ≡ written_whole t out) → (q ≡ length t) × (p ≡ written_whole t out)
    → (r ≡ q) × (o ≡ p)
answer-whole-unique t out = whole_unique t out

pub put-line-unique : (key : List ℕ) (z : ℤ) {out o p : List ℕ} {at j k : ℕ} → Stored out at (keyed key z []) o j → Stored out at (keyed key z []) p k
    → (o ≡ p) × (j ≡ k)
put-line-unique key z = stored-unique

-- of a count, the same
pub put-count-line-unique : (key : List ℕ) (n : ℕ) {out o p : List ℕ} {at j k : ℕ} → Stored out at (keyed key (pos n) []) o j
    → Stored out at (keyed key (pos n) []) p k
    → (o ≡ p) × (j ≡ k)
put-count-line-unique key n = put-line-unique key (pos n)
