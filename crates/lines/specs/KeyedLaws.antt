-- The laws of a line that is a key and a number. It stands before what follows it (`keyed-append`), and no number makes it long (`keyed-short`, `count-short`).
-- What writers did: a number as it is handed over (`stored-told`, `stored-ended`, `stored-narrow`), a count (`stored-count`), a text and the byte after it
-- (`stored-behind`), a line, and the lines after it (`stored-keyed`, `stored-keyed-narrow`).

use Rattle.std.specs.Prelude.{ℕ, ◌+◌, ◌^◌, ◌≤◌, ◌<◌, ◌≡◌, List, [], ◌∷◌, ◌++◌, ℤ, pos, length}
use Rattle.std.proofs.Common.{sym, ap, ◌∙◌, subst, append_assoc, arith, length-append, SFits, to_z, of_z, to_z-of_z}
use Rattle.std.specs.Int.{w32, w64}
use Rattle.whole.specs.Rules.{wholes}
use Rattle.whole.specs.SplitLaws.{cast-wide}
use Rattle.text.specs.Lent.{Stored}
use Rattle.text.specs.LentLaws.{stored-append}
use Rattle.text.specs.Lines.{LF}
use Rattle.text.specs.Numbers.{digits, decimal}
use Rattle.text.specs.DigitLaws.{digits-short}
use Rattle.text.specs.NumberLaws.{decimal-above}
use Rattle.lines.specs.Keyed.{keyed}

keyed-append : (key : List ℕ) (z : ℤ) (s : List ℕ) → keyed key z s ≡ keyed key z [] ++ s
keyed-append key z s = sym (append_assoc key (decimal z ++ (LF ∷ [])) s ∙ ap (λ (x : List ℕ). key ++ x) (append_assoc (decimal z) (LF ∷ []) s))

-- ---- its length

pub keyed-short : (key : List ℕ) (k : ℕ) (z : ℤ) (s : List ℕ) → length key ≤ k → length (decimal z) ≤ 20 → length (keyed key z s) ≤ k + 21 + length s
keyed-short key k z s h d = omega (arith, length-append key (decimal z ++ (LF ∷ s)), length-append (decimal z) (LF ∷ s))

pub count-short : (n : ℕ) → n < 2 ^ 64 → length (decimal (pos n)) ≤ 20
count-short n h = rw (decimal-above (pos n) (omega wholes)) (digits-short n h)

-- ---- what writers did

-- a number as it is handed over, of 64 bits and of 32
pub stored-told : {out out' : List ℕ} {at at' : ℕ} (text : ℤ → List ℕ) {z : ℤ} → SFits w64 z
    → Stored out at (text (to_z w64 (of_z w64 z))) out' at' → Stored out at (text z) out' at'
stored-told text f d = rw (to_z-of_z f) at d

pub stored-narrow : {out out' : List ℕ} {at at' : ℕ} (text : ℤ → List ℕ) {z : ℤ} → SFits w32 z
    → Stored out at (text (to_z w64 (of_z w64 (to_z w32 (of_z w32 z))))) out' at' → Stored out at (text z) out' at'
stored-narrow text f d = rw (to_z-of_z f) at (stored-told text (cast-wide tt f) d)

-- a number and the byte after it, which is LF
pub stored-ended : {out out' : List ℕ} {at at' : ℕ} (b : ℕ) {z : ℤ} → SFits w64 z
    → Stored out at (decimal (to_z w64 (of_z w64 z)) ++ (b ∷ [])) out' at' → b ≡ LF → Stored out at (decimal z ++ (LF ∷ [])) out' at'
stored-ended b f d e = rw e at (stored-told (λ (x : ℤ). decimal x ++ (b ∷ [])) f d)

-- a count
pub stored-count : {out out' : List ℕ} {at at' : ℕ} (n : ℕ) (s : List ℕ) → Stored out at (digits n ++ s) out' at'
    → Stored out at (decimal (pos n) ++ s) out' at'
stored-count n s d = rw (decimal-above (pos n) (omega wholes)) d

-- a text and the byte after it, before another
pub stored-behind : {out t o o' : List ℕ} {at j j' : ℕ} (s : List ℕ) (b : ℕ) → Stored out at (s ++ (b ∷ [])) o j → Stored o j t o' j'
    → Stored out at (s ++ (b ∷ t)) o' j'
stored-behind {out} {t} {o' = o'} {at = at} {j' = j'} s b p q = subst (λ (x : List ℕ). Stored out at x o' j') (append_assoc s (b ∷ []) t) (stored-append p q)

-- a line, and the lines after it
pub stored-keyed : {out s o o' : List ℕ} {at j j' : ℕ} (key : List ℕ) (z : ℤ)
    → Stored out at (keyed key z []) o j → Stored o j s o' j' → Stored out at (keyed key z s) o' j'
stored-keyed {s = s} key z p q = rw (keyed-append key z s) (stored-append p q)

pub stored-keyed-narrow : {out s o o' : List ℕ} {at j j' : ℕ} (key : List ℕ) {z : ℤ} → SFits w32 z
    → Stored out at (keyed key (to_z w64 (of_z w64 (to_z w32 (of_z w32 z)))) []) o j → Stored o j s o' j' → Stored out at (keyed key z s) o' j'
stored-keyed-narrow key {z} f p q = stored-keyed key z (stored-narrow (λ (x : ℤ). keyed key x []) f p) q
