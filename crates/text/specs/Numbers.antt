-- Numbers (document 01, 'Plan text': 'Numbers are decimal, without plus, leading zeros or `-0`; any count of digits is well formed').
use Rattle.std.specs.Prelude.{ℕ, zero, suc, ◌+◌, ◌*◌, ◌-◌, ◌/◌, ◌%◌, Bool, true, false, not, cond, ◌&&◌, List, [], ◌∷◌, eqb, leb, ltb, ℤ, pos, negsuc, neg_ℤ, Result, Ok, Err}
use Rattle.std.proofs.Math.Option.{Option, none, some}
use Rattle.std.specs.Int.Signed.{le_z}
use Rattle.text.specs.declared.NumberFault.{NumberFault}
use Rattle.text.specs.declared.NumberFault.TheVariants.{Form, Range}
use Rattle.text.specs.Lines.{after_key}

-- ---- the form

abbrev pub minus : ℕ
minus = 45

abbrev pub zero_digit : ℕ
zero_digit = 48

abbrev pub nine_digit : ℕ
nine_digit = 57

abbrev pub is_digit : ℕ → Bool
is_digit b = leb zero_digit b && leb b nine_digit

unfoldable pub all_digits : List ℕ → Bool
all_digits [] = true
all_digits (b ∷ s) = let more = all_digits s in cond (is_digit b) more false

-- digits without a leading zero
unfoldable pub is_positive : List ℕ → Bool
is_positive [] = false
is_positive (b ∷ s) = not (eqb b zero_digit) && all_digits (b ∷ s)

abbrev pub is_empty : List ℕ → Bool
is_empty [] = true
is_empty (b ∷ s) = false

-- `0`, or an optional `-` and digits without a leading zero
unfoldable pub is_number : List ℕ → Bool
is_number [] = false
is_number (b ∷ s) = cond (eqb b minus) (is_positive s) (cond (eqb b zero_digit) (is_empty s) (is_positive (b ∷ s)))

-- ---- the value

-- the digits' number, after the number n of the digits before them
unfoldable pub digits_value : ℕ → List ℕ → ℕ
digits_value n [] = n
digits_value n (d ∷ ds) = digits_value (n * 10 + (d - zero_digit)) ds

unfoldable pub number_value : List ℕ → ℤ
number_value [] = pos 0
number_value (b ∷ s) = cond (eqb b minus) (neg_ℤ (pos (digits_value 0 s))) (pos (digits_value 0 (b ∷ s)))

-- ---- reading: the form comes first, then the range, both ends included

abbrev pub within : ℤ → ℤ → ℤ → Bool
within lo hi z = le_z lo z && le_z z hi

abbrev pub number_within : ℤ → ℤ → ℤ → Result ℤ NumberFault
number_within lo hi z = cond (within lo hi z) (Ok z) (Err Range)

unfoldable pub number_in : ℤ → ℤ → List ℕ → Result ℤ NumberFault
number_in lo hi s = let z = number_value s in cond (is_number s) (number_within lo hi z) (Err Form)

-- what follows a key, as a number; without the key the line lacks its form
unfoldable pub number_of : ℤ → ℤ → Option (List ℕ) → Result ℤ NumberFault
number_of lo hi none = Err Form
number_of lo hi (some s) = number_in lo hi s

-- a line that is a key and a number
abbrev pub number_after : List ℕ → ℤ → ℤ → List ℕ → Result ℤ NumberFault
number_after key lo hi l = number_of lo hi (after_key key l)

-- ---- writing

-- the digits of n before ds; k is at least the count of further digits, and n itself is always enough
unfoldable pub digits_before : ℕ → ℕ → List ℕ → List ℕ
digits_before zero n ds = (zero_digit + n) ∷ ds
digits_before (suc k) n ds =
    let more = digits_before k (n / 10) ((zero_digit + n % 10) ∷ ds) in
    cond (ltb n 10) ((zero_digit + n) ∷ ds) more

abbrev pub digits : ℕ → List ℕ
digits n = digits_before n n []

unfoldable pub decimal : ℤ → List ℕ
decimal (pos n) = digits n
decimal (negsuc n) = minus ∷ digits (suc n)
