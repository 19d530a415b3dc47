-- Digits as the code reads them, which has 64 bits: a number that no range reaches is read as another one that no range reaches.
use Rattle.std.specs.Prelude.{ℕ, min, cond, List, Option, Some, None}
use Rattle.text.specs.Numbers.{all_digits, is_positive, digits_value}

-- above every i64, and with room for one more digit after each number below a tenth of it
abbrev pub too_large : ℕ
too_large = 10000000000000000000

abbrev pub capped : ℕ → ℕ
capped n = min n too_large

-- the digits' number, after the number n of the digits before them
unfoldable pub digits_read : ℕ → List ℕ → Option ℕ
digits_read n s = cond (all_digits s) (Some (capped (digits_value n s))) None

-- the number of digits without a leading zero
unfoldable pub positive_read : List ℕ → Option ℕ
positive_read s = cond (is_positive s) (Some (capped (digits_value 0 s))) None
