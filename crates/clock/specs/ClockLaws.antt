-- In the ranges of `Spans` a window begins no later than as many of the longest windows on the run's clock, so that this time and one near it fit an i64.
-- What the machine adds to a time is the number of milliseconds itself. Two comparisons tell whether a time is between two others; which of two times is the
-- earlier one is as the order that is derived with their type has it (`is_earlier-lt`).
use Rattle.std.specs.Prelude.{ℕ, ◌*◌, ◌-◌, ◌≤◌, ◌≡◌, true, false, ℤ, pos, ◌+ℤ◌, ◌≤ℤ◌}
use Rattle.std.proofs.Common.{⊎_elim, mul-le-mul, arith, rules, SFits, to_z, of_z, to_z-of_z}
use Rattle.std.specs.Ordering.{partial_lt}
use Rattle.std.specs.Int.Signed.{le_z}
use Rattle.std.specs.Int.{w32, w64}
use Rattle.whole.specs.Widths.{i32-widened}
use Rattle.whole.specs.Split.{up, dn}
use Rattle.whole.specs.SplitLaws.{split_one, split-mul}
use Rattle.whole.specs.Rules.{whole, wholes}
use Rattle.clock.specs.declared.RunTime.{RunTime}
use Rattle.clock.specs.contracts.RunTimePartialOrd.TheImpl as derived
use Rattle.clock.specs.Clock.{begins_at, is_earlier, is_between}
use Rattle.clock.specs.Spans.{longest_length, last_window, WindowInRange, NearBeginning}

module _ (window : ℤ) (j : ℕ) (s : WindowInRange window j) where
  dn-none : dn window ≤ 0
  dn-none = ⊎_elim (λ (e : up window ≡ 0). omega wholes) (λ (e : dn window ≡ 0). omega wholes) (split_one window)

  up-most : up window ≤ longest_length
  up-most = omega (wholes, dn-none)

  pub begins_at-least : pos 0 ≤ℤ (begins_at window j).0
  begins_at-least = omega (wholes, split-mul (j - 1) window, mul-le-mul {n₁ = j - 1} {n₂ = last_window} (omega arith) dn-none)

  pub begins_at-greatest : (begins_at window j).0 ≤ℤ pos (last_window * longest_length)
  begins_at-greatest = omega (wholes, split-mul (j - 1) window, mul-le-mul {n₁ = j - 1} {n₂ = last_window} (omega arith) up-most)

  pub window-fits : SFits w64 window
  window-fits = omega wholes

  pub begins_at-fits : SFits w64 (begins_at window j).0
  begins_at-fits = let l = begins_at-least in let g = begins_at-greatest in omega wholes

  pub on_run-fits : {t : ℤ} → NearBeginning t → SFits w64 ((begins_at window j).0 +ℤ t)
  on_run-fits n = let l = begins_at-least in let g = begins_at-greatest in omega wholes

-- ---- sums of the machine

pub sum_back : (t c : ℤ) → SFits w64 t → SFits w32 c → to_z w64 (of_z w64 t) +ℤ to_z w64 (of_z w64 (to_z w32 (of_z w32 c))) ≡ t +ℤ c
sum_back t c f g = rw (i32-widened g, to_z-of_z f)

-- ---- comparisons

module _ (from to t : RunTime) where
  pub is_between-early : is_earlier t from ≡ true → is_between from to t ≡ false
  is_between-early e = let h : le_z from.0 t.0 ≡ false = omega whole in rw h

  pub is_between-late : is_earlier t from ≡ false → is_earlier to t ≡ true → is_between from to t ≡ false
  is_between-late e f =
      let h : le_z from.0 t.0 ≡ true = omega whole in let k : le_z t.0 to.0 ≡ false = omega whole in rw (h, k)

  pub is_between-on : is_earlier t from ≡ false → is_earlier to t ≡ false → is_between from to t ≡ true
  is_between-on e f =
      let h : le_z from.0 t.0 ≡ true = omega whole in let k : le_z t.0 to.0 ≡ true = omega whole in rw (h, k)

pub is_earlier-lt : (t u : RunTime) → partial_lt derived.ghosts.partial_cmp t u ≡ is_earlier t u
is_earlier-lt t u = search rules
