-- `read_first`: after each line `rest₁` to `rest₄` say what is left to be read; a line that is refused is the answer (`first_stops`).
use mathlib.Core.List.{List}
use Prim.Native.Nat.{ℕ}
use lib.IntN.{ℤ, pos, nat_abs}
use mir.Facts.{to_z-of_z}
use mir.Syntax.{w32}
use Rattle.std.proofs.Common.{Ok}
use Rattle.whole.specs.Rules.{whole}
use Rattle.text.specs.Bytes.{bytes}
use Rattle.lines.specs.ReadAt.{RestAt}
use Rattle.plan.specs.Limits.{longest_window, most_rounds, most_windows, most_jobs}
use Rattle.plan.specs.PlanLines.{plan_lines, plan_rest}
use Rattle.plan.specs.ReadAt.{LineAt, plan_from_rounds, plan_from_last, plan_from_jobs}
use Rattle.plan.specs.NarrowLaws.{count-fits}
use Rattle.plan.specs.ReadAtLaws.{plan_lines-rest, line-goes, line-stops, count-goes, count-stops, line-range, count-range, passed_on, first_stops}
use borrow.Author.Rules.{rules}
use Rattle.plan.proofs.first_lines.read_first.Goals as goal

-- ---- what is left, line by line

module _ (s : List ℕ) {z₁ : ℤ} {at₂ : ℕ} (l₁ : LineAt s (bytes "window=") (pos 1) longest_window 0 1 (Ok (z₁, at₂))) where
  rest₁ : RestAt s (plan_lines s 1) (plan_from_rounds z₁) at₂ 2
  rest₁ = line-goes _ (plan_lines-rest s) l₁

  module _ {z₂ : ℤ} {at₃ : ℕ} (l₂ : LineAt s (bytes "rounds=") (pos 1) (pos most_rounds) at₂ 2 (Ok (z₂, at₃))) where
    rest₂ : RestAt s (plan_lines s 1) (plan_from_last z₁ (nat_abs z₂)) at₃ 3
    rest₂ = count-goes _ rest₁ l₂

    module _ {z₃ : ℤ} {at₄ : ℕ} (l₃ : LineAt s (bytes "last=") (pos 1) (pos most_windows) at₃ 3 (Ok (z₃, at₄))) where
      rest₃ : RestAt s (plan_lines s 1) (plan_from_jobs z₁ (nat_abs z₂) (nat_abs z₃)) at₄ 4
      rest₃ = count-goes _ rest₂ l₃

      rest₄ : {z₄ : ℤ} {at₅ : ℕ} → LineAt s (bytes "jobs=") (pos 1) (pos most_jobs) at₄ 4 (Ok (z₄, at₅))
          → RestAt s (plan_lines s 1) (plan_rest z₁ (nat_abs z₂) (nat_abs z₃) (nat_abs z₄)) at₅ 5
      rest₄ l₄ = count-goes _ rest₃ l₄

-- ---- a line that is refused

pub returns-in_err-window : goal.returns-in_err-window
unfolding bytes
returns-in_err-window c = let s = c.args.s.now in first_stops s (line-stops _ (plan_lines-rest s) c.in_err-window.ensures) (passed_on c.from_residual.ensures.1)

pub returns-in_err-rounds : goal.returns-in_err-rounds
unfolding bytes
returns-in_err-rounds c =
    let s = c.args.s.now in
    first_stops s (count-stops _ (rest₁ s c.in_ok-window.ensures) c.in_err-rounds.ensures) (passed_on c.from_residual-in_err-rounds.ensures.1)

pub returns-in_err-last : goal.returns-in_err-last
unfolding bytes
returns-in_err-last c =
    let s = c.args.s.now in
    first_stops s (count-stops _ (rest₂ s c.in_ok-window.ensures c.in_ok-rounds.ensures) c.in_err-last.ensures)
    (passed_on c.from_residual-in_err-last.ensures.1)

pub returns-in_err-jobs : goal.returns-in_err-jobs
unfolding bytes
returns-in_err-jobs c =
    let s = c.args.s.now in
    first_stops s (count-stops _ (rest₃ s c.in_ok-window.ensures c.in_ok-rounds.ensures c.in_ok-last.ensures) c.in_err-jobs.ensures)
    (passed_on c.from_residual-in_err-jobs.ensures.1)

-- ---- the counts

pub overflow_cast-first : goal.overflow_cast-first
overflow_cast-first c = let q = (line-range c.in_ok-rounds.ensures).least in count-fits {z = c.in_ok-rounds.rounds} (search rules) (omega (whole, q))

pub overflow_cast-first-2 : goal.overflow_cast-first-2
overflow_cast-first-2 c = let q = (line-range c.in_ok-last.ensures).least in count-fits {z = c.in_ok-last.last} (search rules) (omega (whole, q))

pub overflow_cast-first-3 : goal.overflow_cast-first-3
overflow_cast-first-3 c = let q = (line-range c.in_ok-jobs.ensures).least in count-fits {z = c.in_ok-jobs.jobs} (search rules) (omega (whole, q))

pub returns : goal.returns
unfolding bytes
returns c =
    let back₁ = to_z-of_z {w = w32} {z = c.in_ok-window.window} (search rules) in
    let back₂ = to_z-of_z {w = w32} {z = c.in_ok-rounds.rounds} (search rules) in
    let back₃ = to_z-of_z {w = w32} {z = c.in_ok-last.last} (search rules) in
    let back₄ = to_z-of_z {w = w32} {z = c.in_ok-jobs.jobs} (search rules) in
    let rest = rest₄ c.args.s.now c.in_ok-window.ensures c.in_ok-rounds.ensures c.in_ok-last.ensures c.in_ok-jobs.ensures in
    record { told = rw (back₁, back₂, back₃, back₄) rest.reads; place = rest.place; few = rw back₄ (count-range c.in_ok-jobs.ensures).most }
