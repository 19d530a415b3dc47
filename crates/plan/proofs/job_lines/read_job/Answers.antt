-- `read_job`: after each line `rest₁` to `rest₄` say what is left to be read; a line that is refused is the answer.
use mathlib.Core.Path.{◌∙◌, ap, sym, subst}
use mathlib.Core.List.{List}
use Prim.Native.Nat.{ℕ, ◌+◌, ◌≤◌}
use lib.IntN.{ℤ, pos}
use lib.ListN.{drop, length}
use mir.Facts.{to_z-of_z}
use mir.Syntax.{w32}
use Rattle.std.proofs.Common.{Ok, add_assoc}
use Rattle.text.specs.Bytes.{bytes}
use Rattle.lines.specs.Reading.{answer}
use Rattle.plan.specs.declared.Job.{Job}
use Rattle.lines.specs.ReadAt.{RestAt, at_told}
use Rattle.plan.specs.Limits.{longest_running, latest_deadline}
use Rattle.plan.specs.PlanLines.{job_lines}
use Rattle.plan.specs.ReadAt.{LineAt, job_from_max, job_from_release, job_from_deadline}
use Rattle.plan.specs.ReadAtLaws.{job_lines-rest, line-goes, line-stops, passed_on}
use borrow.Author.Rules.{rules}
use Rattle.plan.proofs.job_lines.read_job.Goals as goal

-- ---- what is left, line by line

module _ (s : List ℕ) (at n : ℕ) (h : at ≤ length s) {z₁ : ℤ} {at₂ : ℕ} (l₁ : LineAt s (bytes "min=") (pos 0) longest_running at n (Ok (z₁, at₂))) where
  rest₁ : RestAt s (job_lines (drop at s) n) (job_from_max z₁) at₂ (n + 1)
  rest₁ = line-goes _ (job_lines-rest s at n h) l₁

  module _ {z₂ : ℤ} {at₃ : ℕ} (l₂ : LineAt s (bytes "max=") z₁ longest_running at₂ (n + 1) (Ok (z₂, at₃))) where
    rest₂ : RestAt s (job_lines (drop at s) n) (job_from_release z₁ z₂) at₃ (n + 2)
    rest₂ = subst (λ k. RestAt s (job_lines (drop at s) n) (job_from_release z₁ z₂) at₃ k) (add_assoc n 1 1) (line-goes _ rest₁ l₂)

    module _ {z₃ : ℤ} {at₄ : ℕ} (l₃ : LineAt s (bytes "release=") (pos 0) latest_deadline at₃ (n + 2) (Ok (z₃, at₄))) where
      rest₃ : RestAt s (job_lines (drop at s) n) (job_from_deadline z₁ z₂ z₃) at₄ (n + 3)
      rest₃ = subst (λ k. RestAt s (job_lines (drop at s) n) (job_from_deadline z₁ z₂ z₃) at₄ k) (add_assoc n 2 1) (line-goes _ rest₂ l₃)

      rest₄ : {z₄ : ℤ} {at₅ : ℕ} → LineAt s (bytes "deadline=") (pos 0) latest_deadline at₄ (n + 3) (Ok (z₄, at₅))
          → RestAt s (job_lines (drop at s) n) (answer (record { min = z₁; max = z₂; release = z₃; deadline = z₄ })) at₅ (n + 4)
      rest₄ {z₄} {at₅} l₄ =
          let job : Job = record { min = z₁; max = z₂; release = z₃; deadline = z₄ } in
          subst (λ k. RestAt s (job_lines (drop at s) n) (answer job) at₅ k) (add_assoc n 3 1) (line-goes _ rest₃ l₄)

-- ---- a line that is refused

pub returns-in_err-min-clause-line_value : goal.returns-in_err-min-clause-line_value
unfolding bytes
returns-in_err-min-clause-line_value c =
    let a = c.args in
    (line-stops _ (job_lines-rest a.s.now a.at a.line c.requires.within) c.in_err-min.ensures).0
    ∙ ap (at_told a.s.now _) (sym (passed_on c.from_residual.ensures.1))

pub returns-in_err-max-clause-line_value : goal.returns-in_err-max-clause-line_value
unfolding bytes
returns-in_err-max-clause-line_value c =
    let a = c.args in
    let back = to_z-of_z {w = w32} {z = c.in_ok-min.min} (search rules) in
    (line-stops _ (rest₁ a.s.now a.at a.line c.requires.within c.in_ok-min.ensures) (rw back at c.in_err-max.ensures)).0
    ∙ ap (at_told a.s.now _) (sym (passed_on c.from_residual-in_err-max.ensures.1))

pub returns-in_err-release-clause-line_value : goal.returns-in_err-release-clause-line_value
unfolding bytes
returns-in_err-release-clause-line_value c =
    let a = c.args in
    let back = to_z-of_z {w = w32} {z = c.in_ok-min.min} (search rules) in
    (line-stops _ (rest₂ a.s.now a.at a.line c.requires.within c.in_ok-min.ensures (rw back at c.in_ok-max.ensures)) c.in_err-release.ensures).0
    ∙ ap (at_told a.s.now _) (sym (passed_on c.from_residual-in_err-release.ensures.1))

pub returns-in_err-deadline-clause-line_value : goal.returns-in_err-deadline-clause-line_value
unfolding bytes
returns-in_err-deadline-clause-line_value c =
    let a = c.args in
    let back = to_z-of_z {w = w32} {z = c.in_ok-min.min} (search rules) in
    (line-stops _ (rest₃ a.s.now a.at a.line c.requires.within c.in_ok-min.ensures (rw back at c.in_ok-max.ensures) c.in_ok-release.ensures)
    c.in_err-deadline.ensures).0
    ∙ ap (at_told a.s.now _) (sym (passed_on c.from_residual-in_err-deadline.ensures.1))

-- ---- the job

pub returns-clause-line_value : goal.returns-clause-line_value
unfolding bytes
returns-clause-line_value c =
    let a = c.args in
    let back₁ = to_z-of_z {w = w32} {z = c.in_ok-min.min} (search rules) in
    let back₂ = to_z-of_z {w = w32} {z = c.in_ok-max.max} (search rules) in
    let back₃ = to_z-of_z {w = w32} {z = c.in_ok-release.release} (search rules) in
    let back₄ = to_z-of_z {w = w32} {z = c.in_ok-deadline.deadline} (search rules) in
    rw (back₁, back₂, back₃, back₄)
    (rest₄ a.s.now a.at a.line c.requires.within c.in_ok-min.ensures (rw back₁ at c.in_ok-max.ensures) c.in_ok-release.ensures c.in_ok-deadline.ensures).reads
