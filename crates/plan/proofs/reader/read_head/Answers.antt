-- `read_head`: the length, the first four lines, the jobs, the count of the bounds, the bounds. After each group `rest₁` to `rest₄` say what is left to be
-- read; a group that is refused is the answer (`plan_read-refused`).
use mathlib.Core.Path.{◌≡◌, sym, ◌∙◌, ap, subst, refl}
use mathlib.Core.List.{List, []}
use Prim.Native.Nat.{ℕ, ◌+◌, ◌*◌, ◌≤◌}
use native.Mathlib.Omega.{arith}
use lib.IntN.{ℤ, pos, nat_abs}
use lib.ListN.{length, take, drop}
use mir.Facts.{to_z-of_z}
use mir.Syntax.{w32}
use mir.Val.{to_z, of_z}
use Rattle.std.proofs.Common.{Ok}
use Rattle.text.specs.Bytes.{bytes}
use Rattle.plan.specs.declared.Job.{Job}
use Rattle.plan.specs.declared.Bound.{Bound}
use Rattle.plan.specs.declared.PlanRead.{PlanRead}
use Rattle.plan.specs.declared.First.{First}
use Rattle.lines.specs.Reading.{longest_text, answer}
use Rattle.plan.specs.Limits.{most_bounds}
use Rattle.plan.specs.PlanLines.{jobs_after, bounds_after, plan_of, plan_lines, plan_rest, plan_head}
use Rattle.plan.specs.ReadAt.{LineAt, FirstTold, jobs_told, bounds_told, plan_from_count, plan_from_bounds}
use Rattle.lines.specs.ReadAt.{RestAt}
use Rattle.lines.specs.ReadAtLaws.{rest_at-goes, rest_at-stops}
use Rattle.plan.specs.NarrowLaws.{count-fits}
use Rattle.plan.specs.ReadAtLaws.{count-goes, count-stops, line-range, count-range, passed_on}
use Rattle.plan.specs.HeadLaws.{plan_head-long, plan_head-short, plan_read-refused, plan_read-accepted}
use borrow.Author.Rules.{rules}
use Rattle.plan.proofs.reader.read_head.Goals as goal

-- ---- what is left, group by group

module _ (s : List ℕ) (short : length s ≤ longest_text) {f : First} {at₂ : ℕ} (first : FirstTold s (plan_lines s 1) (Ok (f, at₂))) where
  rest₁ : RestAt s (plan_head s) (plan_rest f.window f.rounds f.last f.jobs) at₂ 5
  rest₁ = record { reads = plan_head-short s short ∙ first.told; place = first.place }

  module _ (js : List Job) {at₃ : ℕ} (jobs : jobs_after [] f.jobs (drop at₂ s) 5 ≡ jobs_told s f.jobs (Ok (js, at₃))) (within : at₃ ≤ length s) where
    rest₂ : RestAt s (plan_head s) (plan_from_count f.window f.rounds f.last f.jobs (take f.jobs js)) at₃ (5 + 4 * f.jobs)
    rest₂ = rest_at-goes (jobs_after [] f.jobs) _ rest₁ _ (Ok (take f.jobs js, at₃)) jobs within refl

    module _ {z : ℤ} {at₄ k : ℕ} (line : LineAt s (bytes "bounds=") (pos 0) (pos most_bounds) at₃ (5 + 4 * f.jobs) (Ok (z, at₄))) (count : nat_abs z ≡ k) where
      rest₃ : RestAt s (plan_head s) (plan_from_bounds f.window f.rounds f.last f.jobs (take f.jobs js) k) at₄ (5 + 4 * f.jobs + 1)
      rest₃ =
          subst (λ k. RestAt s (plan_head s) (plan_from_bounds f.window f.rounds f.last f.jobs (take f.jobs js) k) at₄ (5 + 4 * f.jobs + 1)) count
          (count-goes _ rest₂ line)

      rest₄ : (ds : List Bound) {at₅ : ℕ}
          → bounds_after f.jobs [] k (drop at₄ s) (5 + 4 * f.jobs + 1) ≡ bounds_told s (5 + 4 * f.jobs + 1) k (Ok (ds, at₅)) → at₅ ≤ length s
          → RestAt s (plan_head s) (answer (plan_of f.window f.rounds f.last f.jobs (take f.jobs js) k (take k ds))) at₅ (5 + 4 * f.jobs + 1 + k)
      rest₄ ds {at₅} told h = rest_at-goes (bounds_after f.jobs [] k) _ rest₃ _ (Ok (take k ds, at₅)) told h refl

-- ---- a text that is refused

pub returns-then-len-gt-LONGEST_TEXT : goal.returns-then-len-gt-LONGEST_TEXT
returns-then-len-gt-LONGEST_TEXT c = let s = c.args.s.now in plan_read-refused s (plan_head-long s c.if-len-gt-LONGEST_TEXT.true, omega arith)

pub returns-in_err-first : goal.returns-in_err-first
returns-in_err-first c =
    let s = c.args.s.now in
    let told = c.in_err-first.ensures in
    passed_on c.from_residual.ensures.1 ∙ plan_read-refused s (plan_head-short s c.if-len-gt-LONGEST_TEXT.false ∙ told.told, told.place)

pub returns-in_err-job : goal.returns-in_err-job
returns-in_err-job c =
    let s = c.args.s.now in
    let told = c.in_err-job.ensures in
    passed_on c.from_residual-in_err-job.ensures.1
    ∙ plan_read-refused s
    (rest_at-stops (jobs_after [] c.in_ok-first.first.jobs) _ (rest₁ s c.if-len-gt-LONGEST_TEXT.false c.in_ok-first.ensures)
    (5 + 4 * c.in_ok-first.first.jobs) _ told.s_value told.result_in_bounds refl)

pub returns-in_err-z : goal.returns-in_err-z
unfolding bytes
returns-in_err-z c =
    let s = c.args.s.now in
    let told = c.in_ok-job.ensures in
    passed_on c.from_residual-in_err-z.ensures.1
    ∙ plan_read-refused s
    (count-stops _ (rest₂ s c.if-len-gt-LONGEST_TEXT.false c.in_ok-first.ensures c.in_ok-job.job told.s_value told.result_in_bounds) c.in_err-z.ensures)

pub returns-in_err-bound : goal.returns-in_err-bound
unfolding bytes
returns-in_err-bound c =
    let s = c.args.s.now in
    let told = c.in_ok-job.ensures in
    let back = to_z-of_z {w = w32} {z = c.in_ok-z.z} (search rules) in
    let stop = c.in_err-bound.ensures in
    passed_on c.from_residual-in_err-bound.ensures.1
    ∙ plan_read-refused s
    (rest_at-stops (bounds_after c.in_ok-first.first.jobs [] _) _
    (rest₃ s c.if-len-gt-LONGEST_TEXT.false c.in_ok-first.ensures c.in_ok-job.job told.s_value told.result_in_bounds c.in_ok-z.ensures (ap nat_abs (sym back)))
    (5 + 4 * c.in_ok-first.first.jobs + 1 + nat_abs (to_z w32 (of_z w32 c.in_ok-z.z))) _
    stop.number_value stop.result_in_bounds refl)

-- ---- the count of the bounds

pub overflow_cast-bounds : goal.overflow_cast-bounds
overflow_cast-bounds c = count-fits {z = c.in_ok-z.z} (search rules) (line-range c.in_ok-z.ensures).least

pub read_bounds-requires-clause-few_bounds : goal.read_bounds-requires-clause-few_bounds
read_bounds-requires-clause-few_bounds c = rw (to_z-of_z {w = w32} {z = c.in_ok-z.z} (search rules)) (count-range c.in_ok-z.ensures).most

-- ---- the plan

-- answers with equal parts
same-plan : {w w' : ℤ} {js js' : List Job} {ds ds' : List Bound} (rounds last jobs b at n : ℕ) → w ≡ w' → js ≡ js' → ds ≡ ds'
    → ◌≡◌ {A = PlanRead}
    (record { plan = record { window = w; rounds = rounds; last = last; jobs = jobs; job = js; bounds = b; bound = ds }; at = at; line = n })
    (record { plan = record { window = w'; rounds = rounds; last = last; jobs = jobs; job = js'; bounds = b; bound = ds' }; at = at; line = n })
same-plan rounds last jobs b at n p q t = cc

pub returns : goal.returns
unfolding bytes
returns c =
    let s = c.args.s.now in
    let f = c.in_ok-first.first in
    let told = c.in_ok-job.ensures in
    let back = to_z-of_z {w = w32} {z = c.in_ok-z.z} (search rules) in
    let back₁ = to_z-of_z {w = w32} {z = f.window} (search rules) in
    let end = c.in_ok-bound.ensures in
    let rest = rest₄ s c.if-len-gt-LONGEST_TEXT.false c.in_ok-first.ensures c.in_ok-job.job told.s_value told.result_in_bounds c.in_ok-z.ensures
    (ap nat_abs (sym back)) c.in_ok-bound.bound end.number_value end.result_in_bounds in
    ap Ok (same-plan f.rounds f.last f.jobs _ c.in_ok-bound.end _ back₁ told.jobs_filled end.bounds_filled)
    ∙ plan_read-accepted s _ c.in_ok-bound.end _ rest.place rest.reads
