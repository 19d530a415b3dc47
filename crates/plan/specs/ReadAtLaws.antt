-- The laws by which the code's readers of lines are right: a group of lines ends where it ends whatever was read there (`first_of-fault`, `first_of-place`). A
-- reading begins with the first line of a plan (`plan_lines-rest`) or of a job
-- (`job_lines-rest`); one line more is read, and what follows it is left (`line-goes`), with its number in its range (`line-range`, `count-range`), or it is
-- refused, and with it all (`line-stops`, of a plan's first lines `first_stops`).
use Rattle.std.specs.Prelude.{◌≡◌, refl, Bool, true, false, ltb, List, ℕ, ◌+◌, ◌-◌, ◌≤◌, ◌<◌, ℤ, pos, nat_abs, length, take, drop, Result, Ok, Err, IsErrAnd}
use Rattle.std.proofs.Common.{◌∙◌, arith, ap, sym, subst, ltb-true, ltb-false}
use Rattle.whole.specs.Clash.{clash}
use Rattle.text.specs.Bytes.{bytes}
use Rattle.text.specs.Lines.{LF, before, next_line}
use Rattle.lines.specs.declared.Fault.{Fault}
use Rattle.lines.specs.declared.FaultyLine.{FaultyLine}
use Rattle.plan.specs.declared.First.{First}
use Rattle.plan.specs.declared.Plan.{Plan}
use Rattle.lines.specs.Reading.{Reading, Reader, ◌>>=◌, line, number_line, count_line}
use Rattle.lines.specs.ReadingLaws.{NumberRead, CountRead, counted, number_line-read}
use Rattle.lines.specs.ReadAt.{At, at_told, at_place, faulty_in, RestAt}
use Rattle.lines.specs.ReadAtLaws.{line_to-len, line_to-bare, line_to-fault, line_to-value, rest_at-goes, rest_at-stops, rest_at-count}
use Rattle.plan.specs.Limits.{longest_window, longest_running}
use Rattle.plan.specs.PlanLines.{job_lines, plan_lines}
use Rattle.plan.specs.ReadAt.{placed_at, LineTaken, LineAt, first_of, job_from_max, plan_from_rounds, FirstTold}

-- ---- the fault of a group of lines, and the place where it ends, are the same whatever was read there

pub first_of-fault : {A : Type 0} (n : ℕ) (x : At (List A)) {f : FaultyLine} → (x ≡ Err f → first_of n x ≡ Err f) × (first_of n x ≡ Err f → x ≡ Err f)
first_of-fault n (Ok q) = (λ e. clash (cc), λ e. clash (cc))
first_of-fault n (Err g) = (λ e. cc, λ e. cc)

pub first_of-place : {A : Type 0} (n : ℕ) (x : At (List A)) → at_place (first_of n x) ≡ at_place x
first_of-place n (Ok q) = refl
first_of-place n (Err f) = refl

-- ---- a line at its place: r is the answer of the code, and f what is read from the line for itself

module _ {A : Type 0} {P : List ℕ → Result A Fault → Type 0} (f : List ℕ → Result A Fault) {s : List ℕ} {at n : ℕ} {r : At A} (taken : LineTaken P s at n r)
    (within : at ≤ length s) (reads : (v : Result A Fault) → P (before LF (drop at s)) v → v ≡ f (before LF (drop at s))) where
  line_taken : (line f (drop at s) n ≡ at_told s (n + 1) r) × (at_place r ≤ length s)
  line_taken = by_end (ltb (length s) (next_line s at)) refl
    where
      next : ℕ
      next = next_line s at

      same : take (next - 1 - at) (drop at s) ≡ before LF (drop at s)
      same = ap (λ (k : ℕ). take k (drop at s)) (line_to-len s at within refl)

      by_value : next ≤ length s → (v : Result A Fault) → v ≡ f (before LF (drop at s)) → r ≡ placed_at at n next v
          → (line f (drop at s) n ≡ at_told s (n + 1) r) × (at_place r ≤ length s)
      by_value h (Ok a) e d =
          subst (λ (x : At A). (line f (drop at s) n ≡ at_told s (n + 1) x) × (at_place x ≤ length s)) (sym d)
          (line_to-value f s at n next within refl h (ap f same ∙ sym e), h)
      by_value h (Err b) e d =
          subst (λ (x : At A). (line f (drop at s) n ≡ at_told s (n + 1) x) × (at_place x ≤ length s)) (sym d)
          (line_to-fault f s at n next within refl h (ap f same ∙ sym e), within)

      by_end : (b : Bool) → ltb (length s) next ≡ b → (line f (drop at s) n ≡ at_told s (n + 1) r) × (at_place r ≤ length s)
      by_end true e =
          let h : length s < next = ltb-true (length s) next e in
          subst (λ (x : At A). (line f (drop at s) n ≡ at_told s (n + 1) x) × (at_place x ≤ length s)) (sym (taken.bare h))
          (line_to-bare f s at n next within refl h, within)
      by_end false e =
          let h : next ≤ length s = ltb-false (length s) next e in
          let q = taken.ended h in
          by_value h q.0 (reads q.0 q.1) q.2

  pub line_taken-told : line f (drop at s) n ≡ at_told s (n + 1) r
  line_taken-told = line_taken.0

  pub line_taken-placed : at_place r ≤ length s
  line_taken-placed = line_taken.1

-- ---- the first line

pub plan_lines-rest : (s : List ℕ) → RestAt s (plan_lines s 1) (◌>>=◌ (number_line (bytes "window=") (pos 1) longest_window) plan_from_rounds) 0 1
unfolding plan_lines
plan_lines-rest s = record { reads = refl; place = omega arith }

pub job_lines-rest : (s : List ℕ) (at n : ℕ) → at ≤ length s
    → RestAt s (job_lines (drop at s) n) (◌>>=◌ (number_line (bytes "min=") (pos 0) longest_running) job_from_max) at n
unfolding job_lines
job_lines-rest s at n h = record { reads = refl; place = h }

-- ---- one line more, as the code answered it: it and what follows it are what is left to be read

module _ {B : Type 0} {s : List ℕ} {w : Reading B} {key : List ℕ} {lo hi : ℤ} (f : ℤ → Reader B) {at n : ℕ}
    (rest : RestAt s w (◌>>=◌ (number_line key lo hi) f) at n) where
  pub line-goes : {z : ℤ} {to : ℕ} → LineAt s key lo hi at n (Ok (z, to)) → RestAt s w (f z) to (n + 1)
  line-goes {z} {to} l = rest_at-goes (number_line key lo hi) f rest (n + 1) (Ok (z, to)) l.told l.place refl

  pub line-stops : {g : FaultyLine} → LineAt s key lo hi at n (Err g) → (w ≡ faulty_in s g) × (g.at ≤ length s)
  line-stops {g} l = rest_at-stops (number_line key lo hi) f rest (n + 1) (Err g) l.told l.place refl

module _ {B : Type 0} {s : List ℕ} {w : Reading B} {key : List ℕ} {lo hi : ℕ} (f : ℕ → Reader B) {at n : ℕ}
    (rest : RestAt s w (◌>>=◌ (count_line key lo hi) f) at n) where
  pub count-goes : {z : ℤ} {to : ℕ} → LineAt s key (pos lo) (pos hi) at n (Ok (z, to)) → RestAt s w (f (nat_abs z)) to (n + 1)
  count-goes l = line-goes (λ z. f (nat_abs z)) (rest_at-count key lo hi f rest) l

  pub count-stops : {g : FaultyLine} → LineAt s key (pos lo) (pos hi) at n (Err g) → (w ≡ faulty_in s g) × (g.at ≤ length s)
  count-stops l = line-stops (λ z. f (nat_abs z)) (rest_at-count key lo hi f rest) l

module _ {s key : List ℕ} {at n : ℕ} {z : ℤ} {to : ℕ} where
  pub line-range : {lo hi : ℤ} → LineAt s key lo hi at n (Ok (z, to)) → NumberRead key lo hi (drop at s) z (drop to s)
  line-range {lo} {hi} l = (number_line-read key lo hi (drop at s) n l.told).0

  pub count-range : {lo hi : ℕ} → LineAt s key (pos lo) (pos hi) at n (Ok (z, to)) → CountRead key lo hi (drop at s) (nat_abs z) (drop to s)
  count-range {lo} {hi} l = counted key lo hi (drop at s) z (drop to s) (line-range l)

-- a fault that is passed on
pub passed_on : {A E : Type 0} {r : Result A E} {f : E} → IsErrAnd r (λ y. y ≡ f) → r ≡ Err f
passed_on {r = Ok a} e = absurd e
passed_on {r = Err y} e = ap Err e

-- the first lines of a plan, where one of them is refused
pub first_stops : (s : List ℕ) {w : Reading Plan} {f : FaultyLine} {r : At First} → (w ≡ faulty_in s f) × (f.at ≤ length s) → r ≡ Err f → FirstTold s w r
first_stops s {w} p e = subst (FirstTold s w) (sym e) (record { told = p.0; place = p.1; few = tt })
