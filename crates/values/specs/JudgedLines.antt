-- A plan judged as a value is judged as its text would be (`judged_plan-is`). One line: `number_line-judged`, `count_line-judged`, `bound_line-judged`; the
-- groups: `job_lines-judged`, `jobs_after-judged`, `bounds_after-judged`. A law is stated of what is made of a reading that ends with its refusal (`Ending`), so
-- that it serves at any place of the plan. What is made of it may be the answer (`judged_plan-is`) or the plan that was read (`accepted-again` in
-- `AgainLaws`): `plan_lines-judged` says both.
use Rattle.std.specs.Prelude.{◌≡◌, Result, Ok, Err, Bool, not, ◌&&◌, ℤ, pos, length, ◌≤ℤ◌}
use Rattle.std.proofs.Math.Path.{refl, ap}
use Rattle.std.proofs.Common.{sym, ◌∙◌, arith, ltb-true, ltb-false, length-take}
use Rattle.std.proofs.Math.Bool.{true, false, cond}
use mathlib.Core.List.{List, [], ◌∷◌, ◌++◌, append_assoc, append-nil}
use Rattle.std.proofs.Math.Option.{some}
use Prim.Native.Nat.{ℕ, suc, ◌+◌, ◌*◌, ◌≤◌, ◌<◌}
use Rattle.std.proofs.Math.Dec.{ltb}
use Rattle.std.specs.Int.Signed.{le_z, lt_z}
use Rattle.whole.specs.Clash.{clash}
use Rattle.whole.specs.Rules.{whole}
use Rattle.text.specs.Bytes.{bytes}
use Rattle.text.specs.Lines.{LF, comma, len_to}
use Rattle.text.specs.DigitLaws.{digits-all, digits-free}
use Rattle.text.specs.LineLaws.{len_to-other, free-append, before_back, has-back, after-back, after_key-back}
use Rattle.text.specs.NumberLaws.{decimal-form, decimal-back, decimal-free, number_in-decimal, number_after-back, keyed-free}
use Rattle.text.specs.Numbers.{is_digit, digits, decimal, within}
use Rattle.text.specs.declared.NumberFault.TheVariants as number_fault
use Rattle.lines.specs.declared.Fault.{Fault}
use Rattle.lines.specs.declared.Fault.TheVariants as fault
use Rattle.plan.specs.declared.Job.{Job}
use Rattle.plan.specs.declared.Letter.{Letter}
use Rattle.plan.specs.declared.Letter.TheVariants.{This, Next}
use Rattle.plan.specs.declared.Kind.{Kind}
use Rattle.plan.specs.declared.Kind.TheVariants.{Start, Finish}
use Rattle.plan.specs.declared.EventName.{EventName}
use Rattle.plan.specs.declared.Bound.{Bound}
use Rattle.plan.specs.declared.Plan.{Plan}
use Rattle.lines.specs.declared.Refusal.{Refusal}
use Rattle.lines.specs.declared.Refusal.TheVariants.{Form, Range, Pair}
use Rattle.lines.specs.Reading.{longest_text, Reading, read, refused, Reader, next, ◌>>=◌, answer, lined, line, lined_number, number_line, count_line}
use Rattle.plan.specs.Limits.{longest_window, most_rounds, most_windows, most_jobs, longest_running, latest_deadline, most_bounds, least_c, greatest_c, longest_key}
use Rattle.plan.specs.EventNames.{letter_byte, kind_byte, name_bytes, event_name}
use Rattle.plan.specs.EventNameLaws.{event_name-back, event_name-long}
use Rattle.plan.specs.PlanLines.{
  job_lines,
  jobs_after,
  parts_of,
  bound_parts,
  is_job,
  is_wrong_pair,
  judged_bound,
  bound_of,
  bound_of_line,
  bounds_after,
  plan_of,
  plan_rest,
  plan_lines,
  nothing_after,
}
use Rattle.lines.specs.Keyed.{keyed}
use Rattle.plan.specs.PlanWritten.{jobs_text, bound_bytes, bounds_text, jobs_of, bounds_of, trimmed, plan_text, refusal_of, judged_plan}
use Rattle.plan.specs.HeadLaws.{plan_head-short}
use Rattle.plan.specs.PlanLaws.{bound_bytes-append}
use Rattle.values.specs.PlanJudged.{
  judged_answer,
  and_then,
  number_judged,
  job_judged,
  jobs_judged,
  is_one_digit,
  line_judged,
  bound_judged,
  bounds_judged,
  judged_by_lines,
}

-- ---- one answer after another

-- what comes of an answer: where it accepts, what follows it, and of a refusal what `stop` makes of it
abbrev pub onward : {C : Type 0} → (Refusal → C) → Result Unit Refusal → C → C
onward stop (Ok u) c = c
onward stop (Err r) c = stop r

-- an answer x and then an answer v: what follows x matters only where x accepts
onward-more : {C : Type 0} (stop : Refusal → C) (x v : Result Unit Refusal) (c : C) {w : C} → (x ≡ Ok tt → w ≡ onward stop v c)
    → onward stop x w ≡ onward stop (and_then x v) c
onward-more stop (Ok u) v c f = f refl
onward-more stop (Err r) v c f = refl

onward-accepted : (x : Result Unit Refusal) → onward Err x (Ok tt) ≡ x
onward-accepted (Ok u) = refl
onward-accepted (Err r) = refl

-- an answer a to what comes first: a refusal is the answer to all, and where it accepts, what follows is
pub and_then-stop : (x y a : Result Unit Refusal) {r : Refusal} → a ≡ x → a ≡ Err r → a ≡ and_then x y
and_then-stop (Ok u) y a e d = clash (cc)
and_then-stop (Err r) y a e d = e

pub and_then-pass : (x y a : Result Unit Refusal) → a ≡ x → a ≡ Ok tt → y ≡ and_then x y
and_then-pass (Ok u) y a e d = refl
and_then-pass (Err r) y a e d = clash (cc)

-- ---- a number in its range, or not

pub number_judged-range : (lo hi z : ℤ) (n : ℕ) → number_judged lo hi z n ≡ Ok tt → (lo ≤ℤ z) × (z ≤ℤ hi)
number_judged-range lo hi z n e = by_tests (le_z lo z) (le_z z hi) refl refl e
  where
    by_tests : (a b : Bool) → le_z lo z ≡ a → le_z z hi ≡ b → cond (a && b) (Ok (tt {0})) (Err (Range n)) ≡ Ok tt → (lo ≤ℤ z) × (z ≤ℤ hi)
    by_tests true true p q e = (omega whole, omega whole)
    by_tests true false p q e = clash (cc)
    by_tests false b p q e = clash (cc)

pub number_judged-below : (lo hi z : ℤ) (n : ℕ) → lt_z z lo ≡ true → number_judged lo hi z n ≡ Err (Range n)
number_judged-below lo hi z n h = let e : le_z lo z ≡ false = omega whole in rw e

pub number_judged-above : (lo hi z : ℤ) (n : ℕ) → lt_z z lo ≡ false → lt_z hi z ≡ true → number_judged lo hi z n ≡ Err (Range n)
number_judged-above lo hi z n h g =
    let e : le_z lo z ≡ true = omega whole in
    let d : le_z z hi ≡ false = omega whole in
    rw (e, d)

pub number_judged-inside : (lo hi z : ℤ) (n : ℕ) → lo ≤ℤ z → z ≤ℤ hi → number_judged lo hi z n ≡ Ok tt
number_judged-inside lo hi z n h g =
    let e : le_z lo z ≡ true = omega whole in
    let d : le_z z hi ≡ true = omega whole in
    rw (e, d)

-- ---- readings

-- what is made of a reading, where a refusal becomes what `stop` makes of it, whatever text is left
abbrev pub Ending : {A C : Type 0} → (Refusal → C) → (Reading A → C) → Type 0
Ending {A} {C} stop k = (r : Refusal) (s : List ℕ) → k (refused r s) ≡ stop r

-- ---- a line

-- no key has an LF, and none is long
pub record Key (key : List ℕ) : Type 0 where
  pub bare : len_to LF key ≡ length key
  pub short : length key ≤ longest_key

pub record Keys : Type 0 where
  pub window : Key (bytes "window=")
  pub rounds : Key (bytes "rounds=")
  pub last : Key (bytes "last=")
  pub jobs : Key (bytes "jobs=")
  pub min : Key (bytes "min=")
  pub max : Key (bytes "max=")
  pub release : Key (bytes "release=")
  pub deadline : Key (bytes "deadline=")
  pub bounds : Key (bytes "bounds=")
  pub bound : Key (bytes "bound=")

pub keys : Keys
unfolding bytes len_to
keys =
    record {
      window = record { bare = refl; short = omega arith };
      rounds = record { bare = refl; short = omega arith };
      last = record { bare = refl; short = omega arith };
      jobs = record { bare = refl; short = omega arith };
      min = record { bare = refl; short = omega arith };
      max = record { bare = refl; short = omega arith };
      release = record { bare = refl; short = omega arith };
      deadline = record { bare = refl; short = omega arith };
      bounds = record { bare = refl; short = omega arith };
      bound = record { bare = refl; short = omega arith };
    }

-- a line as it is written, with the text that follows it
line-back : {A : Type 0} (f : List ℕ → Result A Fault) (l s : List ℕ) (n : ℕ) → len_to LF l ≡ length l → line f (l ++ (LF ∷ s)) n ≡ lined (f l) (l ++ (LF ∷ s)) n
unfolding line
line-back f l s n e = rw (has-back LF l s e, before_back LF l s e)

-- a line that is a key and a number
module _ (key : List ℕ) (bare : len_to LF key ≡ length key) (lo hi z : ℤ) (s : List ℕ) (n : ℕ) where
  number_line-back : number_line key lo hi (keyed key z s) n ≡ cond (within lo hi z) (read z s (suc n)) (refused (Range n) (keyed key z s))
  unfolding lined lined_number
  number_line-back =
      rw (sym (append_assoc key (decimal z) (LF ∷ s)))
      (line-back _ (key ++ decimal z) s n (keyed-free key z bare)
      ∙ rw (number_after-back key lo hi (decimal z), number_in-decimal lo hi z)
      (by-range (within lo hi z)))
    where
      by-range : (b : Bool) → lined (lined_number (cond b (Ok z) (Err number_fault.Range))) ((key ++ decimal z) ++ (LF ∷ s)) n
          ≡ cond b (read z s (suc n)) (refused (Range n) ((key ++ decimal z) ++ (LF ∷ s)))
      by-range true = ap (λ (t : List ℕ). read z t (suc n)) (after-back LF (key ++ decimal z) s (keyed-free key z bare))
      by-range false = refl

  number_line-judged : {B C : Type 0} (stop : Refusal → C) (k : Reading B → C) → Ending stop k → (f : ℤ → Reader B)
      → k (next (number_line key lo hi (keyed key z s) n) f) ≡ onward stop (number_judged lo hi z n) (k (f z s (suc n)))
  unfolding next
  number_line-judged {B} {C} stop k ends f = ap (λ m. k (next m f)) number_line-back ∙ by-range (within lo hi z)
    where
      by-range : (b : Bool)
          → k (next (cond b (read z s (suc n)) (refused (Range n) (keyed key z s))) f) ≡ onward stop (cond b (Ok tt) (Err (Range n))) (k (f z s (suc n)))
      by-range true = refl
      by-range false = ends (Range n) (keyed key z s)

-- a line that is a key and a count
count_line-judged : (key : List ℕ) → len_to LF key ≡ length key → (lo hi z : ℕ) (s : List ℕ) (n : ℕ) {B C : Type 0} (stop : Refusal → C) (k : Reading B → C)
    → Ending stop k → (f : ℕ → Reader B)
    → k (next (count_line key lo hi (keyed key (pos z) s) n) f) ≡ onward stop (number_judged (pos lo) (pos hi) (pos z) n) (k (f z s (suc n)))
unfolding next
count_line-judged key bare lo hi z s n stop k ends f =
    number_line-judged key bare (pos lo) (pos hi) (pos z) s n stop (λ m. k (next m f)) ends _

-- ---- jobs

job_lines-judged : {C : Type 0} (j : Job) (s : List ℕ) (n : ℕ) (stop : Refusal → C) (k : Reading Job → C) → Ending stop k
    → k (job_lines (jobs_text (j ∷ []) s) n) ≡ onward stop (job_judged n j) (k (read j s (n + 4)))
unfolding job_lines jobs_text job_judged
job_lines-judged j s n stop k ends =
    let e1 : n + 1 ≡ suc n = omega arith in
    let e2 : n + 2 ≡ suc (suc n) = omega arith in
    let e3 : n + 3 ≡ suc (suc (suc n)) = omega arith in
    let e4 : n + 4 ≡ suc (suc (suc (suc n))) = omega arith in
    rw (e1, e2, e3, e4)
    (number_line-judged (bytes "min=") keys.min.bare (pos 0) longest_running j.min _ n stop k ends _
    ∙ onward-more stop (number_judged (pos 0) longest_running j.min n) _ _
    (λ h₁.
    number_line-judged (bytes "max=") keys.max.bare j.min longest_running j.max _ (suc n) stop k ends _
    ∙ onward-more stop (number_judged j.min longest_running j.max (suc n)) _ _
    (λ h₂.
    number_line-judged (bytes "release=") keys.release.bare (pos 0) latest_deadline j.release _ (suc (suc n)) stop k ends _
    ∙ onward-more stop (number_judged (pos 0) latest_deadline j.release (suc (suc n))) _ _
    (λ h₃. number_line-judged (bytes "deadline=") keys.deadline.bare (pos 0) latest_deadline j.deadline _ (suc (suc (suc n))) stop k ends _))))

jobs_after-judged : {C : Type 0} (done js : List Job) (s : List ℕ) (n : ℕ) (stop : Refusal → C) (k : Reading (List Job) → C) → Ending stop k
    → k (jobs_after done (length js) (jobs_text js s) n) ≡ onward stop (jobs_judged n js) (k (read (done ++ js) s (n + 4 * length js)))
unfolding jobs_after jobs_text jobs_judged next
jobs_after-judged done [] s n stop k ends = let e : n + 4 * 0 ≡ n = omega arith in rw (append-nil done, e)
jobs_after-judged done (j ∷ js) s n stop k ends =
    let e : n + 4 * suc (length js) ≡ n + 4 + 4 * length js = omega arith in
    rw e
    (job_lines-judged j (jobs_text js s) n stop (λ m. k (next m (λ job. jobs_after (done ++ (job ∷ [])) (length js)))) ends
    ∙ onward-more stop (job_judged n j) _ _
    (λ h. jobs_after-judged (done ++ (j ∷ [])) js s (n + 4) stop k ends ∙ ap
    (λ (l : List Job). onward stop (jobs_judged (n + 4) js) (k (read l s (n + 4 + 4 * length js)))) (append_assoc done (j ∷ []) js)))

-- ---- bounds

letter_byte-over : (l : Letter) → 100 < letter_byte l
letter_byte-over This = omega arith
letter_byte-over Next = omega arith

kind_byte-over : (k : Kind) → 100 < kind_byte k
kind_byte-over Start = omega arith
kind_byte-over Finish = omega arith

-- an event's name holds neither LF nor comma
name_bytes-free : (b : ℕ) → is_digit b ≡ false → b ≤ 100 → (e : EventName) → len_to b (name_bytes e) ≡ length (name_bytes e)
name_bytes-free b q h e =
    len_to-other b _ (λ d. omega (arith, letter_byte-over e.letter))
    ∙ ap suc (len_to-other b _ (λ d. omega (arith, kind_byte-over e.kind)) ∙ ap suc (digits-free b (digits e.job) q (digits-all e.job)))

-- two names and a number, with a comma after each name
bound_parts-back : (a b : EventName) (s : List ℕ)
    → bound_parts (some (name_bytes a ++ (comma ∷ (name_bytes b ++ (comma ∷ s))))) ≡ parts_of (event_name (name_bytes a)) (event_name (name_bytes b)) s
unfolding bound_parts
bound_parts-back a b s =
    let fa = name_bytes-free comma refl (omega arith) a in
    let fb = name_bytes-free comma refl (omega arith) b in
    rw (
      has-back comma (name_bytes a) (name_bytes b ++ (comma ∷ s)) fa,
      before_back comma (name_bytes a) (name_bytes b ++ (comma ∷ s)) fa,
      after-back comma
          (name_bytes a) (name_bytes b ++ (comma ∷ s)) fa,
    )
    (rw (has-back comma (name_bytes b) s fb, before_back comma (name_bytes b) s fb, after-back comma (name_bytes b) s fb))

module _ (jobs : ℕ) (given : List Bound) (d : Bound) where
  -- a bound's line has its form where both names have one job digit
  bound_of_line-back : bound_of_line jobs given (bound_bytes d []) ≡ cond (is_one_digit d.a.job && is_one_digit d.b.job)
      (judged_bound jobs (λ a b. is_wrong_pair a b given) d) (Err fault.Form)
  unfolding bound_of
  bound_of_line-back =
      rw (
        append-nil (decimal d.c),
        after_key-back (bytes "bound=")
            (name_bytes d.a ++ (comma ∷ (name_bytes d.b ++ (comma ∷ decimal d.c)))),
        bound_parts-back d.a d.b (decimal d.c),
      )
      (by_digits (ltb d.a.job 10) (ltb d.b.job 10) refl refl)
    where
      by_digits : (x y : Bool) → ltb d.a.job 10 ≡ x → ltb d.b.job 10 ≡ y
          → bound_of jobs (λ a b. is_wrong_pair a b given) (parts_of (event_name (name_bytes d.a)) (event_name (name_bytes d.b)) (decimal d.c))
          ≡ cond (x && y) (judged_bound jobs (λ a b. is_wrong_pair a b given) d) (Err fault.Form)
      by_digits true true p q = rw (
        event_name-back d.a (ltb-true d.a.job 10 p),
        event_name-back d.b (ltb-true d.b.job 10 q),
        decimal-form
            d.c,
      ) (rw (decimal-back d.c))
      by_digits true false p q = rw (event_name-back d.a (ltb-true d.a.job 10 p), event_name-long d.b (ltb-false d.b.job 10 q))
      by_digits false y p q = rw (event_name-long d.a (ltb-false d.a.job 10 p))

  bound_bytes-free : len_to LF (bound_bytes d []) ≡ length (bound_bytes d [])
  unfolding len_to
  bound_bytes-free =
      free-append LF (bytes "bound=") _ keys.bound.bare
      (free-append LF (name_bytes d.a) _ (name_bytes-free LF refl (omega arith) d.a)
      (ap suc
      (free-append LF (name_bytes d.b) _ (name_bytes-free LF refl (omega arith) d.b)
      (ap suc (free-append LF (decimal d.c) [] (decimal-free LF refl (omega arith) d.c) refl)))))

  bound_line-judged : (s : List ℕ) (n : ℕ) {B C : Type 0} (stop : Refusal → C) (k : Reading B → C) → Ending stop k → (f : Bound → Reader B)
      → k (next (line (bound_of_line jobs given) (bound_bytes d (LF ∷ s)) n) f) ≡ onward stop
      (bound_judged jobs (λ a b. is_wrong_pair a b given) n d) (k (f d s (suc n)))
  unfolding next lined bound_judged
  bound_line-judged s n {B} {C} stop k ends f =
      ap (λ t. k (next (line (bound_of_line jobs given) t n) f)) (sym (bound_bytes-append d [] (LF ∷ s)))
      ∙ ap (λ m. k (next m f)) (line-back (bound_of_line jobs given) (bound_bytes d []) s n bound_bytes-free)
      ∙ ap (λ x. k (next (lined x t n) f)) bound_of_line-back
      ∙ by_tests (is_one_digit d.a.job && is_one_digit d.b.job)
      (not (is_job jobs d.a.job && is_job jobs d.b.job && within least_c greatest_c d.c)) (is_wrong_pair d.a d.b given)
    where
      t : List ℕ
      t = bound_bytes d [] ++ (LF ∷ s)

      by_tests : (x y z : Bool) → k (next (lined
          (cond x (cond y (Err fault.Range) (cond z (Err fault.Pair) (Ok d))) (Err fault.Form)) t n) f)
          ≡ onward stop (cond x (line_judged n (cond y (Err fault.Range) (cond z (Err fault.Pair) (Ok d))))
          (Err (Form n))) (k (f d s (suc n)))
      by_tests false y z = ends (Form n) t
      by_tests true true z = ends (Range n) t
      by_tests true false true = ends (Pair n) t
      by_tests true false false = ap (λ (r : List ℕ). k (f d r (suc n))) (after-back LF (bound_bytes d []) s bound_bytes-free)

bounds_after-judged : {C : Type 0} (jobs : ℕ) (given ds : List Bound) (n : ℕ) (stop : Refusal → C) (k : Reading (List Bound) → C) → Ending stop k
    → k (bounds_after jobs given (length ds) (bounds_text ds) n) ≡ onward stop (bounds_judged jobs given n ds) (k (read (given ++ ds) [] (n + length ds)))
unfolding bounds_after bounds_text bounds_judged next
bounds_after-judged jobs given [] n stop k ends = let e : n + 0 ≡ n = omega arith in rw (append-nil given, e)
bounds_after-judged jobs given (d ∷ ds) n stop k ends =
    let e : n + suc (length ds) ≡ n + 1 + length ds = omega arith in
    let e1 : suc n ≡ n + 1 = omega arith in
    rw e
    (bound_line-judged jobs given d (bounds_text ds) n stop k ends (λ b. bounds_after jobs (given ++ (b ∷ [])) (length ds))
    ∙ onward-more stop (bound_judged jobs (λ a b. is_wrong_pair a b given) n d) _ _
    (λ h.
    ap (λ (m : ℕ). k (bounds_after jobs (given ++ (d ∷ [])) (length ds) (bounds_text ds) m)) e1
    ∙ bounds_after-judged jobs (given ++ (d ∷ [])) ds (n + 1) stop k ends
    ∙ ap (λ (l : List Bound). onward stop (bounds_judged jobs (given ++ (d ∷ [])) (n + 1) ds) (k (read l [] (n + 1 + length ds))))
    (append_assoc given (d ∷ []) ds)))

-- ---- the plan

-- the lines after the first four
plan_rest-judged : {C : Type 0} (window : ℤ) (rounds last : ℕ) (js : List Job) (bounds : ℕ) (ds : List Bound) → (bounds ≤ most_bounds → bounds ≡ length ds)
    → (stop : Refusal → C) (k : Reading Plan → C) → Ending stop k
    → k (plan_rest window rounds last (length js) (jobs_text js (keyed (bytes "bounds=") (pos bounds) (bounds_text ds))) 5)
    ≡ onward stop
    (and_then (jobs_judged 5 js)
    (and_then (number_judged (pos 0) (pos most_bounds) (pos bounds) (5 + 4 * length js))
    (bounds_judged (length js) [] (6 + 4 * length js) ds)))
    (k (read (plan_of window rounds last (length js) js bounds ds) [] (6 + 4 * length js + bounds)))
unfolding next
plan_rest-judged {C} window rounds last js bounds ds all stop k ends =
    jobs_after-judged [] js (keyed (bytes "bounds=") (pos bounds) (bounds_text ds)) 5 stop (λ m. k (next m rest)) ends
    ∙ onward-more stop (jobs_judged 5 js) _ _
    (λ h.
    count_line-judged (bytes "bounds=") keys.bounds.bare 0 most_bounds bounds (bounds_text ds) n stop k ends (after_count js)
    ∙ onward-more stop (number_judged (pos 0) (pos most_bounds) (pos bounds) n) _ _
    (λ ok.
    let count : bounds ≡ length ds = all (omega (whole, (number_judged-range (pos 0) (pos most_bounds) (pos bounds) n ok).1)) in
    let e : suc n ≡ 6 + 4 * length js = omega arith in
    ap (λ (b : ℕ). k (next (bounds_after (length js) [] b (bounds_text ds) (suc n)) (last_of js bounds))) count
    ∙ ap (λ (i : ℕ). k (next (bounds_after (length js) [] (length ds) (bounds_text ds) i) (last_of js bounds))) e
    ∙ bounds_after-judged (length js) [] ds (6 + 4 * length js) stop (λ m. k (next m (last_of js bounds))) ends
    ∙ ap (λ (b : ℕ). onward stop (bounds_judged (length js) [] (6 + 4 * length js) ds)
    (k (read (plan_of window rounds last (length js) js bounds ds) [] (6 + 4 * length js + b)))) (sym count)))
  where
    n : ℕ
    n = 5 + 4 * length js

    last_of : List Job → ℕ → List Bound → Reader Plan
    last_of job b bound = answer (plan_of window rounds last (length js) job b bound)

    after_count : List Job → ℕ → Reader Plan
    after_count job b = do
      bound ← bounds_after (length js) [] b
      last_of job b bound

    rest : List Job → Reader Plan
    rest job = do
      b ← count_line (bytes "bounds=") 0 most_bounds
      after_count job b

-- the arrays have their sizes, as every value's have
pub record HasPlaces (p : Plan) : Type 0 where
  pub job-places : length p.job ≡ most_jobs
  pub bound-places : length p.bound ≡ most_bounds

jobs_of-count : (p : Plan) → HasPlaces p → p.jobs ≤ most_jobs → p.jobs ≡ length (jobs_of p)
jobs_of-count p q h = omega (arith, length-take p.jobs p.job, q.job-places)

bounds_of-count : (p : Plan) → HasPlaces p → p.bounds ≤ most_bounds → p.bounds ≡ length (bounds_of p)
bounds_of-count p q h = omega (arith, length-take p.bounds p.bound, q.bound-places)

-- the plan's lines: the refusal of the first that is judged bad; or the plan that is read is the same, with zeros in the places beyond its jobs and bounds
pub plan_lines-judged : {C : Type 0} (p : Plan) → HasPlaces p → (stop : Refusal → C) (k : Reading Plan → C) → Ending stop k
    → k (plan_lines (plan_text p) 1) ≡ onward stop (judged_by_lines p) (k (read (trimmed p) [] (6 + 4 * p.jobs + p.bounds)))
unfolding plan_lines plan_text judged_by_lines trimmed next
plan_lines-judged {C} p q stop k ends =
    number_line-judged (bytes "window=") keys.window.bare (pos 1) longest_window p.window _ 1 stop k ends _
    ∙ onward-more stop (number_judged (pos 1) longest_window p.window 1) _ _
    (λ h₁.
    count_line-judged (bytes "rounds=") keys.rounds.bare 1 most_rounds p.rounds _ 2 stop k ends _
    ∙ onward-more stop (number_judged (pos 1) (pos most_rounds) (pos p.rounds) 2) _ _
    (λ h₂.
    count_line-judged (bytes "last=") keys.last.bare 1 most_windows p.last _ 3 stop k ends _
    ∙ onward-more stop (number_judged (pos 1) (pos most_windows) (pos p.last) 3) _ _
    (λ h₃.
    count_line-judged (bytes "jobs=") keys.jobs.bare 1 most_jobs p.jobs _ 4 stop k ends (λ jobs. plan_rest p.window p.rounds p.last jobs)
    ∙ onward-more stop (number_judged (pos 1) (pos most_jobs) (pos p.jobs) 4) _ _
    (λ ok.
    let count : p.jobs ≡ length (jobs_of p) = jobs_of-count p q (omega (whole, (number_judged-range (pos 1) (pos most_jobs) (pos p.jobs) 4 ok).1)) in
    ap (λ (jobs : ℕ). k (plan_rest p.window p.rounds p.last jobs
    (jobs_text (jobs_of p) (keyed (bytes "bounds=") (pos p.bounds) (bounds_text (bounds_of p)))) 5)) count
    ∙ plan_rest-judged p.window p.rounds p.last (jobs_of p) p.bounds (bounds_of p) (bounds_of-count p q) stop k ends
    ∙ ap (λ (jobs : ℕ). onward stop (lines jobs) (k (read (plan_of p.window p.rounds p.last jobs (jobs_of p) p.bounds (bounds_of p)) []
    (6 + 4 * jobs + p.bounds)))) (sym count)))))
  where
    lines : ℕ → Result Unit Refusal
    lines jobs = and_then (jobs_judged 5 (jobs_of p)) (and_then (number_judged (pos 0) (pos most_bounds) (pos p.bounds) (5 + 4 * jobs))
        (bounds_judged jobs [] (6 + 4 * jobs) (bounds_of p)))

-- what is made of a plan that is read alone
abbrev alone : Reading Plan → Result Unit Refusal
alone m = judged_answer (refusal_of (nothing_after m))

alone-ends : Ending Err alone
unfolding nothing_after refusal_of
alone-ends r s = refl

alone-read : (p : Plan) (n : ℕ) → alone (read p [] n) ≡ Ok tt
unfolding nothing_after refusal_of
alone-read p n = refl

-- 'A plan handed over as a value is judged as its text would be.'
pub judged_plan-is : (p : Plan) → HasPlaces p → length (plan_text p) ≤ longest_text → judged_answer (judged_plan p) ≡ judged_by_lines p
judged_plan-is p q short =
    ap alone (plan_head-short (plan_text p) short)
    ∙ plan_lines-judged p q Err alone alone-ends
    ∙ ap (onward Err (judged_by_lines p)) (alone-read (trimmed p) (6 + 4 * p.jobs + p.bounds))
    ∙ onward-accepted (judged_by_lines p)
