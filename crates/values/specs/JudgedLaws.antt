-- A plan as a value is judged good exactly where it is accepted: `judged_plan-accepted` (of the answer `judged_answer-accepted`) and `accepted-judged`, by way
-- of the judgement line by line (`judged_by_lines-accepted`, `accepted-by_lines`). That this is the judgement of the text stands in `JudgedLines`, and the
-- text's length in `JudgedLength`.
use Rattle.std.specs.Prelude.{◌≡◌, Result, Ok, Err, Bool, not, ◌&&◌, ℕ, suc, ◌+◌, ◌*◌, ◌≤◌, ◌<◌, ℤ, pos, negsuc, length, take, get_or, ◌≤ℤ◌}
use Rattle.std.proofs.Math.Path.{refl}
use Rattle.std.proofs.Common.{sym, ◌∙◌, ap, arith, length-take, get_or-take, take-take, SFits}
use Rattle.std.proofs.Math.Bool.{true, false, cond}
use mathlib.Core.List.{List, [], ◌∷◌, ◌++◌, append-nil, append_assoc}
use Rattle.std.proofs.Math.Option.{Option, none, some}
use borrow.Author.Tests.{lt-ltb, le-leb}
use Rattle.std.specs.Int.Signed.{le_z}
use Rattle.std.specs.Int.{w64}
use Rattle.whole.specs.Clash.{clash}
use Rattle.whole.specs.Rules.{whole}
use Rattle.lines.specs.declared.Fault.TheVariants as fault
use Rattle.plan.specs.declared.Job.{Job}
use Rattle.plan.specs.declared.Bound.{Bound}
use Rattle.plan.specs.declared.Plan.{Plan}
use Rattle.lines.specs.declared.Refusal.{Refusal}
use Rattle.lines.specs.declared.Refusal.TheVariants.{Form}
use Rattle.lines.specs.Reading.{longest_text, Reading, read, refused}
use Rattle.plan.specs.Limits.{longest_window, most_rounds, most_windows, most_jobs, longest_running, latest_deadline, most_bounds, least_c, greatest_c}
use Rattle.plan.specs.PlanLines.{is_job, is_wrong_pair, no_job, no_bound, plan_alone}
use Rattle.plan.specs.PlanWritten.{jobs_of, bounds_of, plan_text, refusal_of, judged_plan}
use Rattle.values.specs.PlanJudged.{
  judged_answer,
  and_then,
  number_judged,
  job_judged,
  jobs_judged,
  is_one_digit,
  line_judged,
  bound_judged,
  bounds_judged,
  judged_by_lines,
}
use Rattle.plan.specs.Accepted.{JobAccepted, BoundAccepted, Accepted}
use Rattle.plan.specs.ListLaws.{All, All-at, All-of, All-map}
use Rattle.plan.specs.PlanLaws.{is_job-range, AllBounds, AllBounds-at, plan_alone-fits}
use Rattle.values.specs.JudgedLines.{number_judged-range, number_judged-inside, HasPlaces, judged_plan-is}
use Rattle.values.specs.JudgedLength.{JobFits, BoundFits, PlanFits, plan_text-short}

-- ---- judged good, so accepted

and_then-both : (x y : Result Unit Refusal) → and_then x y ≡ Ok tt → (x ≡ Ok tt) × (y ≡ Ok tt)
and_then-both (Ok u) y e = (refl, e)
and_then-both (Err r) y e = clash (cc)

job_judged-accepted : (n : ℕ) (j : Job) → job_judged n j ≡ Ok tt → JobAccepted j
unfolding job_judged
job_judged-accepted n j e =
    let q1 = and_then-both (number_judged (pos 0) longest_running j.min n) _ e in
    let q2 = and_then-both (number_judged j.min longest_running j.max (n + 1)) _ q1.1 in
    let q3 = and_then-both (number_judged (pos 0) latest_deadline j.release (n + 2)) _ q2.1 in
    let r1 = number_judged-range (pos 0) longest_running j.min n q1.0 in
    let r2 = number_judged-range j.min longest_running j.max (n + 1) q2.0 in
    let r3 = number_judged-range (pos 0) latest_deadline j.release (n + 2) q3.0 in
    let r4 = number_judged-range (pos 0) latest_deadline j.deadline (n + 3) q3.1 in
    record { min-least = r1.0; min-most = r2.0; max-most = r2.1; release-least = r3.0; release-most = r3.1; deadline-least = r4.0; deadline-most = r4.1 }

jobs_judged-accepted : (n : ℕ) (js : List Job) → jobs_judged n js ≡ Ok tt → All JobAccepted js
unfolding jobs_judged
jobs_judged-accepted n [] e = tt
jobs_judged-accepted n (j ∷ js) e =
    let q = and_then-both (job_judged n j) (jobs_judged (n + 4) js) e in
    (job_judged-accepted n j q.0, jobs_judged-accepted (n + 4) js q.1)

module _ (jobs : ℕ) (given : List Bound) (n : ℕ) (d : Bound) where
  pub bound_judged-accepted : bound_judged jobs (λ a b. is_wrong_pair a b given) n d ≡ Ok tt
      → BoundAccepted jobs d × (is_wrong_pair d.a d.b given ≡ false)
  unfolding bound_judged
  bound_judged-accepted e =
      by_tests (is_one_digit d.a.job && is_one_digit d.b.job) (is_job jobs d.a.job) (is_job jobs d.b.job) (le_z least_c d.c)
      (le_z d.c greatest_c) (is_wrong_pair d.a d.b given) refl refl refl refl refl e
    where
      by_tests : (x p q l m w : Bool) → is_job jobs d.a.job ≡ p → is_job jobs d.b.job ≡ q → le_z least_c d.c ≡ l → le_z d.c greatest_c ≡ m
          → is_wrong_pair d.a d.b given ≡ w
          → cond x (line_judged n (cond (not (p && q && (l && m))) (Err fault.Range) (cond w (Err fault.Pair) (Ok d))))
          (Err (Form n)) ≡ Ok tt
          → BoundAccepted jobs d × (is_wrong_pair d.a d.b given ≡ false)
      by_tests true true true true true false hp hq hl hm hw e =
          let ra = is_job-range jobs d.a.job hp in
          let rb = is_job-range jobs d.b.job hq in
          (record { a-least = ra.0; a-most = ra.1; b-least = rb.0; b-most = rb.1; c-least = omega whole; c-most = omega whole }, hw)
      by_tests true true true true true true hp hq hl hm hw e = clash (cc)
      by_tests true true true true false w hp hq hl hm hw e = clash (cc)
      by_tests true true true false m w hp hq hl hm hw e = clash (cc)
      by_tests true true false l m w hp hq hl hm hw e = clash (cc)
      by_tests true false q l m w hp hq hl hm hw e = clash (cc)
      by_tests false p q l m w hp hq hl hm hw e = clash (cc)

bounds_judged-accepted : (jobs : ℕ) (given : List Bound) (n : ℕ) (ds : List Bound) → bounds_judged jobs given n ds ≡ Ok tt → AllBounds jobs given ds
unfolding bounds_judged
bounds_judged-accepted jobs given n [] e = tt
bounds_judged-accepted jobs given n (d ∷ ds) e =
    let q = and_then-both (bound_judged jobs (λ a b. is_wrong_pair a b given) n d) (bounds_judged jobs (given ++ (d ∷ [])) (n + 1) ds) e in
    let r = bound_judged-accepted jobs given n d q.0 in
    (r.0, r.1, bounds_judged-accepted jobs (given ++ (d ∷ [])) (n + 1) ds q.1)

judged_by_lines-accepted : (p : Plan) → HasPlaces p → judged_by_lines p ≡ Ok tt → Accepted p
unfolding judged_by_lines
judged_by_lines-accepted p l e =
    let q1 = and_then-both (number_judged (pos 1) longest_window p.window 1) _ e in
    let q2 = and_then-both (number_judged (pos 1) (pos most_rounds) (pos p.rounds) 2) _ q1.1 in
    let q3 = and_then-both (number_judged (pos 1) (pos most_windows) (pos p.last) 3) _ q2.1 in
    let q4 = and_then-both (number_judged (pos 1) (pos most_jobs) (pos p.jobs) 4) _ q3.1 in
    let q5 = and_then-both (jobs_judged 5 (jobs_of p)) _ q4.1 in
    let q6 = and_then-both (number_judged (pos 0) (pos most_bounds) (pos p.bounds) (5 + 4 * p.jobs)) _ q5.1 in
    let r1 = number_judged-range (pos 1) longest_window p.window 1 q1.0 in
    let r2 = number_judged-range (pos 1) (pos most_rounds) (pos p.rounds) 2 q2.0 in
    let r3 = number_judged-range (pos 1) (pos most_windows) (pos p.last) 3 q3.0 in
    let r4 = number_judged-range (pos 1) (pos most_jobs) (pos p.jobs) 4 q4.0 in
    let r6 = number_judged-range (pos 0) (pos most_bounds) (pos p.bounds) (5 + 4 * p.jobs) q6.0 in
    let few : p.jobs ≤ most_jobs = omega (whole, r4.1) in
    let few-bounds : p.bounds ≤ most_bounds = omega (whole, r6.1) in
    let js = jobs_judged-accepted 5 (jobs_of p) q5.0 in
    let ds = bounds_judged-accepted p.jobs [] (6 + 4 * p.jobs) (bounds_of p) q6.1 in
    record {
      window-least = r1.0;
      window-most = r1.1;
      rounds-least = omega (whole, r2.0);
      rounds-most = omega (whole, r2.1);
      last-least = omega (whole, r3.0);
      last-most = omega (whole, r3.1);
      jobs-least = omega (whole, r4.0);
      jobs-most = few;
      bounds-most = few-bounds;
      job-places = l.job-places;
      bound-places = l.bound-places;
      job-at = λ i h. rw (get_or-take p.jobs p.job i no_job h) at
          (All-at JobAccepted (jobs_of p) no_job i js (omega (arith, length-take p.jobs p.job, l.job-places)));
      bound_at = λ i h. rw (get_or-take p.bounds p.bound i no_bound h) at
          (AllBounds-at p.jobs [] (bounds_of p) i ds (omega (arith, length-take p.bounds p.bound, l.bound-places))).0;
      pair-at = λ i h.
          rw (get_or-take p.bounds p.bound i no_bound h, take-take i p.bounds p.bound (omega arith))
          at (AllBounds-at p.jobs [] (bounds_of p) i ds (omega (arith, length-take p.bounds p.bound, l.bound-places))).1;
    }

-- the answer has the refusal, or there is none
pub judged_answer-none : (o : Option Refusal) → judged_answer o ≡ Ok tt → o ≡ none
judged_answer-none none e = refl
judged_answer-none (some r) e = clash (cc)

pub judged_answer-some : (o : Option Refusal) (x : Refusal) → judged_answer o ≡ Err x → o ≡ some x
judged_answer-some none x e = clash (cc)
judged_answer-some (some r) x e = let same : r ≡ x = cc in ap some same

-- 'A plan handed over as a value is judged as its text would be': where its text would be read, it is accepted
pub judged_plan-accepted : (p : Plan) → HasPlaces p → judged_plan p ≡ none → Accepted p
unfolding refusal_of
judged_plan-accepted p l e = judged_by_lines-accepted p l (sym (judged_plan-is p l (by-reading (plan_alone (plan_text p)) refl e)) ∙ ap judged_answer e)
  where
    by-reading : (m : Reading Plan) → plan_alone (plan_text p) ≡ m → refusal_of m ≡ none → length (plan_text p) ≤ longest_text
    by-reading (read q t n) d e = plan_alone-fits (plan_text p) d
    by-reading (refused r t) d e = clash (cc)

-- the same of the answer a to a plan
pub judged_answer-accepted : (p : Plan) → HasPlaces p → (a : Result Unit Refusal) → a ≡ judged_answer (judged_plan p) → a ≡ Ok tt → Accepted p
judged_answer-accepted p l a e d = judged_plan-accepted p l (judged_answer-none (judged_plan p) (sym e ∙ d))

-- ---- accepted, so judged good

accepted-job_judged : (n : ℕ) (j : Job) → JobAccepted j → job_judged n j ≡ Ok tt
unfolding job_judged
accepted-job_judged n j a =
    rw (
      number_judged-inside (pos 0) longest_running j.min n a.min-least (omega (whole, a.min-most, a.max-most)),
      number_judged-inside j.min longest_running j.max (n + 1) a.min-most a.max-most,
      number_judged-inside (pos 0) latest_deadline j.release (n + 2) a.release-least a.release-most,
    )
    (number_judged-inside (pos 0) latest_deadline j.deadline (n + 3) a.deadline-least a.deadline-most)

accepted-jobs_judged : (n : ℕ) (js : List Job) → All JobAccepted js → jobs_judged n js ≡ Ok tt
unfolding jobs_judged
accepted-jobs_judged n [] a = refl
accepted-jobs_judged n (j ∷ js) a = rw (accepted-job_judged n j a.0) (accepted-jobs_judged (n + 4) js a.1)

module _ (jobs : ℕ) (few : jobs ≤ most_jobs) where
  accepted-bound_judged : (given : List Bound) (n : ℕ) (d : Bound) → BoundAccepted jobs d → is_wrong_pair d.a d.b given ≡ false
      → bound_judged jobs (λ a b. is_wrong_pair a b given) n d ≡ Ok tt
  unfolding bound_judged
  accepted-bound_judged given n d a w =
      let cl : le_z least_c d.c ≡ true = omega (whole, a.c-least) in
      let cm : le_z d.c greatest_c ≡ true = omega (whole, a.c-most) in
      rw (
        lt-ltb d.a.job 10 (omega (arith, a.a-most)),
        lt-ltb d.b.job 10 (omega (arith, a.b-most)),
        le-leb 1 d.a.job a.a-least,
        le-leb d.a.job jobs a.a-most,
        le-leb 1 d.b.job a.b-least,
        le-leb d.b.job jobs a.b-most,
        cl,
        cm,
        w,
      )

  accepted-bounds_judged : (given : List Bound) (n : ℕ) (ds : List Bound) → AllBounds jobs given ds → bounds_judged jobs given n ds ≡ Ok tt
  unfolding bounds_judged
  accepted-bounds_judged given n [] a = refl
  accepted-bounds_judged given n (d ∷ ds) a = rw (accepted-bound_judged given n d a.0 a.1) (accepted-bounds_judged (given ++ (d ∷ [])) (n + 1) ds a.2)

-- what holds at each place holds of all
AllBounds-of : (jobs : ℕ) (given ds : List Bound) →
    ((i : ℕ) → i < length ds → BoundAccepted jobs (get_or ds i no_bound) ×
    (is_wrong_pair (get_or ds i no_bound).a (get_or ds i no_bound).b (given ++ take i ds) ≡ false)) → AllBounds jobs given ds
AllBounds-of jobs given [] f = tt
AllBounds-of jobs given (d ∷ ds) f =
    let q = f 0 (omega arith) in
    (q.0, rw append-nil at q.1, AllBounds-of jobs (given ++ (d ∷ [])) ds (λ i h. let r = f (suc i) (omega arith) in (r.0, rw append_assoc r.1)))

module _ (p : Plan) (a : Accepted p) where
  jobs-accepted : All JobAccepted (jobs_of p)
  jobs-accepted = All-of JobAccepted p.job no_job p.jobs (omega (arith, a.jobs-most, a.job-places)) a.job-at

  bounds-accepted : AllBounds p.jobs [] (bounds_of p)
  bounds-accepted =
      AllBounds-of p.jobs [] (bounds_of p)
      (λ i h.
      let l : i < p.bounds = omega (arith, length-take p.bounds p.bound) in (
        rw (get_or-take p.bounds p.bound i no_bound l) (a.bound_at i l),
        rw
            (get_or-take p.bounds p.bound i no_bound l, take-take i p.bounds p.bound (omega arith)) (a.pair-at i l),
      ))

  pub accepted-by_lines : judged_by_lines p ≡ Ok tt
  unfolding judged_by_lines
  accepted-by_lines =
      rw (
        number_judged-inside (pos 1) longest_window p.window 1 a.window-least a.window-most,
        number_judged-inside (pos 1) (pos most_rounds) (pos p.rounds) 2 (omega (whole, a.rounds-least)) (omega (whole, a.rounds-most)),
        number_judged-inside (pos 1) (pos most_windows) (pos p.last) 3 (omega (whole, a.last-least)) (omega (whole, a.last-most)),
        number_judged-inside (pos 1) (pos most_jobs) (pos p.jobs) 4 (omega (whole, a.jobs-least)) (omega (whole, a.jobs-most)),
        accepted-jobs_judged 5 (jobs_of p) jobs-accepted,
        number_judged-inside (pos 0) (pos most_bounds) (pos p.bounds) (5 + 4 * p.jobs) (omega whole) (omega (whole, a.bounds-most)),
      )
      (accepted-bounds_judged p.jobs a.jobs-most [] (6 + 4 * p.jobs) (bounds_of p) bounds-accepted)

  pub accepted-fits : PlanFits p
  accepted-fits =
      record {
        placed = record { job-places = a.job-places; bound-places = a.bound-places };
        window = fits p.window (omega (whole, a.window-least)) (omega (whole, a.window-most));
        rounds = omega (arith, a.rounds-most);
        last = omega (arith, a.last-most);
        jobs = omega (arith, a.jobs-most);
        bounds = omega (arith, a.bounds-most);
        job-fits = All-map job-fits (jobs_of p) jobs-accepted;
        bound-fits = All-map bound-fits (bounds_of p) (All-of (BoundAccepted p.jobs) p.bound no_bound p.bounds
            (omega (arith, a.bounds-most, a.bound-places)) a.bound_at);
      }
    where
      fits : (z : ℤ) → least_c ≤ℤ z → z ≤ℤ greatest_c → SFits w64 z
      fits (pos n) h g = record { sfits = omega (whole, g) }
      fits (negsuc n) h g = record { sfits = omega (whole, h) }

      job-fits : (j : Job) → JobAccepted j → JobFits j
      job-fits j b =
          record {
            min = fits j.min (omega (whole, b.min-least)) (omega (whole, b.min-most, b.max-most));
            max = fits j.max (omega (whole, b.min-least, b.min-most)) (omega (whole, b.max-most));
            release = fits j.release (omega (whole, b.release-least)) (omega (whole, b.release-most));
            deadline = fits j.deadline (omega (whole, b.deadline-least)) (omega (whole, b.deadline-most));
          }

      bound-fits : (d : Bound) → BoundAccepted p.jobs d → BoundFits d
      bound-fits d b =
          record { a-job = omega (arith, b.a-most, a.jobs-most); b-job = omega (arith, b.b-most, a.jobs-most); c = fits d.c b.c-least b.c-most }

-- the converse: an accepted plan's text is read
pub accepted-judged : (p : Plan) → Accepted p → judged_plan p ≡ none
accepted-judged p a = judged_answer-none (judged_plan p) (judged_plan-is p f.placed (plan_text-short p f) ∙ accepted-by_lines p a)
  where
    f : PlanFits p
    f = accepted-fits p a
