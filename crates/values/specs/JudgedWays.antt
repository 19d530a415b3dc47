-- The laws by which the judging of a value is right: the answer to a line refuses, and is the answer to all (`lines-stop`), or accepts, and the lines that are
-- left decide (`lines-pass`). The lines of a job (`job_judged-lines`), the loop over the jobs (`jobs_judged-next`, `jobs_judged-end`, `JobsHeld`), a bound
-- (`bound_judged-bare`, `-formed`), the loop over the bounds (`BoundsHeld`), and the lines of a plan (`judged_by_lines-lines`).
use Rattle.std.specs.Prelude.{◌≡◌, Result, Ok, Err, Bool, true, false, ◌&&◌, List, [], ◌∷◌, ◌++◌, map, ℕ, ◌+◌, ◌*◌, ◌≤◌, ◌<◌, pos, length, take, drop, set, get_or, replicate}
use Rattle.std.proofs.Math.Path.{refl, sym, ap}
use Rattle.std.proofs.Common.{◌∙◌, add-one, add-zero, arith, length-set, drop_of_length-le, drop-cons, get_or-take, take-suc, take-suc-set}
use Rattle.std.proofs.Math.ListN.{length-take}
use Rattle.std.proofs.lemmas.List.{drop_more}
use Rattle.plan.specs.declared.Job.{Job}
use Rattle.plan.specs.declared.EventName.{EventName}
use Rattle.plan.specs.declared.Bound.{Bound}
use Rattle.plan.specs.declared.Plan.{Plan}
use Rattle.lines.specs.declared.Refusal.{Refusal}
use Rattle.lines.specs.declared.Refusal.TheVariants.{Form}
use Rattle.plan.specs.Limits.{longest_window, most_rounds, most_windows, most_jobs, most_bounds, longest_running, latest_deadline}
use Rattle.plan.specs.PlanLines.{is_wrong_pair, judged_bound, no_job, no_bound}
use Rattle.plan.specs.PlanWritten.{jobs_of, bounds_of}
use Rattle.plan.specs.Accepted.{BoundAccepted}
use Rattle.plan.specs.Pairs.{pair_of, is_wrong_numbered}
use Rattle.plan.specs.PairLaws.{Small}
use Rattle.plan.specs.ListLaws.{All, All-more}
use Rattle.plan.specs.BoundsLoop.{judged_bound-numbered, map_last}
use Rattle.values.specs.PlanJudged.{and_then, number_judged, job_judged, jobs_judged, is_one_digit, line_judged, bound_judged, bounds_judged, judged_by_lines}
use Rattle.values.specs.JudgedLines.{and_then-stop, and_then-pass, HasPlaces}
use Rattle.values.specs.JudgedLaws.{bound_judged-accepted}

-- ---- one line after another

-- w is the answer to the lines from some line on, and a the answer to the first of them
module _ {w : Result Unit Refusal} (x y : Result Unit Refusal) (e : w ≡ and_then x y) (a : Result Unit Refusal) (d : a ≡ x) where
  pub lines-stop : {r : Refusal} → a ≡ Err r → a ≡ w
  lines-stop h = and_then-stop x y a d h ∙ sym e

  pub lines-pass : a ≡ Ok tt → w ≡ y
  lines-pass h = e ∙ sym (and_then-pass x y a d h)

-- ---- a job: the lines that are left are judged as the whole

module _ (n : ℕ) (j : Job) where
  abbrev pub from_release : Result Unit Refusal
  from_release = and_then (number_judged (pos 0) latest_deadline j.release (n + 2)) (number_judged (pos 0) latest_deadline j.deadline (n + 3))

  abbrev pub from_max : Result Unit Refusal
  from_max = and_then (number_judged j.min longest_running j.max (n + 1)) from_release

  pub job_judged-lines : job_judged n j ≡ and_then (number_judged (pos 0) longest_running j.min n) from_max
  unfolding job_judged
  job_judged-lines = refl

-- ---- the loop over the jobs

-- the jobs from place i on: the one there, and those after it; or none are left
module _ (js : List Job) (i : ℕ) where
  pub jobs_judged-next : i < length js → jobs_judged (5 + 4 * i) (drop i js)
      ≡ and_then (job_judged (5 + 4 * i) (get_or js i no_job)) (jobs_judged (5 + 4 * (i + 1)) (drop (i + 1) js))
  unfolding jobs_judged
  jobs_judged-next l =
      ap (jobs_judged (5 + 4 * i)) (drop_more js i no_job l)
      ∙ ap (λ (n : ℕ). and_then (job_judged (5 + 4 * i) (get_or js i no_job)) (jobs_judged n (drop (i + 1) js))) (omega arith)

  pub jobs_judged-end : length js ≤ i → jobs_judged (5 + 4 * i) (drop i js) ≡ Ok tt
  unfolding jobs_judged
  jobs_judged-end l = ap (jobs_judged (5 + 4 * i)) (drop_of_length-le js {i = i} l)

pub ruleset jobs_loop = (jobs_judged-next, jobs_judged-end)

-- of a plan's jobs: what is left is judged as the whole
pub record JobsHeld (p : Plan) (n i : ℕ) : Type 0 where
  pub count : i ≤ p.jobs
  pub number : n ≡ 5 + 4 * i
  pub left : jobs_judged 5 (jobs_of p) ≡ jobs_judged n (drop i (jobs_of p))

pub JobsHeld-start : (p : Plan) → JobsHeld p 5 0
JobsHeld-start p = record { count = omega arith; number = refl; left = refl }

module _ (p : Plan) (q : HasPlaces p) (few : p.jobs ≤ most_jobs) (n i : ℕ) (h : JobsHeld p n i) where
  next-job : i < p.jobs → drop i (jobs_of p) ≡ get_or p.job i no_job ∷ drop (i + 1) (jobs_of p)
  next-job l =
      drop-cons (jobs_of p) i no_job (omega (arith, length-take p.jobs p.job, q.job-places))
      ∙ rw (get_or-take p.jobs p.job i no_job l, add-one i)

  one-job : i < p.jobs → jobs_judged 5 (jobs_of p) ≡ and_then (job_judged n (get_or p.job i no_job)) (jobs_judged (n + 4) (drop (i + 1) (jobs_of p)))
  unfolding jobs_judged
  one-job l = h.left ∙ ap (jobs_judged n) (next-job l)

  module _ (l : i < p.jobs) (a : Result Unit Refusal) (e : a ≡ job_judged n (get_or p.job i no_job)) where
    pub JobsHeld-stop : {r : Refusal} → a ≡ Err r → a ≡ jobs_judged 5 (jobs_of p)
    JobsHeld-stop d = and_then-stop (job_judged n (get_or p.job i no_job)) _ a e d ∙ sym (one-job l)

    pub JobsHeld-past : a ≡ Ok tt → JobsHeld p (n + 4) (i + 1)
    JobsHeld-past d =
        record {
          count = omega arith;
          number = omega (arith, h.number);
          left = one-job l ∙ sym (and_then-pass (job_judged n (get_or p.job i no_job)) _ a e d);
        }

  pub JobsHeld-end : p.jobs ≤ i → Ok tt ≡ jobs_judged 5 (jobs_of p)
  unfolding jobs_judged
  JobsHeld-end l = sym (h.left ∙ ap (jobs_judged n) (drop_of_length-le (jobs_of p) {i = i} (omega (arith, length-take p.jobs p.job))))

-- ---- a bound

module _ (jobs : ℕ) (is_wrong : EventName → EventName → Bool) (n : ℕ) (d : Bound) where
  pub bound_judged-bare : is_one_digit d.a.job && is_one_digit d.b.job ≡ false → bound_judged jobs is_wrong n d ≡ Err (Form n)
  unfolding bound_judged
  bound_judged-bare h = rw h

  pub bound_judged-formed : is_one_digit d.a.job && is_one_digit d.b.job ≡ true → bound_judged jobs is_wrong n d ≡ line_judged n (judged_bound jobs is_wrong d)
  unfolding bound_judged
  bound_judged-formed h = rw h

-- the pairs given, by their numbers
bound_judged-numbered : (jobs : ℕ) → jobs ≤ most_jobs → (given : List Bound) → All (λ d. Small d.a d.b) given → (codes : List ℕ)
    → codes ≡ map pair_of given → (n : ℕ) (d : Bound)
    → bound_judged jobs (is_wrong_numbered codes) n d ≡ bound_judged jobs (λ a b. is_wrong_pair a b given) n d
unfolding bound_judged
bound_judged-numbered jobs few given small codes e n d = rw (e, judged_bound-numbered jobs few given small d)

-- ---- the loop over the bounds: what is left is judged as the whole

-- after i of the bounds ds of a plan with so many jobs
pub record BoundsHeld (jobs : ℕ) (ds : List Bound) (given : List ℕ) (i : ℕ) : Type 0 where
  pub codes : length given ≡ most_bounds
  pub coded : take i given ≡ map pair_of (take i ds)
  pub small : All (λ d. Small d.a d.b) (take i ds)
  pub left : bounds_judged jobs [] (6 + 4 * jobs) ds ≡ bounds_judged jobs (take i ds) (6 + 4 * jobs + i) (drop i ds)

pub BoundsHeld-start : (jobs : ℕ) (ds : List Bound) → BoundsHeld jobs ds (replicate most_bounds 0) 0
BoundsHeld-start jobs ds = record { codes = refl; coded = refl; small = tt; left = rw (add-zero (6 + 4 * jobs)) refl }

module _ (jobs : ℕ) (few : jobs ≤ most_jobs) (ds : List Bound) (few-bounds : length ds ≤ most_bounds) (given : List ℕ) (i : ℕ)
    (h : BoundsHeld jobs ds given i) where
  abbrev next : Bound
  next = get_or ds i no_bound

  same-bound : (d : Bound) → bound_judged jobs (is_wrong_numbered (take i given)) (6 + 4 * jobs + i) d
      ≡ bound_judged jobs (λ a b. is_wrong_pair a b (take i ds)) (6 + 4 * jobs + i) d
  same-bound = bound_judged-numbered jobs few (take i ds) h.small (take i given) h.coded (6 + 4 * jobs + i)

  pub BoundsHeld-next : i < length ds → bounds_judged jobs [] (6 + 4 * jobs) ds
      ≡ and_then (bound_judged jobs (is_wrong_numbered (take i given)) (6 + 4 * jobs + i) next)
      (bounds_judged jobs (take i ds ++ (next ∷ [])) (6 + 4 * jobs + i + 1) (drop (i + 1) ds))
  unfolding bounds_judged
  BoundsHeld-next l =
      h.left
      ∙ ap (bounds_judged jobs (take i ds) (6 + 4 * jobs + i)) (drop_more ds i no_bound l)
      ∙ sym (ap (λ (x : Result Unit Refusal). and_then x (bounds_judged jobs (take i ds ++ (next ∷ [])) (6 + 4 * jobs + i + 1) (drop (i + 1) ds)))
      (same-bound next))

  pub BoundsHeld-past : i < length ds → bound_judged jobs (is_wrong_numbered (take i given)) (6 + 4 * jobs + i) next ≡ Ok tt
      → (code : ℕ) → code ≡ pair_of next → BoundsHeld jobs ds (set given i code) (i + 1)
  BoundsHeld-past l d code k =
      record {
        codes = length-set given i code ∙ h.codes;
        coded =
            codes-taken
            ∙ ap (λ (x : List ℕ). x ++ (code ∷ [])) h.coded
            ∙ ap (λ (c : ℕ). map pair_of (take i ds) ++ (c ∷ [])) k
            ∙ sym (ap (map pair_of) taken ∙ map_last (take i ds) next);
        small = rw taken (All-more (λ d. Small d.a d.b) (take i ds) next h.small
            (record { a_small = omega (arith, accepted.a-most); b-small = omega (arith, accepted.b-most) }));
        left =
            BoundsHeld-next l
            ∙ ap (λ (x : Result Unit Refusal). and_then x (bounds_judged jobs (take i ds ++ (next ∷ [])) (6 + 4 * jobs + i + 1) (drop (i + 1) ds))) d
            ∙ rw taken (ap (λ (n : ℕ). bounds_judged jobs (take i ds ++ (next ∷ [])) n (drop (i + 1) ds)) numbered);
      }
    where
      accepted : BoundAccepted jobs next
      accepted = (bound_judged-accepted jobs (take i ds) (6 + 4 * jobs + i) next (sym (same-bound next) ∙ d)).0

      taken : take (i + 1) ds ≡ take i ds ++ (next ∷ [])
      taken = rw (add-one i) (take-suc ds i no_bound l)

      numbered : 6 + 4 * jobs + i + 1 ≡ 6 + 4 * jobs + (i + 1)
      numbered = omega arith

      codes-taken : take (i + 1) (set given i code) ≡ take i given ++ (code ∷ [])
      codes-taken = rw (add-one i) (take-suc-set given i code (omega (arith, h.codes)))

  pub BoundsHeld-end : length ds ≤ i → bounds_judged jobs [] (6 + 4 * jobs) ds ≡ Ok tt
  unfolding bounds_judged
  BoundsHeld-end l = h.left ∙ ap (bounds_judged jobs (take i ds) (6 + 4 * jobs + i)) (drop_of_length-le ds {i = i} l)

-- where the bound is refused, so are all
module _ (jobs : ℕ) (few : jobs ≤ most_jobs) (ds : List Bound) (few-bounds : length ds ≤ most_bounds) (given : List ℕ) (i : ℕ)
    (h : BoundsHeld jobs ds given i) where
  pub BoundsHeld-stop : i < length ds → (a : Result Unit Refusal) → a ≡ bound_judged jobs (is_wrong_numbered (take i given)) (6 + 4 * jobs + i) (get_or ds i no_bound)
      → {r : Refusal} → a ≡ Err r → a ≡ bounds_judged jobs [] (6 + 4 * jobs) ds
  BoundsHeld-stop l a e d =
      and_then-stop (bound_judged jobs (is_wrong_numbered (take i given)) (6 + 4 * jobs + i) (get_or ds i no_bound)) _ a e d
      ∙ sym (BoundsHeld-next jobs few ds few-bounds given i h l)

pub ruleset bounds_loop = (BoundsHeld-start, BoundsHeld-next, BoundsHeld-past, BoundsHeld-end)

-- ---- the plan: the lines that are left are judged as the whole

module _ (p : Plan) where
  abbrev pub from_count : Result Unit Refusal
  from_count = and_then (number_judged (pos 0) (pos most_bounds) (pos p.bounds) (5 + 4 * p.jobs)) (bounds_judged p.jobs [] (6 + 4 * p.jobs) (bounds_of p))

  abbrev pub from_jobs : Result Unit Refusal
  from_jobs = and_then (number_judged (pos 1) (pos most_jobs) (pos p.jobs) 4) (and_then (jobs_judged 5 (jobs_of p)) from_count)

  abbrev pub from_rounds : Result Unit Refusal
  from_rounds = and_then (number_judged (pos 1) (pos most_rounds) (pos p.rounds) 2) (and_then (number_judged (pos 1) (pos most_windows) (pos p.last) 3) from_jobs)

  pub judged_by_lines-lines : judged_by_lines p ≡ and_then (number_judged (pos 1) longest_window p.window 1) from_rounds
  unfolding judged_by_lines
  judged_by_lines-lines = refl
