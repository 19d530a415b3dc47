-- What is known of an accepted text and its plan: the plan is accepted (`plan_head-accepted`, `plan_alone-accepted`), the text is the plan written out
-- (`plan_head-written`, `plan_alone-written`), the places beyond the plan's jobs and bounds hold zeros (`-trimmed`), and the text is short enough (`-fits`). So a
-- plan that was read and is written out is read again as the same plan (`plan_alone-again`), and no two texts are the same plan (`plan_alone-unique`).
-- `job_lines-then`, `jobs_after-then`, `bound_parts-read`, `bound_of_line-read`, `bounds_after-then` and `plan_lines-read` say it of the lines and their groups.
use Rattle.std.specs.Prelude.{◌≡◌, refl, Bool, true, false, not, cond, ◌&&◌, List, [], ◌∷◌, ◌++◌, ℕ, zero, suc, ◌≤◌, ◌<◌, leb, ℤ, pos, length, take, get_or, Option, Some, None, Ok, Err}
use Rattle.std.proofs.Common.{sym, ◌∙◌, ap, subst, append_assoc, append-nil, arith, leb-true}
use Rattle.std.proofs.Math.Option as math
use Rattle.std.specs.Int.Signed.{le_z}
use Rattle.whole.specs.Clash.{clash}
use Rattle.whole.specs.Rules.{whole}
use Rattle.text.specs.Bytes.{bytes}
use Rattle.text.specs.Lines.{LF, comma, before, has, after, after_key}
use Rattle.text.specs.LineLaws.{has_split, after_key-split}
use Rattle.text.specs.NumberLaws.{number-back}
use Rattle.text.specs.Numbers.{is_number, number_value, decimal}
use Rattle.lines.specs.declared.Fault.TheVariants as fault
use Rattle.plan.specs.declared.Job.{Job}
use Rattle.plan.specs.declared.EventName.{EventName}
use Rattle.plan.specs.declared.Bound.{Bound}
use Rattle.plan.specs.declared.Plan.{Plan}
use Rattle.lines.specs.Reading.{longest_text, Reading, read, refused, Reader, next}
use Rattle.plan.specs.Limits.{most_jobs, most_bounds, least_c, greatest_c}
use Rattle.lines.specs.Refusals.{too_long}
use Rattle.plan.specs.PlanLines.{
  job_lines,
  jobs_after,
  BoundParts,
  parts_of,
  bound_parts,
  is_job,
  is_wrong_pair,
  bound_of,
  bound_of_line,
  bounds_after,
  no_job,
  no_bound,
  filled,
  plan_of,
  plan_lines,
  plan_head,
  nothing_after,
  plan_alone,
}
use Rattle.plan.specs.EventNames.{name_bytes, event_name}
use Rattle.plan.specs.EventNameLaws.{event_name-written}
use Rattle.lines.specs.Keyed.{keyed}
use Rattle.plan.specs.PlanWritten.{bound_bytes, jobs_text, bounds_text, trimmed, plan_text}
use Rattle.plan.specs.ListLaws.{All, All-at, filled-length, filled_at, filled-take, filled-all}
use Rattle.plan.specs.Accepted.{JobAccepted, BoundAccepted, Accepted}
use Rattle.lines.specs.ReadingLaws.{Then, in_turn as ◌>>=◌, next-then, next_of, line_read, line-written, number_line-then, count_line-then}

-- ---- jobs

pub record JobFromText (s : List ℕ) (j : Job) (t : List ℕ) : Type 0 where
  pub accepted : JobAccepted j
  pub written : s ≡ jobs_text (j ∷ []) t

job_lines-then : {B : Type 0} (s : List ℕ) (n : ℕ) (f : Job → Reader B) {b : B} {t : List ℕ} {k : ℕ}
    → next (job_lines s n) f ≡ read b t k → Then (λ j r i. JobFromText s j r) f b t k
unfolding job_lines jobs_text next
job_lines-then s n f e = do
  all ← next-then (job_lines s n) f e
  min ← number_line-then _ _ _ _ _ _ all.told
  max ← number_line-then _ _ _ _ _ _ min.more
  release ← number_line-then _ _ _ _ _ _ max.more
  deadline ← number_line-then _ _ _ _ _ _ release.more
  record {
    got = record { min = min.got; max = max.got; release = release.got; deadline = deadline.got };
    left = deadline.left;
    line = deadline.line;
    told = record {
      accepted = record {
        min-least = min.told.least;
        min-most = max.told.least;
        max-most = max.told.most;
        release-least = release.told.least;
        release-most = release.told.most;
        deadline-least = deadline.told.least;
        deadline-most = deadline.told.most;
      };
      written =
          min.told.written
          ∙ ap (keyed (bytes "min=") min.got)
          (max.told.written
          ∙ ap (keyed (bytes "max=") max.got) (release.told.written ∙ ap (keyed (bytes "release=") release.got) deadline.told.written));
    };
    more = next_of f deadline.more all.more;
  }

-- so many jobs more: those that were read, in their order
pub record JobsFromText (left : ℕ) (s : List ℕ) (js : List Job) (t : List ℕ) : Type 0 where
  pub count : length js ≡ left
  pub accepted : All JobAccepted js
  pub written : s ≡ jobs_text js t

jobs_after-then : {B : Type 0} (done : List Job) (left : ℕ) (s : List ℕ) (n : ℕ) (f : List Job → Reader B) {b : B} {t : List ℕ} {k : ℕ}
    → next (jobs_after done left s n) f ≡ read b t k → Then (λ js r i. JobsFromText left s js r) (λ js. f (done ++ js)) b t k
unfolding jobs_after next jobs_text
jobs_after-then done zero s n f e =
    record { got = []; left = s; line = n; told = record { count = refl; accepted = tt; written = refl }; more = rw append-nil e }
jobs_after-then done (suc left) s n f e = do
  all ← next-then (jobs_after done (suc left) s n) f e
  job ← job_lines-then s n _ all.told
  others ← jobs_after-then (done ++ (job.got ∷ [])) left job.left job.line f (next_of f job.more all.more)
  record {
    got = job.got ∷ others.got;
    left = others.left;
    line = others.line;
    told = record {
      count = ap suc others.told.count;
      accepted = (job.told.accepted, others.told.accepted);
      written = job.told.written ∙ ap (jobs_text (job.got ∷ [])) others.told.written;
    };
    more = rw append_assoc at others.more;
  }

-- ---- bounds

pub record PartsFromText (s : List ℕ) (q : BoundParts) : Type 0 where
  pub form : is_number q.c ≡ true
  pub written : s ≡ name_bytes q.a ++ (comma ∷ (name_bytes q.b ++ (comma ∷ q.c)))

bound_parts-read : (s : List ℕ) {q : BoundParts} → bound_parts (math.some s) ≡ Some q → PartsFromText s q
unfolding bound_parts
bound_parts-read s {q} e = by-commas (has comma s) (has comma (after comma s)) refl refl e
  where
    t : List ℕ
    t = after comma s

    by_form : (a b : EventName) → has comma s ≡ true → has comma t ≡ true → event_name (before comma s) ≡ Some a → event_name (before comma t) ≡ Some b
        → (n : Bool) → is_number (after comma t) ≡ n → cond n (Some (record { a = a; b = b; c = after comma t })) None ≡ Some q → PartsFromText s q
    by_form a b p1 p2 p3 p4 true h d =
        let v : ◌≡◌ {A = BoundParts} (record { a = a; b = b; c = after comma t }) q = cc in
        subst (PartsFromText s) v
        (record {
          form = h;
          written =
              has_split comma s p1
              ∙ ap (λ (x : List ℕ). x ++ (comma ∷ t)) (event_name-written (before comma s) a p3)
              ∙ ap (λ (x : List ℕ). name_bytes a ++ (comma ∷ x)) (has_split comma t p2 ∙ ap (λ (x : List ℕ). x ++ (comma ∷ after comma t))
              (event_name-written (before comma t) b p4));
        })
    by_form a b p1 p2 p3 p4 false h d = clash (cc)

    by_names : has comma s ≡ true → has comma t ≡ true → (a b : Option EventName) → event_name (before comma s) ≡ a → event_name (before comma t) ≡ b
        → parts_of a b (after comma t) ≡ Some q → PartsFromText s q
    by_names p1 p2 None b p3 p4 d = clash (cc)
    by_names p1 p2 (Some a) None p3 p4 d = clash (cc)
    by_names p1 p2 (Some a) (Some b) p3 p4 d = by_form a b p1 p2 p3 p4 (is_number (after comma t)) refl d

    by-commas : (x y : Bool) → has comma s ≡ x → has comma t ≡ y
        → cond (x && y) (parts_of (event_name (before comma s)) (event_name (before comma t)) (after comma t)) None ≡ Some q → PartsFromText s q
    by-commas true true p1 p2 d = by_names p1 p2 (event_name (before comma s)) (event_name (before comma t)) refl refl d
    by-commas true false p1 p2 d = clash (cc)
    by-commas false y p1 p2 d = clash (cc)

pub record BoundFromText (jobs : ℕ) (given : List Bound) (l : List ℕ) (d : Bound) : Type 0 where
  pub written : l ≡ bound_bytes d []
  pub accepted : BoundAccepted jobs d
  pub pair : is_wrong_pair d.a d.b given ≡ false

pub is_job-range : (jobs i : ℕ) → is_job jobs i ≡ true → (1 ≤ i) × (i ≤ jobs)
is_job-range jobs i e = by_tests (leb 1 i) (leb i jobs) refl refl e
  where
    by_tests : (a b : Bool) → leb 1 i ≡ a → leb i jobs ≡ b → a && b ≡ true → (1 ≤ i) × (i ≤ jobs)
    by_tests true true p q e = (leb-true 1 i p, leb-true i jobs q)
    by_tests true false p q e = clash (cc)
    by_tests false b p q e = clash (cc)

pub bound_of_line-read : (jobs : ℕ) (given : List Bound) (l : List ℕ) {d : Bound} → bound_of_line jobs given l ≡ Ok d → BoundFromText jobs given l d
unfolding bound_of bound_parts
bound_of_line-read jobs given l {d} e = by_parts (bound_parts (after_key (bytes "bound=") l)) refl e
  where
    by_key : (o : math.Option (List ℕ)) → after_key (bytes "bound=") l ≡ o → (q : BoundParts) → bound_parts o ≡ Some q
        → l ≡ bound_bytes (record { a = q.a; b = q.b; c = number_value q.c }) []
    by_key math.none p q h = clash (cc)
    by_key (math.some t) p q h =
        let r = bound_parts-read t h in
        after_key-split (bytes "bound=") l t p
        ∙ ap (λ (x : List ℕ). bytes "bound=" ++ x) r.written
        ∙ ap (λ (x : List ℕ). bytes "bound=" ++ (name_bytes q.a ++ (comma ∷ (name_bytes q.b ++ (comma ∷ x)))))
        (sym (number-back q.c r.form) ∙ sym (append-nil (decimal (number_value q.c))))

    by-pair : (q : BoundParts) → bound_parts (after_key (bytes "bound=") l) ≡ Some q → is_job jobs q.a.job ≡ true → is_job jobs q.b.job ≡ true
        → le_z least_c (number_value q.c) ≡ true → le_z (number_value q.c) greatest_c ≡ true
        → (t : Bool) → is_wrong_pair q.a q.b given ≡ t
        → cond t (Err fault.Pair) (Ok (record { a = q.a; b = q.b; c = number_value q.c })) ≡ Ok d
        → BoundFromText jobs given l d
    by-pair q p ja jb cl cm true w e = clash (cc)
    by-pair q p ja jb cl cm false w e =
        let v : ◌≡◌ {A = Bound} (record { a = q.a; b = q.b; c = number_value q.c }) d = cc in
        let ra = is_job-range jobs q.a.job ja in
        let rb = is_job-range jobs q.b.job jb in
        subst (λ x. BoundFromText jobs given l x) v
        (record {
          written = by_key (after_key (bytes "bound=") l) refl q p;
          accepted = record { a-least = ra.0; a-most = ra.1; b-least = rb.0; b-most = rb.1; c-least = omega whole; c-most = omega whole };
          pair = w;
        })

    by-range : (q : BoundParts) → bound_parts (after_key (bytes "bound=") l) ≡ Some q → (ja jb cl cm : Bool) → is_job jobs q.a.job ≡ ja
        → is_job jobs q.b.job ≡ jb → le_z least_c (number_value q.c) ≡ cl → le_z (number_value q.c) greatest_c ≡ cm
        → cond (not (ja && jb && (cl && cm))) (Err fault.Range)
        (cond (is_wrong_pair q.a q.b given) (Err fault.Pair) (Ok (record { a = q.a; b = q.b; c = number_value q.c })))
        ≡ Ok d → BoundFromText jobs given l d
    by-range q p true true true true p1 p2 p3 p4 e = by-pair q p p1 p2 p3 p4 (is_wrong_pair q.a q.b given) refl e
    by-range q p true true true false p1 p2 p3 p4 e = clash (cc)
    by-range q p true true false cm p1 p2 p3 p4 e = clash (cc)
    by-range q p true false cl cm p1 p2 p3 p4 e = clash (cc)
    by-range q p false jb cl cm p1 p2 p3 p4 e = clash (cc)

    by_parts : (o : Option BoundParts) → bound_parts (after_key (bytes "bound=") l) ≡ o → bound_of jobs (λ a b. is_wrong_pair a b given) o ≡ Ok d
        → BoundFromText jobs given l d
    by_parts None p e = clash (cc)
    by_parts (Some q) p e = by-range q p (is_job jobs q.a.job) (is_job jobs q.b.job) (le_z least_c (number_value q.c))
        (le_z (number_value q.c) greatest_c) refl refl refl refl e

-- each bound in its range, and its pair right after the bounds given before it
abbrev pub AllBounds : ℕ → List Bound → List Bound → Type 0
AllBounds jobs given [] = Unit
AllBounds jobs given (d ∷ ds) = BoundAccepted jobs d × (is_wrong_pair d.a d.b given ≡ false) × AllBounds jobs (given ++ (d ∷ [])) ds

pub AllBounds-at : (jobs : ℕ) (given ds : List Bound) (i : ℕ) → AllBounds jobs given ds → i < length ds
    → BoundAccepted jobs (get_or ds i no_bound) × (is_wrong_pair (get_or ds i no_bound).a (get_or ds i no_bound).b (given ++ take i ds) ≡ false)
AllBounds-at jobs given [] i h l = absurd (omega arith)
AllBounds-at jobs given (d ∷ ds) zero h l = (h.0, rw append-nil h.1)
AllBounds-at jobs given (d ∷ ds) (suc i) h l =
    let q = AllBounds-at jobs (given ++ (d ∷ [])) ds i h.2 (omega arith) in
    (q.0, rw append_assoc at q.1)

pub bound_bytes-append : (d : Bound) (s t : List ℕ) → bound_bytes d s ++ t ≡ bound_bytes d (s ++ t)
bound_bytes-append d s t = simp append_assoc

pub record BoundsFromText (jobs : ℕ) (given : List Bound) (left : ℕ) (s : List ℕ) (ds : List Bound) (t : List ℕ) : Type 0 where
  pub count : length ds ≡ left
  pub accepted : AllBounds jobs given ds
  pub written : s ≡ bounds_text ds ++ t

bounds_after-then : {B : Type 0} (jobs : ℕ) (given : List Bound) (left : ℕ) (s : List ℕ) (n : ℕ) (f : List Bound → Reader B) {b : B} {t : List ℕ} {k : ℕ}
    → next (bounds_after jobs given left s n) f ≡ read b t k → Then (λ ds r i. BoundsFromText jobs given left s ds r) (λ ds. f (given ++ ds)) b t k
unfolding bounds_after next bounds_text
bounds_after-then jobs given zero s n f e =
    record { got = []; left = s; line = n; told = record { count = refl; accepted = tt; written = refl }; more = rw append-nil e }
bounds_after-then jobs given (suc left) s n f e = do
  all ← next-then (bounds_after jobs given (suc left) s n) f e
  bound ← next-then _ _ all.told
  q ← line_read (bound_of_line jobs given) s n bound.told
  p ← bound_of_line-read jobs given (before LF s) q.held
  others ← bounds_after-then jobs (given ++ (bound.got ∷ [])) left bound.left bound.line f (next_of f bound.more all.more)
  record {
    got = bound.got ∷ others.got;
    left = others.left;
    line = others.line;
    told = record {
      count = ap suc others.told.count;
      accepted = (p.accepted, p.pair, others.told.accepted);
      written =
          line-written q
          ∙ ap (λ (l : List ℕ). l ++ (LF ∷ bound.left)) p.written
          ∙ bound_bytes-append bound.got [] (LF ∷ bound.left)
          ∙ ap (λ (x : List ℕ). bound_bytes bound.got (LF ∷ x)) others.told.written
          ∙ sym (bound_bytes-append bound.got (LF ∷ bounds_text others.got) others.left);
    };
    more = rw append_assoc at others.more;
  }

-- ---- the plan

-- what is known once a plan's lines were read: the plan is accepted, its text is what was read, and the places beyond its jobs and bounds hold zeros
pub record PlanFromText (s : List ℕ) (p : Plan) (t : List ℕ) : Type 0 where
  pub accepted : Accepted p
  pub written : plan_text p ++ t ≡ s
  pub whole : trimmed p ≡ p

jobs_text-append : (js : List Job) (s t : List ℕ) → jobs_text js s ++ t ≡ jobs_text js (s ++ t)
unfolding jobs_text
jobs_text-append [] s t = refl
jobs_text-append (j ∷ js) s t = simp (append_assoc, jobs_text-append js s t)

-- the lines of a plan, with what follows the count of its bounds
abbrev lines_of : ℤ → ℕ → ℕ → ℕ → List Job → ℕ → List ℕ → List ℕ
lines_of window rounds last jobs js bounds s =
    keyed (bytes "window=") window
    (keyed (bytes "rounds=") (pos rounds)
    (keyed (bytes "last=") (pos last)
    (keyed (bytes "jobs=") (pos jobs)
    (jobs_text js
    (keyed (bytes "bounds=") (pos bounds) s)))))

lines_of-append : (window : ℤ) (rounds last jobs : ℕ) (js : List Job) (bounds : ℕ) (s t : List ℕ)
    → lines_of window rounds last jobs js bounds s ++ t ≡ lines_of window rounds last jobs js bounds (s ++ t)
lines_of-append window rounds last jobs js bounds s t = simp (append_assoc, jobs_text-append)

plan_lines-read : (s : List ℕ) (n : ℕ) {p : Plan} {t : List ℕ} {k : ℕ} → plan_lines s n ≡ read p t k → PlanFromText s p t
unfolding plan_lines plan_text trimmed
plan_lines-read s n {p} {t} {k} e = do
  window ← number_line-then _ _ _ _ _ _ e
  rounds ← count_line-then _ _ _ _ _ _ window.more
  last ← count_line-then _ _ _ _ _ _ rounds.more
  jobs ← count_line-then _ _ _ _ _ _ last.more
  job ← jobs_after-then _ _ _ _ _ jobs.more
  bounds ← count_line-then _ _ _ _ _ _ job.more
  bound ← bounds_after-then _ _ _ _ _ _ bounds.more
  let js = job.got
  let ds = bound.got
  let m : ◌≡◌ {A = Plan} (plan_of window.got rounds.got last.got jobs.got js bounds.got ds) p = cc
  let all : length js ≤ most_jobs = omega (arith, jobs.told.most, job.told.count)
  let every : length ds ≤ most_bounds = omega (arith, bounds.told.most, bound.told.count)
  let jobs-are : take jobs.got (filled most_jobs no_job js) ≡ js = filled-all most_jobs no_job js all jobs.got job.told.count
  let bounds-are : take bounds.got (filled most_bounds no_bound ds) ≡ ds = filled-all most_bounds no_bound ds every bounds.got bound.told.count
  subst (λ x. PlanFromText s x t) m
      (record {
        accepted = record {
          window-least = window.told.least;
          window-most = window.told.most;
          rounds-least = rounds.told.least;
          rounds-most = rounds.told.most;
          last-least = last.told.least;
          last-most = last.told.most;
          jobs-least = jobs.told.least;
          jobs-most = jobs.told.most;
          bounds-most = bounds.told.most;
          job-places = filled-length most_jobs no_job js all;
          bound-places = filled-length most_bounds no_bound ds every;
          job-at = λ i l.
              rw (filled_at most_jobs no_job js all i (omega (arith, job.told.count)))
              (All-at JobAccepted js no_job i job.told.accepted (omega (arith, job.told.count)));
          bound_at = λ i l.
              rw (filled_at most_bounds no_bound ds every i (omega (arith, bound.told.count)))
              (AllBounds-at jobs.got [] ds i bound.told.accepted (omega (arith, bound.told.count))).0;
          pair-at = λ i l.
              rw (
                filled_at most_bounds no_bound ds every i (omega (arith, bound.told.count)),
                filled-take most_bounds no_bound ds every i
                    (omega (arith, bound.told.count)),
              )
              (AllBounds-at jobs.got [] ds i bound.told.accepted (omega (arith, bound.told.count))).1;
        };
        written =
            rw (jobs-are, bounds-are)
            (lines_of-append window.got rounds.got last.got jobs.got js bounds.got (bounds_text ds) t
            ∙ sym
            (window.told.written
            ∙ ap (keyed (bytes "window=") window.got)
            (rounds.told.written
            ∙ ap (keyed (bytes "rounds=") (pos rounds.got))
            (last.told.written
            ∙ ap (keyed (bytes "last=") (pos last.got))
            (jobs.told.written
            ∙ ap (keyed (bytes "jobs=") (pos jobs.got))
            (job.told.written
            ∙ ap (jobs_text js) (bounds.told.written ∙ ap (keyed (bytes "bounds=") (pos bounds.got))
            (bound.told.written ∙ ap (λ (x : List ℕ). bounds_text ds ++ x) (cc)))))))));
        whole = rw (jobs-are, bounds-are);
      })

-- 'At most 65,536 bytes'
plan_head-read : (s : List ℕ) {p : Plan} {t : List ℕ} {k : ℕ} → plan_head s ≡ read p t k → PlanFromText s p t × (length s ≤ longest_text)
unfolding plan_head
plan_head-read s {p} {t} {k} e = by_length (leb (length s) longest_text) refl e
  where
    by_length : (b : Bool) → leb (length s) longest_text ≡ b → cond b (plan_lines s 1) (refused too_long []) ≡ read p t k
        → PlanFromText s p t × (length s ≤ longest_text)
    by_length true h d = (plan_lines-read s 1 d, leb-true (length s) longest_text h)
    by_length false h d = clash (cc)

-- 'nothing after the last'
nothing_after-read : (m : Reading Plan) {p : Plan} {t : List ℕ} {k : ℕ} → nothing_after m ≡ read p t k → (m ≡ read p t k) × (t ≡ [])
unfolding nothing_after
nothing_after-read (read q [] n) e = (e, cc)
nothing_after-read (read q (a ∷ s) n) e = clash (cc)
nothing_after-read (refused r s) e = clash (cc)

-- ---- what is known of an accepted text

module _ (s : List ℕ) {p : Plan} {t : List ℕ} {k : ℕ} (e : plan_head s ≡ read p t k) where
  pub plan_head-accepted : Accepted p
  plan_head-accepted = (plan_head-read s e).0.accepted

  pub plan_head-written : plan_text p ++ t ≡ s
  plan_head-written = (plan_head-read s e).0.written

  plan_head-trimmed : trimmed p ≡ p
  plan_head-trimmed = (plan_head-read s e).0.whole

  pub plan_head-fits : length s ≤ longest_text
  plan_head-fits = (plan_head-read s e).1

module _ (s : List ℕ) {p : Plan} {t : List ℕ} {k : ℕ} (e : plan_alone s ≡ read p t k) where
  head : plan_head s ≡ read p t k
  head = (nothing_after-read (plan_head s) e).0

  plan_alone-end : t ≡ []
  plan_alone-end = (nothing_after-read (plan_head s) e).1

  pub plan_alone-accepted : Accepted p
  plan_alone-accepted = plan_head-accepted s head

  pub plan_alone-written : plan_text p ≡ s
  plan_alone-written = sym (append-nil (plan_text p)) ∙ ap (λ (x : List ℕ). plan_text p ++ x) (sym plan_alone-end) ∙ plan_head-written s head

  plan_alone-trimmed : trimmed p ≡ p
  plan_alone-trimmed = plan_head-trimmed s head

  pub plan_alone-fits : length s ≤ longest_text
  plan_alone-fits = plan_head-fits s head

  -- written out and read again it is the same plan
  pub plan_alone-again : plan_alone (plan_text p) ≡ read p [] k
  plan_alone-again = ap plan_alone plan_alone-written ∙ e ∙ ap (λ (x : List ℕ). read p x k) plan_alone-end

-- two texts are never the same accepted plan
pub plan_alone-unique : (s s' : List ℕ) {p : Plan} {t t' : List ℕ} {k k' : ℕ} → plan_alone s ≡ read p t k → plan_alone s' ≡ read p t' k' → s ≡ s'
plan_alone-unique s s' e e' = sym (plan_alone-written s e) ∙ plan_alone-written s' e'
