-- The loop over the bounds' lines: `BoundsPassed` is what holds after i bounds, at the beginning (`BoundsPassed-start`), after one more (`-past`), at a fault
-- (`-stop`) and at the end (`-end`), where the array is filled (`-filled`). The numbers of the pairs given decide as the pairs do
-- (`judged_bound-numbered`, `bound_lined-numbered`).
use Rattle.std.specs.Prelude.{◌≡◌, Bool, true, false, not, cond, ◌&&◌, ℕ, suc, ◌+◌, ◌-◌, ◌≤◌, ◌<◌, length, drop, set, replicate, Option, Some, None, Ok, Err}
use Rattle.std.proofs.Math.Path.{refl, sym, ap}
use Rattle.std.proofs.Common.{◌∙◌, add-one, arith, take-suc-set}
use mathlib.Core.List.{List, [], ◌∷◌, ◌++◌, map}
use Rattle.std.proofs.Math.Nat.{sub-zero}
use Rattle.std.proofs.Math.ListN.{take, length-set}
use Rattle.text.specs.Bytes.{bytes}
use Rattle.text.specs.Lines.{LF, before, after_key}
use Rattle.text.specs.Numbers.{within, number_value}
use Rattle.lines.specs.declared.Fault.TheVariants as fault
use Rattle.plan.specs.declared.Bound.{Bound}
use Rattle.lines.specs.declared.FaultyLine.{FaultyLine}
use Rattle.plan.specs.Limits.{most_bounds, least_c, greatest_c, most_jobs}
use Rattle.lines.specs.Reading.{read, next, line}
use Rattle.plan.specs.PlanLines.{BoundParts, bound_parts, is_job, is_wrong_pair, judged_bound, bound_of, bound_of_line, bounds_after, no_bound, filled}
use Rattle.plan.specs.Accepted.{BoundAccepted}
use Rattle.plan.specs.Pairs.{pair_of, is_wrong_numbered}
use Rattle.plan.specs.PairLaws.{Small, is_wrong_numbered-pair}
use Rattle.lines.specs.ReadAt.{faulty_in}
use Rattle.plan.specs.ReadAt.{bound_lined}
use Rattle.plan.specs.ListLaws.{All, All-more, Filling, Filling-start, Filling-more, Filling-end}
use Rattle.lines.specs.ReadingLaws.{line_read}
use Rattle.plan.specs.PlanLaws.{is_job-range, bound_of_line-read}

-- ---- the pairs given, by their numbers

module _ (jobs : ℕ) (few : jobs ≤ most_jobs) (given : List Bound) (small : All (λ d. Small d.a d.b) given) where
  pub judged_bound-numbered : (d : Bound) → judged_bound jobs (is_wrong_numbered (map pair_of given)) d ≡ judged_bound jobs (λ a b. is_wrong_pair a b given) d
  judged_bound-numbered d = by-jobs (is_job jobs d.a.job) (is_job jobs d.b.job) refl refl
    where
      in-range : Bool
      in-range = within least_c greatest_c d.c

      by-jobs : (x y : Bool) → is_job jobs d.a.job ≡ x → is_job jobs d.b.job ≡ y
          → cond (not (x && y && in-range)) (Err fault.Range)
          (cond (is_wrong_numbered (map pair_of given) d.a d.b) (Err fault.Pair) (Ok d))
          ≡ cond (not (x && y && in-range)) (Err fault.Range) (cond (is_wrong_pair d.a d.b given) (Err fault.Pair) (Ok d))
      by-jobs true true p r =
          rw (is_wrong_numbered-pair d.a d.b given (record {
            a_small = omega (arith, (is_job-range jobs d.a.job p).1);
            b-small = omega
                (arith, (is_job-range jobs d.b.job r).1);
          }) small)
      by-jobs true false p r = refl
      by-jobs false y p r = refl

  bound_of-numbered : (o : Option BoundParts) → bound_of jobs (is_wrong_numbered (map pair_of given)) o ≡ bound_of jobs (λ a b. is_wrong_pair a b given) o
  unfolding bound_of
  bound_of-numbered None = refl
  bound_of-numbered (Some q) = judged_bound-numbered (record { a = q.a; b = q.b; c = number_value q.c })

  bound_lined-numbered : (s : List ℕ) (n : ℕ) (codes : List ℕ) → codes ≡ map pair_of given
      → line (bound_lined jobs (is_wrong_numbered codes)) s n ≡ line (bound_of_line jobs given) s n
  unfolding line
  bound_lined-numbered s n codes e = rw (e, bound_of-numbered (bound_parts (after_key (bytes "bound=") (before LF s))))

pub map_last : (ds : List Bound) (d : Bound) → map pair_of (ds ++ (d ∷ [])) ≡ map pair_of ds ++ (pair_of d ∷ [])
map_last [] d = refl
map_last (x ∷ ds) d = ap (λ (r : List ℕ). pair_of x ∷ r) (map_last ds d)

-- ---- the loop

pub record BoundsPassed (s : List ℕ) (from number jobs bounds : ℕ) (bound : List Bound) (given : List ℕ) (at n i : ℕ) : Type 0 where
  pub count : i ≤ bounds
  pub place : at ≤ length s
  pub numbered : n ≡ number + i
  pub array : Filling most_bounds no_bound bound i
  pub codes : length given ≡ most_bounds
  pub coded : take i given ≡ map pair_of (take i bound)
  pub small : All (λ d. Small d.a d.b) (take i bound)
  pub told : bounds_after jobs [] bounds (drop from s) number ≡ bounds_after jobs (take i bound) (bounds - i) (drop at s) n

pub BoundsPassed-start : (s : List ℕ) (from number jobs bounds : ℕ) → from ≤ length s
    → BoundsPassed s from number jobs bounds (replicate most_bounds no_bound) (replicate most_bounds 0) from number 0
BoundsPassed-start s from number jobs bounds h =
    record {
      count = omega arith;
      place = h;
      numbered = omega arith;
      array = Filling-start most_bounds no_bound;
      codes = refl;
      coded = refl;
      small = tt;
      told = ap (λ (k : ℕ). bounds_after jobs [] k (drop from s) number) (sym (sub-zero bounds));
    }

module _ (s : List ℕ) (from number jobs bounds : ℕ) (bound : List Bound) (given : List ℕ) (at n i : ℕ) (few : jobs ≤ most_jobs)
    (p : BoundsPassed s from number jobs bounds bound given at n i) where
  one_more : i < bounds → bounds - i ≡ suc (bounds - (i + 1))
  one_more h = omega arith

  same_line : line (bound_lined jobs (is_wrong_numbered (take i given))) (drop at s) n ≡ line (bound_of_line jobs (take i bound)) (drop at s) n
  same_line = bound_lined-numbered jobs few (take i bound) p.small (drop at s) n (take i given) p.coded

  pub BoundsPassed-stop : i < bounds → (f : FaultyLine) → line (bound_lined jobs (is_wrong_numbered (take i given))) (drop at s) n ≡ faulty_in s f
      → bounds_after jobs [] bounds (drop from s) number ≡ faulty_in s f
  unfolding bounds_after next
  BoundsPassed-stop h f e = p.told ∙ rw (one_more h, sym same_line ∙ e)

  pub BoundsPassed-past : i < bounds → bounds ≤ most_bounds → (d : Bound) (to code : ℕ) → to ≤ length s → code ≡ pair_of d
      → line (bound_lined jobs (is_wrong_numbered (take i given))) (drop at s) n ≡ read d (drop to s) (n + 1)
      → BoundsPassed s from number jobs bounds (set bound i d) (set given i code) to (n + 1) (i + 1)
  unfolding bounds_after next
  BoundsPassed-past h m d to code g k e =
      record {
        count = omega arith;
        place = g;
        numbered = omega (arith, p.numbered);
        array = Filling-more most_bounds no_bound bound i p.array (omega arith) d;
        codes = length-set given i code ∙ p.codes;
        coded =
            codes-taken
            ∙ ap (λ (x : List ℕ). x ++ (code ∷ [])) p.coded
            ∙ ap (λ (c : ℕ). map pair_of (take i bound) ++ (c ∷ [])) k
            ∙ sym (ap (map pair_of) taken ∙ map_last (take i bound) d);
        small = rw taken (All-more (λ d. Small d.a d.b) (take i bound) d p.small
            (record { a_small = omega (arith, accepted.a-most); b-small = omega (arith, accepted.b-most) }));
        told = p.told ∙ step ∙ ap (λ (done : List Bound). bounds_after jobs done (bounds - (i + 1)) (drop to s) (n + 1)) (sym taken);
      }
    where
      taken : take (i + 1) (set bound i d) ≡ take i bound ++ (d ∷ [])
      taken = rw (add-one i) (take-suc-set bound i d (omega (arith, p.array.places)))

      accepted : BoundAccepted jobs d
      accepted = (bound_of_line-read jobs (take i bound) (before LF (drop at s))
          (line_read (bound_of_line jobs (take i bound)) (drop at s) n (sym same_line ∙ e)).held).accepted

      codes-taken : take (i + 1) (set given i code) ≡ take i given ++ (code ∷ [])
      codes-taken = rw (add-one i) (take-suc-set given i code (omega (arith, p.codes)))

      step : bounds_after jobs (take i bound) (bounds - i) (drop at s) n ≡ bounds_after jobs (take i bound ++ (d ∷ [])) (bounds - (i + 1)) (drop to s) (n + 1)
      step = rw (one_more h, sym same_line ∙ e)

  pub BoundsPassed-end : bounds ≤ i → bounds_after jobs [] bounds (drop from s) number ≡ read (take bounds bound) (drop at s) (number + bounds)
  unfolding bounds_after
  BoundsPassed-end h =
      p.told
      ∙ ap (λ (k : ℕ). bounds_after jobs (take i bound) k (drop at s) n) none_left
      ∙ ap (λ (k : ℕ). read (take k bound) (drop at s) n) all
      ∙ ap (λ (k : ℕ). read (take bounds bound) (drop at s) k) last
    where
      all : i ≡ bounds
      all = omega (arith, p.count)

      none_left : bounds - i ≡ 0
      none_left = omega arith

      last : n ≡ number + bounds
      last = omega (arith, p.count, p.numbered)

  pub BoundsPassed-filled : bounds ≤ i → bounds ≤ most_bounds → bound ≡ filled most_bounds no_bound (take bounds bound)
  BoundsPassed-filled h m = Filling-end most_bounds no_bound bound i p.array (omega (arith, p.count)) ∙ ap
      (λ (k : ℕ). filled most_bounds no_bound (take k bound)) all
    where
      all : i ≡ bounds
      all = omega (arith, p.count)
