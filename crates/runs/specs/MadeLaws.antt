-- The calendar of a settled plan is inside its limits (`made_inside`). The settled set is fit (`settled-judged-table`), and so are the tables just before the
-- starts
-- (`before_starts-judged-table`): no weight is beyond the latest deadline and the longest running time together (`weight-in`), and so low, high and every c are
-- in the
-- range of a bound's c. Places that no job fills hold zeros, and a set names only events before its start (`calendar_of-inside`).
use Prim.Native.Nat.{ℕ, zero, suc, ◌+◌, ◌*◌, ◌-◌, ◌≤◌, ◌<◌}
use Rattle.std.specs.Prelude.{◌≡◌, Bool, ◌&&◌, ℤ, pos, neg_ℤ, ◌+ℤ◌, ◌-ℤ◌, get_or, replicate, ◌≤ℤ◌}
use Rattle.std.proofs.Math.Path.{refl, ap, subst}
use Rattle.std.proofs.Common.{sym, ◌∙◌, length-append, pow_pos}
use Rattle.std.proofs.Math.Bool.{true, false, not, cond}
use mathlib.Core.List.{List, [], ◌∷◌, ◌++◌}
use native.Mathlib.Omega.{arith}
use Rattle.std.proofs.Math.ListN.{length}
use Rattle.whole.specs.Clash.{clash}
use Rattle.whole.specs.Rules.{wholes}
use Rattle.whole.specs.SplitLaws.{split-neg, split-sub}
use Rattle.plan.specs.declared.Plan.{Plan}
use Rattle.plan.specs.Limits.{most_jobs, longest_running, latest_deadline}
use Rattle.plan.specs.PlanLines.{filled}
use Rattle.plan.specs.Accepted.{Accepted}
use Rattle.bounds.specs.Events.{start_node, finish_node, nodes}
use Rattle.bounds.specs.Tables.{Cell, off, upto, Rows, at, listed, Set, contradiction, bounds}
use Rattle.bounds.specs.TablesLaws.{any_below-no}
use Rattle.bounds.specs.Elimination.{without_finish, without_start, then_set, eliminated}
use Rattle.bounds.specs.Held.{JudgedTable}
use Rattle.bounds.specs.JudgedTableLaws.{least-weight, most-weight, without_finish-judged-table, without_start-judged-table}
use Rattle.rounds.specs.Rounds.{C0, joined, round, same_rows, Outcome, settled, decided, rounds_from, outcome_from, outcome}
use Rattle.rounds.specs.CarriedLaws.{C0-judged-table, joined-judged-table, eliminated-judged-table}
use Rattle.calendars.specs.declared.Terms.{Terms}
use Rattle.events.specs.Bits.{bits_of, has_event, is_below, most_events}
use Rattle.events.specs.BitsLaws.{is_below-fits}
use Rattle.bounds.specs.BuildLaws.{event_set-listed-fits}
use Rattle.calendars.specs.Calendars.{
  then_tables,
  before_starts,
  weight,
  node_of_event,
  events_before,
  terms_of,
  least_cs,
  most_cs,
  no_terms,
  all_terms,
  all_cs,
  calendar_of,
  calendar,
}
use Rattle.runs.specs.ValueLimits.{is_c, is_side, are_terms_of, is_calendar}
use Rattle.runs.specs.LimitLaws.{any_from-is, is_c-in, out_at, is_side-walk, are_terms_of-above, terms_out, is_calendar-walk}

-- ---- the settled set is fit

module _ (p : Plan) (c0 : Rows) (own : JudgedTable p (nodes p.jobs) c0) where
  round-judged-table : (t u : Rows) → JudgedTable p (nodes p.jobs) t → round p c0 t ≡ bounds u → JudgedTable p (nodes p.jobs) u
  unfolding round then_set
  round-judged-table t u fit e = of (joined p c0 t) refl e
    where
      of : (s : Set) → joined p c0 t ≡ s → then_set s (eliminated p p.jobs p.jobs) ≡ bounds u → JudgedTable p (nodes p.jobs) u
      of contradiction d f = clash (cc)
      of (bounds v) d f = eliminated-judged-table p p.jobs p.jobs v u (joined-judged-table p c0 t own fit v d) f

  after-round : (k m : ℕ) (v t : Rows) (s : Set) (later : Rows → Outcome) → ((u : Rows) → s ≡ bounds u → JudgedTable p (nodes p.jobs) u)
      → ((u : Rows) → JudgedTable p (nodes p.jobs) u → later u ≡ settled m t → JudgedTable p (nodes p.jobs) t)
      → decided p k v s later ≡ settled m t → JudgedTable p (nodes p.jobs) t
  unfolding decided
  after-round k m v t contradiction later fits goes e = clash (cc)
  after-round k m v t (bounds u) later fits goes e = of (same_rows v u) e
    where
      of : (b : Bool) → cond b (settled k u) (later u) ≡ settled m t → JudgedTable p (nodes p.jobs) t
      of true d = let is : u ≡ t = cc in subst (JudgedTable p (nodes p.jobs)) is (fits u refl)
      of false d = goes u (fits u refl) d

  rounds-judged-table : (left k m : ℕ) (v t : Rows) → JudgedTable p (nodes p.jobs) v → rounds_from p c0 k left v ≡ settled m t
      → JudgedTable p (nodes p.jobs) t
  unfolding rounds_from
  rounds-judged-table zero k m v t fit e = clash (cc)
  rounds-judged-table (suc left) k m v t fit e =
      after-round k m v t (round p c0 v) (rounds_from p c0 (k + 1) left) (λ u d. round-judged-table v u fit d)
      (λ u g d. rounds-judged-table left (k + 1) m u t g d) e

-- C(0) of a settled plan, and the settled set
record SettledFit (p : Plan) (t : Rows) : Type 0 where
  c0 : Rows
  is : C0 p ≡ bounds c0
  own : JudgedTable p (nodes p.jobs) c0
  fit : JudgedTable p (nodes p.jobs) t

settled-judged-table : (p : Plan) (m : ℕ) (t : Rows) → outcome p ≡ settled m t → SettledFit p t
unfolding outcome outcome_from
settled-judged-table p m t e = of (C0 p) refl e
  where
    of : (s : Set) → C0 p ≡ s → outcome_from p s ≡ settled m t → SettledFit p t
    of contradiction d f = clash (cc)
    of (bounds c0) d f = let own = C0-judged-table p c0 d in record {
      c0 = c0;
      is = d;
      own = own;
      fit = rounds-judged-table p c0 own
          p.rounds 1 m c0 t own f;
    }

-- ---- the tables just before the starts are fit

JudgedTable-below : (p : Plan) (k n : ℕ) (t : Rows) → n ≤ k → JudgedTable p k t → JudgedTable p n t
JudgedTable-below p k n t h fit =
    record {
      kept = λ y z w g l e. fit.kept y z w (omega arith) (omega arith) e;
      above = λ y g l. fit.above y g (omega arith);
      below = λ y g l. fit.below y g (omega arith);
    }

-- from place i on, each table has the start of its place, and is fit
abbrev AllJudgedTables : Plan → ℕ → List Rows → Type 0
AllJudgedTables p i [] = Unit
AllJudgedTables p i (t ∷ ts) = JudgedTable p (suc (start_node (p.jobs + i))) t × AllJudgedTables p (suc i) ts

AllJudgedTables-more : (p : Plan) (i n : ℕ) (ts : List Rows) (u : Rows) → suc (start_node (p.jobs + (i + length ts))) ≤ n → AllJudgedTables p i ts
    → JudgedTable p n u
    → AllJudgedTables p i (ts ++ (u ∷ []))
AllJudgedTables-more p i n [] u h a fit = (JudgedTable-below p n (suc (start_node (p.jobs + i))) u (omega arith) fit, tt)
AllJudgedTables-more p i n (t ∷ ts) u h a fit = (a.0, AllJudgedTables-more p (suc i) n ts u (omega arith) a.1 fit)

-- tables of the first count places at most
record StartsFit (p : Plan) (count : ℕ) (ts : List Rows) : Type 0 where
  fit : AllJudgedTables p 0 ts
  short : length ts ≤ count

none-fit : (p : Plan) (count : ℕ) → StartsFit p count []
none-fit p count = record { fit = tt; short = omega arith }

StartsFit-more : (p : Plan) (count : ℕ) (ts : List Rows) (u : Rows) → JudgedTable p (suc (start_node (p.jobs + count))) u → StartsFit p count ts
    → StartsFit p (suc count) (ts ++ (u ∷ []))
StartsFit-more p count ts u fit s =
    let short = s.short in
    record {
      fit = AllJudgedTables-more p 0 (suc (start_node (p.jobs + count))) ts u (omega arith) s.fit fit;
      short = omega
          (arith, length-append ts (u ∷ []));
    }

module _ (p : Plan) where
  start-judged-table : (count : ℕ) (f : Rows → List Rows) (s : Set) → ((v : Rows) → s ≡ bounds v → StartsFit p count (f v)) → StartsFit p count (then_tables s f)
  unfolding then_tables
  start-judged-table count f contradiction h = none-fit p count
  start-judged-table count f (bounds v) h = h v refl

  before_starts-judged-table : (count : ℕ) (t : Rows) → JudgedTable p (nodes (p.jobs + count)) t → StartsFit p count (before_starts p count t)
  unfolding before_starts
  before_starts-judged-table zero t fit = none-fit p 0
  before_starts-judged-table (suc count) t fit =
      let k = p.jobs + count in
      let last : nodes (p.jobs + suc count) ≡ suc (finish_node k) = omega arith in
      let next : finish_node k ≡ suc (start_node k) = omega arith in
      start-judged-table (suc count) _ (without_finish p k t)
      (λ u e.
      let left : JudgedTable p (suc (start_node k)) u
      = subst (λ (n : ℕ). JudgedTable p n u) next (without_finish-judged-table p k t u (subst (λ (n : ℕ). JudgedTable p n t) last fit) e) in
      StartsFit-more p count (then_tables (without_start p k u) (before_starts p count)) u left
      (start-judged-table count (before_starts p count) (without_start p k u)
      (λ v d. before_starts-judged-table count v (without_start-judged-table p k u v left d))))

-- ---- lists whose every element is a bound's c

abbrev EachC : List ℤ → Type 0
EachC cs = (k : ℕ) → is_c (get_or cs k (pos 0)) ≡ true

zero-c : is_c (pos 0) ≡ true
zero-c = is_c-in (pos 0) (omega wholes) (omega wholes)

EachC-none : EachC []
EachC-none k = zero-c

EachC-first : (c : ℤ) (cs : List ℤ) → is_c c ≡ true → EachC cs → EachC (c ∷ cs)
EachC-first c cs h e zero = h
EachC-first c cs h e (suc k) = e k

EachC-append : (cs ds : List ℤ) → EachC cs → EachC ds → EachC (cs ++ ds)
EachC-append [] ds h l = l
EachC-append (c ∷ cs) ds h l = EachC-first c (cs ++ ds) (h 0) (EachC-append cs ds (λ k. h (suc k)) l)

EachC-zeros : (n : ℕ) → EachC (replicate n (pos 0))
EachC-zeros zero = EachC-none
EachC-zeros (suc n) = EachC-first (pos 0) (replicate n (pos 0)) zero-c (EachC-zeros n)

EachC-filled : (n : ℕ) (cs : List ℤ) → EachC cs → EachC (filled n (pos 0) cs)
EachC-filled n cs h = EachC-append cs (replicate (n - length cs) (pos 0)) h (EachC-zeros (n - length cs))

EachC-listed : (n : ℕ) (f : ℕ → ℤ) → ((e : ℕ) → e < n → is_c (f e) ≡ true) → EachC (listed n f)
unfolding listed
EachC-listed zero f h = EachC-none
EachC-listed (suc n) f h = EachC-first (f 0) (listed n (λ e. f (suc e))) (h 0 (omega arith)) (EachC-listed n (λ e. f (suc e)) (λ e l. h (suc e) (omega arith)))

-- ---- the terms of a job

get_d-zeros : {A : Type 0} (n k : ℕ) (d : A) → get_or (replicate n d) k d ≡ d
get_d-zeros zero k d = refl
get_d-zeros (suc n) zero d = refl
get_d-zeros (suc n) (suc k) d = get_d-zeros n k d

get_d-filled : {A : Type 0} (n k : ℕ) (xs : List A) (d : A) → get_or (xs ++ replicate n d) k d ≡ get_or xs k d
get_d-filled n k [] d = get_d-zeros n k d
get_d-filled n zero (x ∷ xs) d = refl
get_d-filled n (suc k) (x ∷ xs) d = get_d-filled n k xs d

record TermsIn (p : Plan) (i : ℕ) (x : Terms) : Type 0 where
  low : is_c x.low.0 ≡ true
  high : is_c x.high.0 ≡ true
  below : is_below (events_before p i) (bits_of x.below) ≡ true
  above : is_below (events_before p i) (bits_of x.above) ≡ true

no_terms-in : (p : Plan) (i : ℕ) → TermsIn p i no_terms
no_terms-in p i =
    let none = is_below-fits (events_before p i) 0 (pow_pos (events_before p i)) in
    record { low = zero-c; high = zero-c; below = none; above = none }

-- a weight of a fit table, or the 0 of no bound
record WeightIn (w : ℤ) : Type 0 where
  least : neg_ℤ (latest_deadline +ℤ longest_running) ≤ℤ w
  greatest : w ≤ℤ (latest_deadline +ℤ longest_running)

weight-c : (w : ℤ) → WeightIn w → is_c w ≡ true
weight-c w h = let l = h.least in let g = h.greatest in is_c-in w (omega wholes) (omega wholes)

neg-c : (w : ℤ) → WeightIn w → is_c (neg_ℤ w) ≡ true
neg-c w h = let l = h.least in let g = h.greatest in is_c-in (neg_ℤ w) (omega (wholes, split-neg w)) (omega (wholes, split-neg w))

module _ (p : Plan) (a : Accepted p) where
  low-c : (w : ℤ) → WeightIn w → is_c (neg_ℤ w -ℤ p.window) ≡ true
  low-c w h =
      let l = h.least in
      let g = h.greatest in
      let d = a.window-least in
      let m = a.window-most in
      is_c-in (neg_ℤ w -ℤ p.window) (omega (wholes, split-sub (neg_ℤ w) p.window, split-neg w)) (omega (wholes, split-sub (neg_ℤ w) p.window, split-neg w))

  high-c : (w : ℤ) → WeightIn w → is_c (w -ℤ p.window) ≡ true
  high-c w h =
      let l = h.least in
      let g = h.greatest in
      let d = a.window-least in
      let m = a.window-most in
      is_c-in (w -ℤ p.window) (omega (wholes, split-sub w p.window)) (omega (wholes, split-sub w p.window))

  weight-in : (k : ℕ) (t : Rows) → k ≤ nodes (p.jobs + p.jobs) → JudgedTable p k t → (y z : ℕ) → y < k → z < k → WeightIn (weight (at t y z))
  weight-in k t size fit y z h l = of (at t y z) refl
    where
      of : (c : Cell) → at t y z ≡ c → WeightIn (weight c)
      of off e = record { least = omega wholes; greatest = omega wholes }
      of (upto w) e = record { least = least-weight p a k t size fit y z w h l e; greatest = most-weight p a k t size fit y z w h l e }

  -- one job, at place i
  module _ (i : ℕ) (job : i < p.jobs) (t : Rows) (fit : JudgedTable p (suc (start_node (p.jobs + i))) t) where
    abbrev s : ℕ
    s = start_node (p.jobs + i)

    cell_in : (y z : ℕ) → y < suc s → z < suc s → WeightIn (weight (at t y z))
    cell_in = weight-in (suc s) t (omega arith) fit

    terms_of-in : TermsIn p i (terms_of p i t)
    unfolding terms_of
    terms_of-in =
        record {
          low = low-c _ (cell_in s 0 (omega arith) (omega arith));
          high = high-c _ (cell_in 0 s (omega arith) (omega arith));
          below = is_below-fits (events_before p i) _ (event_set-listed-fits (events_before p i) _);
          above = is_below-fits (events_before p i) _ (event_set-listed-fits (events_before p i) _);
        }

    least_cs-in : EachC (least_cs p i t)
    unfolding least_cs
    least_cs-in = EachC-listed (events_before p i) _ (λ e h. neg-c _ (cell_in s (node_of_event e) (omega arith) (omega arith)))

    most_cs-in : EachC (most_cs p i t)
    unfolding most_cs
    most_cs-in = EachC-listed (events_before p i) _ (λ e h. weight-c _ (cell_in (node_of_event e) s (omega arith) (omega arith)))

  -- ---- all jobs

  all_terms-in : (i : ℕ) (ts : List Rows) → i + length ts ≤ p.jobs → AllJudgedTables p i ts → (k j : ℕ) → i + k ≡ j
      → TermsIn p j (get_or (all_terms p i ts) k no_terms)
  unfolding all_terms
  all_terms-in i [] h f k j e = no_terms-in p j
  all_terms-in i (t ∷ ts) h f zero j e =
      let is : i ≡ j = omega arith in
      subst (λ (j : ℕ). TermsIn p j (terms_of p i t)) is (terms_of-in i (omega arith) t f.0)
  all_terms-in i (t ∷ ts) h f (suc k) j e = all_terms-in (suc i) ts (omega arith) f.1 k j (omega arith)

  all_cs-in : (cs : ℕ → Rows → List ℤ) → ((i : ℕ) → i < p.jobs → (t : Rows) → JudgedTable p (suc (start_node (p.jobs + i))) t → EachC (cs i t))
      → (i : ℕ) (ts : List Rows) → i + length ts ≤ p.jobs → AllJudgedTables p i ts → EachC (all_cs cs i ts)
  unfolding all_cs
  all_cs-in cs each i [] h f = EachC-none
  all_cs-in cs each i (t ∷ ts) h f =
      EachC-append (filled most_events (pos 0) (cs i t)) (all_cs cs (suc i) ts) (EachC-filled most_events (cs i t) (each i (omega arith) t f.0))
      (all_cs-in cs each (suc i) ts (omega arith) f.1)

  never-out : (b c : Bool) → c ≡ true → (b && not c) ≡ false
  never-out true c e = ap not e
  never-out false c e = refl

  side-in : (i set : ℕ) (cs : List ℤ) → is_below (events_before p i) set ≡ true → EachC cs → is_side p.jobs i set cs ≡ true
  side-in i set cs h each =
      is_side-walk p.jobs i set cs h false
      (sym (any_from-is (out_at i set cs) (events_before p i)) ∙ any_below-no (events_before p i) (out_at i set cs)
      (λ e l. never-out (has_event e set) (is_c (get_or cs (i * most_events + e) (pos 0))) (each (i * most_events + e))))

  terms-in : (i : ℕ) (x : Terms) (cs ds : List ℤ) → TermsIn p i x → EachC cs → EachC ds → are_terms_of p.jobs i x cs ds ≡ true
  terms-in i x cs ds h c d =
      are_terms_of-above p.jobs i x cs ds h.low h.high (side-in i (bits_of x.below) cs h.below c) ∙ side-in i (bits_of x.above) ds h.above d

  calendar_of-inside : (ts : List Rows) → StartsFit p p.jobs ts → is_calendar p (calendar_of p ts) ≡ true
  unfolding calendar_of
  calendar_of-inside ts s =
      let c = calendar_of p ts in
      let short = s.short in
      let terms : (i : ℕ) → TermsIn p i (get_or c.terms i no_terms)
      = λ i.
      subst (TermsIn p i) (sym (get_d-filled (most_jobs - length (all_terms p 0 ts)) i (all_terms p 0 ts) no_terms))
      (all_terms-in 0 ts (omega arith) s.fit i i (omega arith)) in
      let least : EachC c.at_least
      = EachC-filled (most_jobs * most_events) (all_cs (least_cs p) 0 ts) (all_cs-in (least_cs p) least_cs-in 0 ts (omega arith) s.fit) in
      let most : EachC c.at_most
      = EachC-filled (most_jobs * most_events) (all_cs (most_cs p) 0 ts) (all_cs-in (most_cs p) most_cs-in 0 ts (omega arith) s.fit) in
      is_calendar-walk p c false
      (sym (any_from-is (terms_out p.jobs c.terms c.at_least c.at_most) p.jobs)
      ∙ any_below-no p.jobs (terms_out p.jobs c.terms c.at_least c.at_most)
      (λ i h. ap not (terms-in i (get_or c.terms i no_terms) c.at_least c.at_most (terms i) least most)))

  tables-inside : (s : Set) → ((u : Rows) → s ≡ bounds u → JudgedTable p (nodes (p.jobs + p.jobs)) u)
      → is_calendar p (calendar_of p (then_tables s (before_starts p p.jobs))) ≡ true
  tables-inside s h = calendar_of-inside _ (start-judged-table p p.jobs (before_starts p p.jobs) s (λ u e. before_starts-judged-table p p.jobs u (h u e)))

-- ---- the calendar of a settled plan

joined-inside : (p : Plan) (t u : Rows) → SettledFit p t → then_set (C0 p) (λ c0. joined p c0 t) ≡ bounds u → JudgedTable p (nodes (p.jobs + p.jobs)) u
unfolding then_set
joined-inside p t u s e = joined-judged-table p s.c0 t s.own s.fit u (sym (ap (λ (c : Set). then_set c (λ c0. joined p c0 t)) s.is) ∙ e)

pub made_inside : (p : Plan) → Accepted p → (m : ℕ) (t : Rows) → outcome p ≡ settled m t → is_calendar p (calendar p t) ≡ true
unfolding calendar
made_inside p a m t e = tables-inside p a (then_set (C0 p) (λ c0. joined p c0 t)) (λ u d. joined-inside p t u (settled-judged-table p m t e) d)
