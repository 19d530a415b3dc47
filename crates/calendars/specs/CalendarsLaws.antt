-- The laws of the calendar as a value, while the walk over the next window's jobs makes it, last job first.
-- Sizes: the c of a job have room in its row (`least_cs-short`, `most_cs-short`), and rows have their lengths (`all_terms-length`, `all_cs-length`).
-- A job recorded before those after it: its terms set at its place (`all_terms-more`), its c stored from its row's beginning on (`all_cs-more`).
-- The table before a start comes after those of the jobs before it (`before_starts-more`). A calendar that says nothing is all zeros (`no_calendar-is`,
-- `no_calendar-made`).
-- `Walked` is the walk with so many jobs left. It holds at the beginning (`Walked-start`); one job leads from it to the next (`Walked-some`, `Walked-more`),
-- and what the code's two eliminations rest on holds (`Walked-finish`, `Walked-last`); with no job left the calendar is `calendar_of` (`Walked-end`).
use Rattle.std.specs.Prelude.{ℕ, suc, ◌+◌, ◌*◌, ◌-◌, ◌≤◌, ◌<◌, ◌≡◌, Bool, true, false, ℤ, pos, set, take, drop}
use Rattle.std.proofs.Math.Path.{refl, sym, ap, ap₂}
use Rattle.std.proofs.Common.{subst, ◌∙◌, arith, take_at, drop_at}
use mathlib.Core.List.{List, [], ◌∷◌, ◌++◌, append_assoc, append-nil}
use Rattle.std.proofs.Math.ListN.{length, replicate, length-append}
use Rattle.std.proofs.lemmas.List.{length-replicate, replicate-append-replicate, set_at}
use Rattle.std.proofs.lemmas.List.Edits.{sets, sets-eq}
use Rattle.plan.specs.declared.Plan.{Plan}
use Rattle.plan.specs.Limits.{most_jobs}
use Rattle.plan.specs.PlanLines.{filled}
use Rattle.plan.specs.ListLaws.{filled-length}
use Rattle.plan.specs.Accepted.{Accepted}
use Rattle.events.specs.declared.Events.{Events}
use Rattle.events.specs.Bits.{bits_of, event_set, most_events}
use Rattle.events.specs.BitsLaws.{events_of-bits, event_set-nil}
use Rattle.bounds.specs.Events.{start_node, finish_node, nodes}
use Rattle.bounds.specs.Tables.{Rows, Set, contradiction, bounds}
use Rattle.bounds.specs.Elimination.{without_finish, without_start, without_place, then_set, eliminated}
use Rattle.bounds.specs.Flat.{rows_of, set_in}
use Rattle.bounds.specs.Held.{JudgedTable}
use Rattle.bounds.specs.BuildLaws.{length-listed}
use Rattle.bounds.specs.JudgedTableLaws.{without_start-judged-table, without_finish-judged-table}
use Rattle.bounds.specs.PlacesLaws.{set_in-left, finish-next, without_place-some}
use Rattle.calendars.specs.declared.Terms.{Terms}
use Rattle.calendars.specs.declared.Calendar.{Calendar}
use Rattle.rounds.specs.Rounds.{is_contradictory}
use Rattle.calendars.specs.Calendars.{then_tables, before_starts, terms_of, least_cs, most_cs, no_terms, all_terms, all_cs, calendar_of, no_calendar}
use Rattle.calendars.specs.Recorded.{row_at}

-- ---- sizes

least_cs-short : (p : Plan) → Accepted p → (i : ℕ) (t : Rows) → i < p.jobs → length (least_cs p i t) ≤ most_events
unfolding least_cs
least_cs-short p a i t h =
    let most = a.jobs-most in
    let size : length (least_cs p i t) ≡ 2 * (p.jobs + i) = length-listed (2 * (p.jobs + i)) _ in
    omega (arith, size)

most_cs-short : (p : Plan) → Accepted p → (i : ℕ) (t : Rows) → i < p.jobs → length (most_cs p i t) ≤ most_events
unfolding most_cs
most_cs-short p a i t h =
    let most = a.jobs-most in
    let size : length (most_cs p i t) ≡ 2 * (p.jobs + i) = length-listed (2 * (p.jobs + i)) _ in
    omega (arith, size)

pub all_terms-length : (p : Plan) (i : ℕ) (ts : List Rows) → length (all_terms p i ts) ≡ length ts
unfolding all_terms
all_terms-length p i [] = refl
all_terms-length p i (t ∷ ts) = ap suc (all_terms-length p (suc i) ts)

module _ (cs : ℕ → Rows → List ℤ) (n : ℕ) (short : (i : ℕ) (t : Rows) → i < n → length (cs i t) ≤ most_events) where
  all_cs-length : (i : ℕ) (ts : List Rows) → i + length ts ≤ n → length (all_cs cs i ts) ≡ row_at (length ts)
  unfolding all_cs
  all_cs-length i [] h = refl
  all_cs-length i (t ∷ ts) h =
      let rest = all_cs-length (suc i) ts (omega arith) in
      let row = filled-length most_events (pos 0) (cs i t) (short i t (omega arith)) in
      let both = length-append (filled most_events (pos 0) (cs i t)) (all_cs cs (suc i) ts) in
      omega (arith, rest, row, both)

-- ---- one job recorded before those after it

all_terms-more : (p : Plan) (i : ℕ) (t : Rows) (ts : List Rows) (rest us : List Terms) (x : Terms)
    → us ≡ replicate (suc i) no_terms ++ (all_terms p (suc i) ts ++ rest)
    → x ≡ terms_of p i t
    → set us i x ≡ replicate i no_terms ++ (all_terms p i (t ∷ ts) ++ rest)
unfolding all_terms
all_terms-more p i t ts rest us x e is =
    let one : suc i ≡ i + 1 = omega arith in
    let others = all_terms p (suc i) ts ++ rest in
    let split : us ≡ replicate i no_terms ++ no_terms ∷ others
    = e
    ∙ ap (λ (k : ℕ). replicate k no_terms ++ others) one
    ∙ ap (λ (r : List Terms). r ++ others) (sym (replicate-append-replicate i 1 no_terms))
    ∙ append_assoc (replicate i no_terms) (no_terms ∷ []) others in
    ap₂ (λ (us : List Terms) (x : Terms). set us i x) split is
    ∙ set_at (replicate i no_terms) no_terms others (terms_of p i t) i (length-replicate i no_terms)

-- a run stored over zeros
zeros-stored : (n : ℕ) (xs others : List ℤ) → length xs ≤ most_events
    → sets (replicate (n + most_events) (pos 0) ++ others) n xs ≡ replicate n (pos 0) ++ (xs ++ (replicate (most_events - length xs) (pos 0) ++ others))
zeros-stored n xs others h =
    let m = length xs in
    let left = replicate (most_events - m) (pos 0) ++ others in
    let zeros : (k : ℕ) → List ℤ = λ k. replicate k (pos 0) in
    let all : n + most_events ≡ (n + m) + (most_events - m) = omega arith in
    let late : zeros (n + most_events) ++ others ≡ zeros (n + m) ++ left
    = ap (λ (k : ℕ). zeros k ++ others) all
    ∙ ap (λ (r : List ℤ). r ++ others) (sym (replicate-append-replicate (n + m) (most_events - m) (pos 0)))
    ∙ append_assoc (zeros (n + m)) (zeros (most_events - m)) others in
    let early : zeros (n + most_events) ++ others ≡ zeros n ++ (zeros m ++ left)
    = late ∙ ap (λ (r : List ℤ). r ++ left) (sym (replicate-append-replicate n m (pos 0))) ∙ append_assoc (zeros n) (zeros m) left in
    let room : n + length xs ≤ length (zeros (n + most_events) ++ others)
    = omega (arith, length-append (zeros (n + most_events)) others, length-replicate (n + most_events) (pos 0)) in
    sets-eq xs (zeros (n + most_events) ++ others) n room
    ∙ ap₂ (λ (a b : List ℤ). (a ++ xs) ++ b) (ap (take n) early ∙ take_at (zeros n) (zeros m ++ left) n (length-replicate n (pos 0)))
    (ap (drop (n + m)) late ∙ drop_at (zeros (n + m)) left (n + m) (length-replicate (n + m) (pos 0)))
    ∙ append_assoc (zeros n) xs left

all_cs-more : (cs : ℕ → Rows → List ℤ) (i : ℕ) (t : Rows) (ts : List Rows) (rest us : List ℤ) → length (cs i t) ≤ most_events
    → us ≡ replicate (row_at (suc i)) (pos 0) ++ (all_cs cs (suc i) ts ++ rest)
    → sets us (row_at i) (cs i t) ≡ replicate (row_at i) (pos 0) ++ (all_cs cs i (t ∷ ts) ++ rest)
unfolding all_cs
all_cs-more cs i t ts rest us h e =
    let next : row_at (suc i) ≡ row_at i + most_events = omega arith in
    let xs = cs i t in
    let pad = replicate (most_events - length xs) (pos 0) in
    let later = all_cs cs (suc i) ts in
    ap (λ (us : List ℤ). sets us (row_at i) xs) (e ∙ ap (λ (k : ℕ). replicate k (pos 0) ++ (later ++ rest)) next)
    ∙ zeros-stored (row_at i) xs (later ++ rest) h
    ∙ ap (λ (r : List ℤ). replicate (row_at i) (pos 0) ++ r)
    (sym (append_assoc (xs ++ pad) later rest ∙ append_assoc xs pad (later ++ rest)))

-- ---- tables

before_starts-more : (p : Plan) (count : ℕ) (t u v : Rows) → without_finish p (p.jobs + count) t ≡ bounds u → without_start p (p.jobs + count) u ≡ bounds v
    → before_starts p (suc count) t ≡ before_starts p count v ++ (u ∷ [])
unfolding before_starts then_tables
before_starts-more p count t u v f s =
    ap (λ (r : Set). then_tables r (λ u. then_tables (without_start p (p.jobs + count) u) (before_starts p count) ++ (u ∷ []))) f
    ∙ ap (λ (r : Set). then_tables r (before_starts p count) ++ (u ∷ [])) s

-- ---- no contradiction

then-sound : (s : Set) (f : Rows → Set) → is_contradictory (then_set s f) ≡ false → is_contradictory s ≡ false
unfolding then_set
then-sound contradiction f e = e
then-sound (bounds t) f e = refl

set-sound : (k : ℕ) (found : Bool) (ws : List ℤ) → is_contradictory (set_in k found ws) ≡ false → found ≡ false
set-sound k true ws e = e
set-sound k false ws e = refl

-- ---- the walk

pub record Walked (p : Plan) (t : Rows) (left : ℕ) (ws : List ℤ) (terms : List Terms) (least most : List ℤ) : Type 0 where
  -- the tables before the starts of the jobs from place left on
  pub recorded : List Rows
  pub places : left + length recorded ≡ p.jobs
  pub tables : before_starts p p.jobs t ≡ before_starts p left (rows_of (nodes (p.jobs + left)) ws) ++ recorded
  pub fit : JudgedTable p (nodes (p.jobs + left)) (rows_of (nodes (p.jobs + left)) ws)
  pub sound : is_contradictory (eliminated p p.jobs left (rows_of (nodes (p.jobs + left)) ws)) ≡ false
  pub terms-are : terms ≡ replicate left no_terms ++ (all_terms p left recorded ++ replicate (most_jobs - p.jobs) no_terms)
  pub least-are : least ≡ replicate (row_at left) (pos 0) ++ (all_cs (least_cs p) left recorded ++ replicate (row_at (most_jobs - p.jobs)) (pos 0))
  pub most-are : most ≡ replicate (row_at left) (pos 0) ++ (all_cs (most_cs p) left recorded ++ replicate (row_at (most_jobs - p.jobs)) (pos 0))

-- a calendar that says nothing
no-cs : (cs : ℕ → Rows → List ℤ) (i : ℕ) → [] ≡ all_cs cs i []
unfolding all_cs
no-cs cs i = refl

no-terms : (p : Plan) (i : ℕ) → [] ≡ all_terms p i []
unfolding all_terms
no-terms p i = refl

no_calendar-is : (p : Plan)
    → ◌≡◌ {A = Calendar}
    (record {
      terms = replicate most_jobs no_terms;
      at_least = replicate (most_jobs * most_events) (pos 0);
      at_most = replicate (most_jobs * most_events) (pos 0);
    })
    (no_calendar p)
unfolding calendar_of
no_calendar-is p =
    ap (λ (x : List Terms). record {
      terms = filled most_jobs no_terms x;
      at_least = filled (most_jobs * most_events) (pos 0) [];
      at_most = filled (most_jobs * most_events) (pos 0) [];
    }) (no-terms p 0)
    ∙ ap₂ (λ (x y : List ℤ). record {
      terms = filled most_jobs no_terms (all_terms p 0 []);
      at_least = filled (most_jobs * most_events) (pos 0) x;
      at_most = filled (most_jobs * most_events) (pos 0) y;
    })
    (no-cs (least_cs p) 0)
    (no-cs (most_cs p) 0)

-- the same, made of a set of no events
pub no_calendar-made : (none : Events) → bits_of none ≡ event_set [] → (p : Plan)
    → ◌≡◌ {A = Calendar}
    (record {
      terms = replicate most_jobs (record { low = record { 0 = pos 0 }; high = record { 0 = pos 0 }; below = none; above = none });
      at_least = replicate (most_jobs * most_events) (pos 0);
      at_most = replicate (most_jobs * most_events) (pos 0);
    })
    (no_calendar p)
no_calendar-made none h p =
    ap (λ (set : Events).
    record {
      terms = replicate most_jobs (record { low = record { 0 = pos 0 }; high = record { 0 = pos 0 }; below = set; above = set });
      at_least = replicate (most_jobs * most_events) (pos 0);
      at_most = replicate (most_jobs * most_events) (pos 0);
    })
    (events_of-bits none (h ∙ event_set-nil))
    ∙ no_calendar-is p

module _ (p : Plan) (a : Accepted p) where
  zeros-split : (cs : ℕ → Rows → List ℤ)
      → replicate (most_jobs * most_events) (pos 0) ≡ replicate (row_at p.jobs) (pos 0)
      ++ (all_cs cs p.jobs [] ++ replicate (row_at (most_jobs - p.jobs)) (pos 0))
  zeros-split cs =
      let most = a.jobs-most in
      let all : most_jobs * most_events ≡ row_at p.jobs + row_at (most_jobs - p.jobs) = omega arith in
      ap (λ (k : ℕ). replicate k (pos 0)) all
      ∙ sym (replicate-append-replicate (row_at p.jobs) (row_at (most_jobs - p.jobs)) (pos 0))
      ∙ ap (λ (c : List ℤ). replicate (row_at p.jobs) (pos 0) ++ (c ++ replicate (row_at (most_jobs - p.jobs)) (pos 0))) (no-cs cs p.jobs)

  pub Walked-start : (ws : List ℤ) (c : Calendar)
      → let t = rows_of (nodes (p.jobs + p.jobs)) ws in
      JudgedTable p (nodes (p.jobs + p.jobs)) t
      → is_contradictory (eliminated p p.jobs p.jobs t) ≡ false
      → c ≡ no_calendar p
      → Walked p t p.jobs ws c.terms c.at_least c.at_most
  Walked-start ws c fit sound none =
      let jobs-most = a.jobs-most in
      let is = none ∙ sym (no_calendar-is p) in
      let all : most_jobs ≡ p.jobs + (most_jobs - p.jobs) = omega arith in
      record {
        recorded = [];
        places = omega arith;
        tables = sym (append-nil (before_starts p p.jobs (rows_of (nodes (p.jobs + p.jobs)) ws)));
        fit = fit;
        sound = sound;
        terms-are =
            ap (λ (c : Calendar). c.terms) is ∙ ap (λ (k : ℕ). replicate k no_terms) all
            ∙ sym (replicate-append-replicate p.jobs (most_jobs - p.jobs) no_terms)
            ∙ ap (λ (r : List Terms). replicate p.jobs no_terms ++ (r ++ replicate (most_jobs - p.jobs) no_terms)) (no-terms p p.jobs);
        least-are = ap (λ (c : Calendar). c.at_least) is ∙ zeros-split (least_cs p);
        most-are = ap (λ (c : Calendar). c.at_most) is ∙ zeros-split (most_cs p);
      }

  pub Walked-some : (t : Rows) (left : ℕ) (ws : List ℤ) (terms : List Terms) (least most : List ℤ) → 0 < left → Walked p t left ws terms least most
      → Walked p t (suc (left - 1)) ws terms least most
  Walked-some t left ws terms least most h w =
      let some : left ≡ suc (left - 1) = omega arith in
      subst (λ (n : ℕ). Walked p t n ws terms least most) some w

  -- one job more, at place left
  module _ (t : Rows) (left : ℕ) (ws : List ℤ) (terms : List Terms) (least most : List ℤ) (w : Walked p t (suc left) ws terms least most) where
    abbrev k : ℕ
    k = p.jobs + left

    abbrev before : Rows
    before = rows_of (nodes (p.jobs + suc left)) ws

    last-node : nodes (p.jobs + suc left) ≡ suc (finish_node k)
    last-node = omega arith

    pub Walked-finish : JudgedTable p (suc (finish_node k)) (rows_of (suc (finish_node k)) ws)
    Walked-finish = subst (λ (n : ℕ). JudgedTable p n (rows_of n ws)) last-node w.fit

    turn : is_contradictory (then_set (without_place p k before) (eliminated p p.jobs left)) ≡ false
    unfolding eliminated
    turn = w.sound

    place-sound : is_contradictory (without_place p k before) ≡ false
    place-sound = then-sound (without_place p k before) (eliminated p p.jobs left) turn

    module _ (found : Bool) (us : List ℤ) (finished : set_in (finish_node k) found us ≡ without_finish p k (rows_of (suc (finish_node k)) ws)) where
      finish-is : set_in (finish_node k) found us ≡ without_finish p k before
      finish-is = finished ∙ ap (λ (n : ℕ). without_finish p k (rows_of n ws)) (sym last-node)

      finish-sound : found ≡ false
      unfolding without_place
      finish-sound =
          set-sound (finish_node k) found us (ap is_contradictory finish-is ∙ then-sound (without_finish p k before) (without_start p k) place-sound)

      judged-table-before : JudgedTable p (suc (finish_node k)) before
      judged-table-before = subst (λ (n : ℕ). JudgedTable p n before) last-node w.fit

      pub Walked-last : JudgedTable p (suc (start_node k)) (rows_of (suc (start_node k)) us)
      Walked-last =
          subst (λ (n : ℕ). JudgedTable p n (rows_of n us)) (finish-next k)
          (without_finish-judged-table p k before (rows_of (finish_node k) us) judged-table-before
          (sym finish-is ∙ set_in-left (finish_node k) found us finish-sound))

      abbrev u : Rows
      u = rows_of (suc (start_node k)) us

      finish-left : without_finish p k before ≡ bounds u
      finish-left = sym finish-is ∙ set_in-left (finish_node k) found us finish-sound ∙ ap (λ (n : ℕ). bounds (rows_of n us)) (finish-next k)

      module _ (again : Bool) (vs : List ℤ) (started : set_in (start_node k) again vs ≡ without_start p k (rows_of (suc (start_node k)) us)) where
        place_is : set_in (start_node k) again vs ≡ without_place p k before
        place_is = started ∙ sym (without_place-some p k before u finish-left)

        start-sound : again ≡ false
        start-sound = set-sound (start_node k) again vs (ap is_contradictory place_is ∙ place-sound)

        abbrev v : Rows
        v = rows_of (nodes k) vs

        start_left : without_start p k u ≡ bounds v
        start_left = sym started ∙ set_in-left (start_node k) again vs start-sound

        next-sound : is_contradictory (eliminated p p.jobs left v) ≡ false
        unfolding then_set
        next-sound =
            ap is_contradictory (sym (ap (λ (s : Set). then_set s (eliminated p p.jobs left)) (sym place_is ∙ set_in-left (start_node k) again vs start-sound)))
            ∙ turn

        pub Walked-more : (x : Terms) (l m : List ℤ) → x ≡ terms_of p left u → l ≡ sets least (row_at left) (least_cs p left u)
            → m ≡ sets most (row_at left) (most_cs p left u)
            → Walked p t left vs (set terms left x) l m
        Walked-more x l m x-is l-is m-is =
            let places = w.places in
            let job : left < p.jobs = omega arith in
            record {
              recorded = u ∷ w.recorded;
              places = omega arith;
              tables =
                  w.tables ∙ ap (λ (ts : List Rows). ts ++ w.recorded) (before_starts-more p left before u v finish-left start_left)
                  ∙ append_assoc (before_starts p left v) (u ∷ []) w.recorded;
              fit = without_start-judged-table p k u v Walked-last start_left;
              sound = next-sound;
              terms-are = all_terms-more p left u w.recorded (replicate (most_jobs - p.jobs) no_terms) terms x w.terms-are x-is;
              least-are =
                  l-is
                  ∙ all_cs-more (least_cs p) left u w.recorded (replicate (row_at (most_jobs - p.jobs)) (pos 0)) least (least_cs-short p a left u job)
                  w.least-are;
              most-are =
                  m-is
                  ∙ all_cs-more (most_cs p) left u w.recorded (replicate (row_at (most_jobs - p.jobs)) (pos 0)) most (most_cs-short p a left u job)
                  w.most-are;
            }

  -- no job left
  module _ (t : Rows) (ws : List ℤ) (terms : List Terms) (least most : List ℤ) (w : Walked p t 0 ws terms least most) where
    all-recorded : w.recorded ≡ before_starts p p.jobs t
    unfolding before_starts
    all-recorded = sym w.tables

    all-places : length w.recorded ≡ p.jobs
    all-places = let places = w.places in omega arith

    rest-filled : (cs : ℕ → Rows → List ℤ) → ((i : ℕ) (t : Rows) → i < p.jobs → length (cs i t) ≤ most_events) → (us : List ℤ)
        → us ≡ replicate (row_at 0) (pos 0) ++ (all_cs cs 0 w.recorded ++ replicate (row_at (most_jobs - p.jobs)) (pos 0))
        → us ≡ filled (most_jobs * most_events) (pos 0) (all_cs cs 0 w.recorded)
    rest-filled cs short us e =
        let size = all_cs-length cs p.jobs short 0 w.recorded (omega (arith, all-places)) in
        let jobs-most = a.jobs-most in
        let rest : row_at (most_jobs - p.jobs) ≡ most_jobs * most_events - length (all_cs cs 0 w.recorded) = omega (arith, size, all-places) in
        e ∙ ap (λ (n : ℕ). all_cs cs 0 w.recorded ++ replicate n (pos 0)) rest

    pub Walked-end : ◌≡◌ {A = Calendar} (record { terms = terms; at_least = least; at_most = most }) (calendar_of p (before_starts p p.jobs t))
    unfolding calendar_of
    Walked-end =
        let count = all_terms-length p 0 w.recorded in
        let rest : most_jobs - p.jobs ≡ most_jobs - length (all_terms p 0 w.recorded) = omega (arith, count, all-places) in
        let terms-is : terms ≡ filled most_jobs no_terms (all_terms p 0 w.recorded)
        = w.terms-are ∙ ap (λ (n : ℕ). all_terms p 0 w.recorded ++ replicate n no_terms) rest in
        ap (λ (x : List Terms). record { terms = x; at_least = least; at_most = most }) terms-is
        ∙ ap₂
        (λ (x y : List ℤ). record { terms = filled most_jobs no_terms (all_terms p 0 w.recorded); at_least = x; at_most = y })
        (rest-filled (least_cs p) (least_cs-short p a) least w.least-are)
        (rest-filled (most_cs p) (most_cs-short p a) most w.most-are)
        ∙ ap (calendar_of p) all-recorded
