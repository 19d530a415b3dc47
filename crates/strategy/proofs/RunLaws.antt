-- A run value and its history: the times of a run are its history's, so its offer is what the tables allow, in the first window and in later ones.
use Prim.Native.Nat.{ℕ, zero, suc, ◌+◌, ◌*◌, ◌-◌, ◌≤◌, ◌<◌}
use Rattle.std.specs.Prelude.{◌≡◌, ◌⊎◌, List, [], ℤ, pos, ◌+ℤ◌, ◌-ℤ◌, ◌*ℤ◌, get_or}
use Rattle.std.proofs.Math.Path.{refl, sym, ap, ap₂}
use Rattle.std.proofs.Common.{subst, ◌∙◌, ⊎_elim}
use Rattle.std.proofs.Math.Logic.{inl, inr}
use native.Mathlib.Omega.{arith}
use Rattle.std.proofs.Math.ListN.{length}
use Rattle.whole.specs.SplitLaws.{split-mul}
use Rattle.whole.specs.Rules.{wholes}
use Rattle.whole.specs.Shape.{any, ◌⊕◌, ◌⊖◌, eq}
use Rattle.whole.specs.ShapeLaws.{shows}
use Rattle.plan.specs.declared.Plan.{Plan}
use Rattle.plan.specs.Limits.{most_jobs}
use Rattle.bounds.specs.Events.{event_of, start_node, finish_node}
use Rattle.bounds.specs.Tables.{plus, Rows, at}
use Rattle.bounds.specs.BuildLaws.{event_of-start, event_of-finish, by_node}
use Rattle.rounds.specs.Rounds.{own_nodes, shift_of}
use Rattle.events.specs.Bits.{most_events}
use Rattle.runs.specs.declared.Before.TheVariants.{Nothing, Window}
use Rattle.runs.specs.declared.Run.{Run}
use Rattle.runs.specs.Seen.{time_at}
use Rattle.runs.specs.SeenLaws.{first_seen-most}
use Rattle.rounds.specs.Next.{onto}
use Rattle.strategy.specs.Histories.{Ran, History, seen_from}
use Rattle.strategy.specs.Strategies.{ran_in}
use Rattle.strategy.proofs.Keeping.{Holds, when}
use Rattle.strategy.proofs.CellLaws.{plus-iff}
use Rattle.strategy.proofs.SeenLaws.{at-most-or-above, ran-seen}
use Rattle.strategy.proofs.JoinedLaws.{next_node, next-later, moved_later}
use Rattle.strategy.proofs.AloneLaws.{MovedCells}
use Rattle.strategy.proofs.StageLaws.{Allowed}
use Rattle.strategy.proofs.OfferLaws.{InForce, table_begin, node_time, StartFits}

-- ---- what a run shows

-- the job at place k of the previous and the present window has run as the history says
pub record ShowsJob (seen : List ℤ) (k : ℕ) (q : Ran) : Type 0 where
  pub start : (time_at seen (2 * k)).0 ≡ q.start
  pub finish : (time_at seen (1 + 2 * k)).0 ≡ q.finish

-- the previous window, where there is one
abbrev pub ShowsPrevious : Plan → Run → History → ℕ → Type 0
ShowsPrevious p r h zero = r.before ≡ Nothing
ShowsPrevious p r h (suc j) = (r.before ≡ Window) × ((k : ℕ) → k < p.jobs → ShowsJob r.seen k (ran_in h (j * p.jobs + k)))

-- j windows and i jobs of the next one
pub record ShowsHistory (p : Plan) (r : Run) (h : History) (j i : ℕ) : Type 0 where
  pub places : length r.seen ≡ most_events
  pub present : (k : ℕ) → k < i → ShowsJob r.seen (p.jobs + k) (ran_in h (j * p.jobs + k))
  pub previous : ShowsPrevious p r h j

-- ---- the times of its events

module _ (p : Plan) (r : Run) where
  node-time : (J y : ℕ) → 0 < y → node_time p r J y ≡ (time_at r.seen (y - 1)).0 -ℤ table_begin p J
  node-time J zero h = absurd (omega arith)
  node-time J (suc k) h = ap (λ k. (time_at r.seen k).0 -ℤ table_begin p J) (let e : k ≡ suc k - 1 = omega arith in e)

  all-force : r.before ≡ Window → (y : ℕ) → InForce p r y
  all-force h zero = tt
  all-force h (suc k) = rw h (omega arith)

  next-force : (y : ℕ) → InForce p r (next_node p y)
  unfolding onto
  next-force zero = tt
  next-force (suc y) = rw (next-later p (suc y) (omega arith), suc-of y (own_nodes p)) (omega (arith, first_seen-most p.jobs r.before))
    where
      suc-of : (y n : ℕ) → suc y + n ≡ suc (y + n)
      suc-of y n = omega arith

  -- in the first window only the present window's events are in force
  force-next : r.before ≡ Nothing → (y : ℕ) → InForce p r y → (x : ℕ) × (y ≡ next_node p x) × ((x ≡ 0) ⊎ (x + own_nodes p ≡ y))
  unfolding onto
  force-next h zero f = (0, refl, inl refl)
  force-next h (suc k) f =
      let b : 2 * p.jobs ≤ k = rw h at f in
      let e : suc k ≡ (suc k - own_nodes p) + own_nodes p = omega arith in
      (suc k - own_nodes p, e ∙ sym (next-later p (suc k - own_nodes p) (omega arith)), inr (sym e))

  -- ---- later windows

  module _ (h : History) (j i : ℕ) (sh : ShowsHistory p r h (suc j) i) (low : i < p.jobs) (size : length h ≡ suc j * p.jobs + i) where
    -- the jobs of both windows
    shows-job : (k : ℕ) → k < p.jobs + i → ShowsJob r.seen k (ran_in h (j * p.jobs + k))
    shows-job k l =
        ⊎_elim
        (λ (a : p.jobs ≤ k).
        let e : p.jobs + (k - p.jobs) ≡ k = omega arith in
        let f : suc j * p.jobs + (k - p.jobs) ≡ j * p.jobs + k = omega arith in
        subst (λ n. ShowsJob r.seen n (ran_in h (j * p.jobs + k))) e
        (subst (λ n. ShowsJob r.seen (p.jobs + (k - p.jobs)) (ran_in h n)) f (sh.present (k - p.jobs) (omega arith))))
        (λ (a : k < p.jobs). sh.previous.1 k a)
        (at-most-or-above p.jobs k)

    begin-is : table_begin p (suc j) ≡ pos j *ℤ p.window
    begin-is = let a = split-mul (suc j) p.window in let b = split-mul j p.window in omega wholes

    later-time : (y : ℕ) → y < start_node (p.jobs + i) → node_time p r (suc j) y ≡ when (seen_from p j h) (event_of y)
    unfolding event_of
    later-time =
        by_node (λ y. y < start_node (p.jobs + i) → node_time p r (suc j) y ≡ when (seen_from p j h) (event_of y)) (λ l. refl)
        (λ k l.
        let low' : k < p.jobs + i = omega arith in
        let inside : j * p.jobs + k < length h = omega arith in
        node-time (suc j) (start_node k) (omega arith)
        ∙ ap₂ (λ a b. a -ℤ b) (ap (λ e. (time_at r.seen e).0) (let e : start_node k - 1 ≡ 2 * k = omega arith in e) ∙ (shows-job k low').start) begin-is
        ∙ sym (ap (when (seen_from p j h)) (event_of-start k) ∙ ap (λ r. r.start) (ran-seen p j h k inside)))
        (λ k l.
        let low' : k < p.jobs + i = omega arith in
        let inside : j * p.jobs + k < length h = omega arith in
        node-time (suc j) (finish_node k) (omega arith)
        ∙ ap₂ (λ a b. a -ℤ b) (ap (λ e. (time_at r.seen e).0) (let e : finish_node k - 1 ≡ 1 + 2 * k = omega arith in e) ∙ (shows-job k low').finish) begin-is
        ∙ sym (ap (when (seen_from p j h)) (event_of-finish k) ∙ ap (λ r. r.finish) (ran-seen p j h k inside)))

  -- ---- the first window

  module _ (h : History) (i : ℕ) (sh : ShowsHistory p r h 0 i) where
    first-job : (k : ℕ) → k < i → ShowsJob r.seen (p.jobs + k) (ran_in h k)
    first-job k l = subst (λ n. ShowsJob r.seen (p.jobs + k) (ran_in h n)) (let e : 0 * p.jobs + k ≡ k = omega arith in e) (sh.present k l)

    later-by : (y : ℕ) → 0 < y → node_time p r 0 (next_node p y) ≡ (time_at r.seen (y + own_nodes p - 1)).0 -ℤ table_begin p 0
    later-by y l =
        ap (node_time p r 0) (next-later p y l) ∙ node-time 0 (y + own_nodes p) (omega arith)

    window-later : (a w : ℤ) → a -ℤ (pos 0 *ℤ w -ℤ w) ≡ a +ℤ w
    window-later a w = let m = split-mul 0 w in omega (shows eq (any ⊖ (any ⊖ any)) (any ⊕ any), wholes)

    first-time : (y : ℕ) → y < start_node i → node_time p r 0 (next_node p y) ≡ when h (event_of y) +ℤ shift_of p y
    unfolding event_of onto
    first-time =
        by_node (λ y. y < start_node i → node_time p r 0 (next_node p y) ≡ when h (event_of y) +ℤ shift_of p y)
        (λ l. refl)
        (λ k l.
        later-by (start_node k) (omega arith)
        ∙ ap (λ a. a -ℤ table_begin p 0) (ap (λ e. (time_at r.seen e).0) (let e : start_node k + own_nodes p - 1 ≡ 2 * (p.jobs + k) = omega arith in e)
        ∙ (first-job k (omega arith)).start)
        ∙ window-later (ran_in h k).start p.window
        ∙ sym (ap₂ (λ e m. when h e +ℤ m) (event_of-start k) (moved_later p (start_node k) (omega arith))))
        (λ k l.
        later-by (finish_node k) (omega arith)
        ∙ ap (λ a. a -ℤ table_begin p 0) (ap (λ e. (time_at r.seen e).0) (let e : finish_node k + own_nodes p - 1 ≡ 1 + 2 * (p.jobs + k) = omega arith in e)
        ∙ (first-job k (omega arith)).finish)
        ∙ window-later (ran_in h k).finish p.window
        ∙ sym (ap₂ (λ e m. when h e +ℤ m) (event_of-finish k) (moved_later p (finish_node k) (omega arith))))

-- ---- what the tables allow, and what fits the calendar

module _ (p : Plan) (few : p.jobs ≤ most_jobs) (ts : List Rows) (all : length ts ≡ p.jobs) (i : ℕ) (low : i < p.jobs) (r : Run) (h : History) (t : ℤ) where
  abbrev table : Rows
  table = get_or ts i []

  -- later windows
  module _ (j : ℕ) (sh : ShowsHistory p r h (suc j) i) (size : length h ≡ suc j * p.jobs + i) (v : Rows) (v-is : table ≡ v) where
    later-at : (y : ℕ) → y < start_node (p.jobs + i)
        → node_time p r (suc j) y -ℤ (t -ℤ table_begin p (suc j)) ≡ when (seen_from p j h) (event_of y) -ℤ (t -ℤ pos j *ℤ p.window)
    later-at y l = ap₂ (λ a b. a -ℤ (t -ℤ b)) (later-time p r h j i sh low size y l) (begin-is p r h j i sh low size)

    later-back : (y : ℕ) → y < start_node (p.jobs + i)
        → (t -ℤ table_begin p (suc j)) -ℤ node_time p r (suc j) y ≡ (t -ℤ pos j *ℤ p.window) -ℤ when (seen_from p j h) (event_of y)
    later-back y l = ap₂ (λ a b. (t -ℤ b) -ℤ a) (later-time p r h j i sh low size y l) (begin-is p r h j i sh low size)

    pub later-start_fits : Allowed v (p.jobs + i) (λ y. when (seen_from p j h) (event_of y)) (t -ℤ pos j *ℤ p.window) → StartFits p few ts all i low r (suc j) t
    later-start_fits a =
        record {
          row = λ y l f. subst (λ v. Holds (at v (start_node (p.jobs + i)) y) (node_time p r (suc j) y -ℤ (t -ℤ table_begin p (suc j)))) (sym v-is)
              (subst (Holds (at v (start_node (p.jobs + i)) y)) (sym (later-at y l)) (a.row y l));
          column = λ y l f. subst (λ v. Holds (at v y (start_node (p.jobs + i))) ((t -ℤ table_begin p (suc j)) -ℤ node_time p r (suc j) y)) (sym v-is)
              (subst (Holds (at v y (start_node (p.jobs + i)))) (sym (later-back y l)) (a.column y l));
        }

    pub start_fits-later : StartFits p few ts all i low r (suc j) t → Allowed v (p.jobs + i) (λ y. when (seen_from p j h) (event_of y)) (t -ℤ pos j *ℤ p.window)
    start_fits-later f =
        record {
          row =
              λ y l.
              subst (Holds (at v (start_node (p.jobs + i)) y)) (later-at y l)
              (subst (λ v. Holds (at v (start_node (p.jobs + i)) y) (node_time p r (suc j) y -ℤ (t -ℤ table_begin p (suc j)))) v-is
              (f.row y l (all-force p r sh.previous.0 y)));
          column =
              λ y l.
              subst (Holds (at v y (start_node (p.jobs + i)))) (later-back y l)
              (subst (λ v. Holds (at v y (start_node (p.jobs + i))) ((t -ℤ table_begin p (suc j)) -ℤ node_time p r (suc j) y)) v-is
              (f.column y l (all-force p r sh.previous.0 y)));
        }

  -- the first window
  gap_row : (a m t w : ℤ) → ((a +ℤ m) -ℤ (t +ℤ w)) -ℤ (m -ℤ w) ≡ a -ℤ t
  gap_row a m t w = omega (shows eq (any ⊕ any ⊖ (any ⊕ any) ⊖ (any ⊖ any)) (any ⊖ any), wholes)

  gap-column : (a m t w : ℤ) → ((t +ℤ w) -ℤ (a +ℤ m)) -ℤ (w -ℤ m) ≡ t -ℤ a
  gap-column a m t w = omega (shows eq (any ⊕ any ⊖ (any ⊕ any) ⊖ (any ⊖ any)) (any ⊖ any), wholes)

  module _ (sh : ShowsHistory p r h 0 i) (v w : Rows) (v-is : table ≡ v) (same : MovedCells p (finish_node i) (at w) (at v)) where
    abbrev s : ℕ
    s = start_node (p.jobs + i)

    s-is : s ≡ next_node p (start_node i)
    s-is = let e : start_node (p.jobs + i) ≡ start_node i + own_nodes p = omega arith in e ∙ sym (next-later p (start_node i) (omega arith))

    abbrev x : ℤ
    x = t -ℤ table_begin p 0

    x-is : x ≡ t +ℤ shift_of p (start_node i)
    x-is = window-later p r h i sh t p.window ∙ ap (λ w. t +ℤ w) (sym (moved_later p (start_node i) (omega arith)))

    row-cell : (y : ℕ) → y < start_node i → at table s (next_node p y) ≡ plus (at w (start_node i) y) (shift_of p y -ℤ shift_of p (start_node i))
    row-cell y l = ap₂ (λ v s. at v s (next_node p y)) v-is s-is ∙ same (start_node i) y (omega arith) (omega arith)

    column-cell : (y : ℕ) → y < start_node i → at table (next_node p y) s ≡ plus (at w y (start_node i)) (shift_of p (start_node i) -ℤ shift_of p y)
    column-cell y l = ap₂ (λ v s. at v (next_node p y) s) v-is s-is ∙ same y (start_node i) (omega arith) (omega arith)

    row-gap : (y : ℕ) → y < start_node i → (node_time p r 0 (next_node p y) -ℤ x) -ℤ (shift_of p y -ℤ shift_of p (start_node i)) ≡ when h (event_of y) -ℤ t
    row-gap y l =
        ap₂ (λ a b. (a -ℤ b) -ℤ (shift_of p y -ℤ shift_of p (start_node i))) (first-time p r h i sh y l) x-is
        ∙ gap_row (when h (event_of y)) (shift_of p y) t (shift_of p (start_node i))

    column-gap : (y : ℕ) → y < start_node i → (x -ℤ node_time p r 0 (next_node p y)) -ℤ (shift_of p (start_node i) -ℤ shift_of p y) ≡ t -ℤ when h (event_of y)
    column-gap y l =
        ap₂ (λ a b. (b -ℤ a) -ℤ (shift_of p (start_node i) -ℤ shift_of p y)) (first-time p r h i sh y l) x-is
        ∙ gap-column (when h (event_of y)) (shift_of p y) t (shift_of p (start_node i))

    next_low : (y : ℕ) → y < start_node i → next_node p y < s
    unfolding onto
    next_low zero l = omega arith
    next_low (suc y) l = rw (next-later p (suc y) (omega arith)) (omega arith)

    pub start_fits-first : StartFits p few ts all i low r 0 t → Allowed w i (λ y. when h (event_of y)) t
    start_fits-first f =
        record {
          row =
              λ y l.
              subst (Holds (at w (start_node i) y)) (row-gap y l)
              ((plus-iff (at w (start_node i) y) (shift_of p y -ℤ shift_of p (start_node i)) (node_time p r 0 (next_node p y) -ℤ x)).0
              (subst (λ c. Holds c (node_time p r 0 (next_node p y) -ℤ x)) (row-cell y l) (f.row (next_node p y) (next_low y l) (next-force p r y))));
          column =
              λ y l.
              subst (Holds (at w y (start_node i))) (column-gap y l)
              ((plus-iff (at w y (start_node i)) (shift_of p (start_node i) -ℤ shift_of p y) (x -ℤ node_time p r 0 (next_node p y))).0
              (subst (λ c. Holds c (x -ℤ node_time p r 0 (next_node p y))) (column-cell y l) (f.column (next_node p y) (next_low y l) (next-force p r y))));
        }

    row_at : Allowed w i (λ y. when h (event_of y)) t → (y : ℕ) → y < start_node i → Holds (at table s (next_node p y)) (node_time p r 0 (next_node p y) -ℤ x)
    row_at a y l =
        subst (λ c. Holds c (node_time p r 0 (next_node p y) -ℤ x)) (sym (row-cell y l))
        ((plus-iff (at w (start_node i) y) (shift_of p y -ℤ shift_of p (start_node i)) (node_time p r 0 (next_node p y) -ℤ x)).1
        (subst (Holds (at w (start_node i) y)) (sym (row-gap y l)) (a.row y l)))

    column-at : Allowed w i (λ y. when h (event_of y)) t → (y : ℕ) → y < start_node i → Holds (at table (next_node p y) s) (x -ℤ node_time p r 0 (next_node p y))
    column-at a y l =
        subst (λ c. Holds c (x -ℤ node_time p r 0 (next_node p y))) (sym (column-cell y l))
        ((plus-iff (at w y (start_node i)) (shift_of p (start_node i) -ℤ shift_of p y) (x -ℤ node_time p r 0 (next_node p y))).1
        (subst (Holds (at w y (start_node i))) (sym (column-gap y l)) (a.column y l)))

    back_low : (y x : ℕ) → y < s → (x ≡ 0) ⊎ (x + own_nodes p ≡ y) → x < start_node i
    back_low y x l (inl e) = omega arith
    back_low y x l (inr e) = omega arith

    pub first-start_fits : Allowed w i (λ y. when h (event_of y)) t → StartFits p few ts all i low r 0 t
    first-start_fits a =
        record {
          row =
              λ y l f.
              let n = force-next p r sh.previous y f in
              subst (λ y. Holds (at table s y) (node_time p r 0 y -ℤ x)) (sym n.1) (row_at a n.0 (back_low y n.0 l n.2));
          column =
              λ y l f.
              let n = force-next p r sh.previous y f in
              subst (λ y. Holds (at table y s) (x -ℤ node_time p r 0 y)) (sym n.1) (column-at a n.0 (back_low y n.0 l n.2));
        }
