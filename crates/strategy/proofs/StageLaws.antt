-- The table just before the start of one job is eliminated. A time is allowed by its row and column exactly if, started then, for every running time
-- the rest of the game can be won; and if the game can be won, some time is. The calendar's tables are these, and one window alone has the same,
-- moved by `window`.
use Prim.Native.Nat.{ℕ, zero, suc, ◌+◌, ◌≤◌, ◌<◌}
use Rattle.std.specs.Prelude.{◌≡◌, ℤ, pos, ◌+ℤ◌, ◌-ℤ◌, ◌≤ℤ◌}
use Rattle.std.proofs.Math.Path.{refl, ap, subst}
use Rattle.std.proofs.Common.{sym, ◌∙◌, arith}
use Rattle.std.proofs.Math.Logic.{⊎_elim}
use mathlib.Core.List.{[], ◌∷◌, ◌++◌}
use Rattle.std.proofs.Math.Nat.{add-zero}
use Rattle.std.proofs.Math.Numerals.{add-one}
use Rattle.std.proofs.Math.ListN.{length, get_or, length-append, get_or-append}
use Rattle.std.proofs.Math.Seq.{get_or_at}
use Rattle.whole.specs.Rules.{wholes}
use Rattle.plan.specs.declared.Plan.{Plan}
use Rattle.plan.specs.Accepted.{Accepted}
use Rattle.bounds.specs.Events.{event_of, start_node, finish_node, nodes}
use Rattle.bounds.specs.Tables.{Rows, at, bounds}
use Rattle.bounds.specs.Elimination.{without_finish, without_start, then_set, without_place, eliminated}
use Rattle.calendars.specs.Calendars.{then_tables, before_starts}
use Rattle.strategy.specs.Histories.{History, ran_for, turn}
use Rattle.strategy.specs.Strategies.{Forced}
use Rattle.strategy.proofs.Keeping.{Holds, when, gap, Keeps, RunsInside}
use Rattle.strategy.proofs.EliminationLaws.{keeps-more, without-s, below-or-last}
use Rattle.strategy.proofs.HistoryLaws.{length_more, runs_inside-more, turn-min-max, forced-map, forced-split}
use Rattle.strategy.proofs.PlaceLaws.{
  when-old,
  when-start,
  WellFormed,
  finish-well_formed,
  then_set-bounds,
  start-choice,
  start-choice-back,
  start-judged-back,
  place-keeps-at,
  elim-well_formed,
  elim-keeps,
  elim-back,
}
use Rattle.strategy.proofs.AloneLaws.{MovedCells, without-finish, without-start}

-- the tables around the start at place k, of a table with rest places more
pub record Stage (p : Plan) (t : Rows) (k rest : ℕ) : Type 0 where
  -- once the places after k are eliminated
  pub after : Rows
  pub after_is : eliminated p (suc k) rest t ≡ bounds after
  -- just before the start
  pub before : Rows
  pub before-is : without_finish p k after ≡ bounds before
  -- just after it
  pub left : Rows
  pub left_is : without_start p k before ≡ bounds left

-- x is a time that the start's row and column allow; X are the times of the other nodes
pub record Allowed (v : Rows) (k : ℕ) (X : ℕ → ℤ) (x : ℤ) : Type 0 where
  pub row : (y : ℕ) → y < start_node k → Holds (at v (start_node k) y) (X y -ℤ x)
  pub column : (y : ℕ) → y < start_node k → Holds (at v y (start_node k)) (x -ℤ X y)

-- the bounds of the start to and from the origin are there
pub before-well_formed : (p : Plan) → Accepted p → (t : Rows) (k rest : ℕ) → suc k + rest ≤ p.jobs + p.jobs → WellFormed p (nodes (suc k + rest)) t
    → (stage : Stage p t k rest) → WellFormed p (finish_node k) stage.before
before-well_formed p good t k rest two well_formed stage =
    finish-well_formed p k stage.after (elim-well_formed p good (suc k) rest t stage.after two well_formed stage.after_is) stage.before
    stage.before-is

module _ (p : Plan) (good : Accepted p) (t : Rows) (k rest : ℕ) (two : suc k + rest ≤ p.jobs + p.jobs) (well_formed : WellFormed p (nodes (suc k + rest)) t)
    (stage : Stage p t k rest) (u : History) (n : length u ≡ k) (old : RunsInside p u) where
  -- the rest of the game
  abbrev Rest : ℕ → History → Type 0
  Rest g v = Forced p (Keeps (nodes (suc k + rest)) (at t)) g v

  after-well_formed : WellFormed p (nodes (suc k)) stage.after
  after-well_formed = elim-well_formed p good (suc k) rest t stage.after two well_formed stage.after_is

  rest-after : (v : History) → length v ≡ suc k → Rest rest v → Keeps (nodes (suc k)) (at stage.after) v
  rest-after v m q = elim-keeps p good (suc k) rest t stage.after two well_formed stage.after_is v m q

  after-rest : (v : History) → length v ≡ suc k → RunsInside p v → Keeps (nodes (suc k)) (at stage.after) v → Rest rest v
  after-rest v m o q = elim-back p good (suc k) rest t stage.after two well_formed stage.after_is v m o q

  size-more : (x e : ℤ) → length (ran_for u x e) ≡ suc k
  size-more x e = length_more u _ ∙ ap suc n

  -- the times of the jobs before it keep the table below the start
  below : Rest (suc rest) u → Keeps (start_node k) (at stage.before) u
  below q y z a b =
      let chosen = forced-map p _ _ 1 u (λ v f r. rest-after v (f.size ∙ ap (λ n. n + 1) n ∙ add-one k) r)
      (forced-split p _ 1 rest u (subst (λ g. Rest g u) (let e : suc rest ≡ 1 + rest = omega arith in e) q)) in
      let kept = place-keeps-at p good k (omega arith) stage.after after-well_formed u n stage.before stage.before-is stage.left
      stage.left_is chosen in
      (without-s k stage.before (λ n. pos 0) y z (gap u y z)
      (start-judged-back p good k (omega arith) stage.after after-well_formed u n stage.before stage.before-is stage.left
      stage.left_is old kept y z a b)).0

  allowed-kept : Keeps (start_node k) (at stage.before) u → (x e : ℤ) → Allowed stage.before k (λ y. when u (event_of y)) x
      → Keeps (finish_node k) (at stage.before) (ran_for u x e)
  allowed-kept old-kept x e a y z ly lz =
      let corner = (finish-well_formed p k stage.after after-well_formed stage.before stage.before-is).diagonal (start_node k) (omega arith) in
      let s = when-start u (record { start = x; finish = x +ℤ e }) k n in
      let o : (y : ℕ) → y < start_node k → when (ran_for u x e) (event_of y) ≡ when u (event_of y) = λ y h. when-old u _ y (omega arith) in
      keeps-more (start_node k) (at stage.before) (λ y. when (ran_for u x e) (event_of y))
      (λ y z a b. rw (o y a, o z b) (old-kept y z a b))
      (λ y b. rw (s, o y b) (a.column y b))
      (λ z b. rw (s, o z b) (a.row z b))
      (rw corner tt)
      y z (omega arith) (omega arith)

  kept-allowed : (x e : ℤ) → Keeps (finish_node k) (at stage.before) (ran_for u x e) → Allowed stage.before k (λ y. when u (event_of y)) x
  kept-allowed x e kept =
      let s = when-start u (record { start = x; finish = x +ℤ e }) k n in
      record {
        row = λ y h. rw (s, when-old u (record { start = x; finish = x +ℤ e }) y (omega arith)) at (kept (start_node k) y (omega arith) (omega arith));
        column = λ y h. rw (s, when-old u (record { start = x; finish = x +ℤ e }) y (omega arith)) at (kept y (start_node k) (omega arith) (omega arith));
      }

  -- started at a time that is allowed, the rest can be won for every running time, and the other way round
  pub allowed-rest : Rest (suc rest) u → (x : ℤ) → Allowed stage.before k (λ y. when u (event_of y)) x
      → (e : ℤ) → (turn p (length u)).min ≤ℤ e → e ≤ℤ (turn p (length u)).max → Rest rest (ran_for u x e)
  allowed-rest q x a e lo hi =
      let mm = turn-min-max p good (length u) in
      after-rest (ran_for u x e) (size-more x e) (runs_inside-more p u x e lo hi old)
      (start-choice p good k (omega arith) stage.after after-well_formed u n stage.before stage.before-is x (turn p (length u)).min old
      (omega wholes) mm
      (allowed-kept (below q) x (turn p (length u)).min a) e lo hi)

  pub rest-allowed : (x : ℤ) → ((e : ℤ) → (turn p (length u)).min ≤ℤ e → e ≤ℤ (turn p (length u)).max → Rest rest (ran_for u x e))
      → Allowed stage.before k (λ y. when u (event_of y)) x
  rest-allowed x f =
      kept-allowed x (turn p (length u)).min
      (start-choice-back p good k (omega arith) stage.after after-well_formed u n stage.before stage.before-is x (turn p (length u)).min
      (λ e lo hi. rest-after (ran_for u x e) (size-more x e) (f e lo hi)))

-- ---- the stages of two windows and of one alone

pub record Stages (p : Plan) (A B : Rows) (count i : ℕ) : Type 0 where
  pub rest : ℕ
  pub rest-is : suc i + rest ≡ count
  pub later : Stage p B (p.jobs + i) rest
  pub alone : Stage p A i rest
  pub same : MovedCells p (finish_node i) (at alone.before) (at later.before)
  pub listed : get_or (before_starts p count B) i [] ≡ later.before

module _ (p : Plan) where
  stage-more : (B B₂ : Rows) (k rest count : ℕ) → suc k + rest ≡ count → without_place p count B ≡ bounds B₂ → Stage p B₂ k rest → Stage p B k (suc rest)
  unfolding eliminated then_set
  stage-more B B₂ k rest count e f s =
      record {
        after = s.after;
        after_is = ap (λ x. then_set x (eliminated p (suc k) rest)) (ap (λ k. without_place p k B) e ∙ f) ∙ s.after_is;
        before = s.before;
        before-is = s.before-is;
        left = s.left;
        left_is = s.left_is;
      }

  tables_more : (count : ℕ) (B V₂ B₂ : Rows) → without_finish p (p.jobs + count) B ≡ bounds V₂ → without_start p (p.jobs + count) V₂ ≡ bounds B₂
      → before_starts p (suc count) B ≡ before_starts p count B₂ ++ (V₂ ∷ [])
  unfolding before_starts then_tables
  tables_more count B V₂ B₂ e f =
      ap (λ x. then_tables x (λ u. then_tables (without_start p (p.jobs + count) u) (before_starts p count) ++ (u ∷ []))) e
      ∙ ap (λ x. then_tables x (before_starts p count) ++ (V₂ ∷ [])) f

  pub length-tables : (count : ℕ) (B c : Rows) → eliminated p p.jobs count B ≡ bounds c → length (before_starts p count B) ≡ count
  unfolding eliminated without_place before_starts
  length-tables zero B c e = refl
  length-tables (suc count) B c e =
      let r = then_set-bounds (without_place p (p.jobs + count) B) (eliminated p p.jobs count) c e in
      let q = then_set-bounds (without_finish p (p.jobs + count) B) (without_start p (p.jobs + count)) r.0 r.1 in
      ap length (tables_more count B q.0 r.0 q.1 q.2)
      ∙ length-append (before_starts p count r.0) (q.0 ∷ [])
      ∙ add-one (length (before_starts p count r.0))
      ∙ ap suc (length-tables count r.0 c r.2)

  module _ (count : ℕ) (A B V₂ B₂ c : Rows) (low : suc count ≤ p.jobs) (same : MovedCells p (nodes (suc count)) (at A) (at B))
      (V-is : without_finish p (p.jobs + count) B ≡ bounds V₂) (B₂-is : without_start p (p.jobs + count) V₂ ≡ bounds B₂)
      (rest-is : eliminated p p.jobs count B₂ ≡ bounds c) where
    Va : (V' : Rows) × (without_finish p count A ≡ bounds V') × MovedCells p (finish_node count) (at V') (at V₂)
    Va = without-finish p count (omega arith) A B same V₂ V-is

    Aa : (A₂ : Rows) × (without_start p count Va.0 ≡ bounds A₂) × MovedCells p (start_node count) (at A₂) (at B₂)
    unfolding Va
    Aa = without-start p count (omega arith) A B same V₂ V-is B₂ B₂-is

    size : length (before_starts p count B₂) ≡ count
    size = length-tables count B₂ c rest-is

    stage-last : Stages p A B (suc count) count
    unfolding eliminated
    stage-last =
        record {
          rest = 0;
          rest-is = add-zero (suc count);
          later = record { after = B; after_is = refl; before = V₂; before-is = V-is; left = B₂; left_is = B₂-is };
          alone = record { after = A; after_is = refl; before = Va.0; before-is = Va.1; left = Aa.0; left_is = Aa.1 };
          same = Va.2;
          listed = ap (λ l. get_or l count []) (tables_more count B V₂ B₂ V-is B₂-is) ∙ get_or_at (before_starts p count B₂) V₂ [] [] count size;
        }

    stage-earlier : (i : ℕ) → i < count → Stages p Aa.0 B₂ count i → Stages p A B (suc count) i
    unfolding without_place then_set stage-more
    stage-earlier i h s =
        let r = s.rest-is in
        record {
          rest = suc s.rest;
          rest-is = omega arith;
          later =
              stage-more B B₂ (p.jobs + i) s.rest (p.jobs + count) (omega arith)
              (ap (λ x. then_set x (without_start p (p.jobs + count))) V-is ∙ B₂-is) s.later;
          alone =
              stage-more A Aa.0 i s.rest count r
              (ap (λ x. then_set x (without_start p count)) Va.1 ∙ Aa.1) s.alone;
          same = s.same;
          listed =
              ap (λ l. get_or l i []) (tables_more count B V₂ B₂ V-is B₂-is)
              ∙ get_or-append (before_starts p count B₂) (V₂ ∷ []) [] i (let n = size in omega arith)
              ∙ s.listed;
        }

  pub stages : (count : ℕ) (A B c : Rows) → count ≤ p.jobs → MovedCells p (nodes count) (at A) (at B) → eliminated p p.jobs count B ≡ bounds c
      → (i : ℕ) → i < count → Stages p A B count i
  unfolding eliminated without_place
  stages zero A B c low same e i h = absurd (omega arith)
  stages (suc count) A B c low same e i h =
      let r = then_set-bounds (without_place p (p.jobs + count) B) (eliminated p p.jobs count) c e in
      let q = then_set-bounds (without_finish p (p.jobs + count) B) (without_start p (p.jobs + count)) r.0 r.1 in
      ⊎_elim
      (λ (a : i < count).
      stage-earlier count A B q.0 r.0 c low same q.1 q.2 r.2 i a
      (stages count (Aa count A B q.0 r.0 c low same q.1 q.2 r.2).0 r.0 c (omega arith)
      (Aa count A B q.0 r.0 c low same q.1 q.2 r.2).2 r.2 i a))
      (λ (a : i ≡ count). subst (Stages p A B (suc count)) (sym a) (stage-last count A B q.0 r.0 c low same q.1 q.2 r.2))
      (below-or-last i count h)
