-- The rounds as the code runs them: one turn of its loop is one round, of which each way out is a way of `decided`.
use Rattle.std.specs.Prelude.{ℕ, suc, ◌+◌, ◌-◌, ◌<◌, ◌≡◌, refl, Bool, true, false, List, ℤ, ◌-ℤ◌, length}
use Rattle.std.proofs.Common.{sym, subst, ◌∙◌, arith}
use Rattle.std.proofs.Math.Path.{ap}
use Rattle.std.proofs.Math.Bool.{cond}
use Rattle.std.proofs.lemmas.List.{length-replicate}
use Rattle.whole.specs.Clash.{clash}
use Rattle.whole.specs.Rules.{wholes}
use Rattle.plan.specs.declared.Plan.{Plan}
use Rattle.bounds.specs.Events.{nodes}
use Rattle.bounds.specs.Tables.{Rows, Set, contradiction, bounds}
use Rattle.bounds.specs.Elimination.{then_set, eliminated}
use Rattle.bounds.specs.Flat.{rows_of, set_in, weight_at, WeightInRange, flat, no_bound_mark, put_bounds, no_bounds, cells}
use Rattle.bounds.specs.FlatLaws as flats
use Rattle.bounds.specs.FlatLaws.{put_at-length, each_node-length, put_bounds-length}
use Rattle.bounds.specs.LeadsToLaws.{LeadsTo}
use Rattle.bounds.specs.Held.{JudgedTable, TimesHeld, TableHeldFor}
use Rattle.bounds.specs.JudgedTableLaws.{judged-table-weights}
use Rattle.bounds.specs.PlacesLaws.{set_in-found, set_in-left}
use Rattle.rounds.specs.declared.Verdict.TheVariants.{Settled, NoStrategy, Unsettled}
use Rattle.rounds.specs.Given.{own_bounds, between_bounds}
use Rattle.rounds.specs.Rounds.{
  shift_by,
  C0,
  on_next,
  joined,
  round,
  same_rows,
  is_contradictory,
  fails_alone,
  Outcome,
  settled,
  no_strategy,
  unsettled,
  decided,
  rounds_from,
  outcome_from,
  outcome,
  verdict_of,
  verdict,
}
use Rattle.rounds.specs.SameLaws.{same_rows-unique}
use Rattle.rounds.specs.Next.{Nexts, onto, next_at, next_row, next_rows}
use Rattle.rounds.specs.NextLaws.{next_rows-outcome}
use Rattle.rounds.specs.JoinedLaws.{own-rows, between-outcome}
use Rattle.rounds.specs.CarriedLaws.{C0-judged-table, joined-judged-table, eliminated-judged-table}
use Rattle.rounds.specs.Settling.{SettledOn, Based}

-- ---- the ways of one round

module _ (p : Plan) (m : ℕ) (t : Rows) (s : Set) (later : Rows → Outcome) where
  decided-none : s ≡ contradiction → decided p m t s later ≡ no_strategy (cond (fails_alone p t) m (m + 1))
  unfolding decided
  decided-none e = ap (λ s. decided p m t s later) e

  decided-settled : (u : Rows) → s ≡ bounds u → same_rows t u ≡ true → decided p m t s later ≡ settled m u
  unfolding decided
  decided-settled u e h = ap (λ s. decided p m t s later) e ∙ ap (λ b. cond b (settled m u) (later u)) h

  decided-later : (u : Rows) → s ≡ bounds u → same_rows t u ≡ false → decided p m t s later ≡ later u
  unfolding decided
  decided-later u e h = ap (λ s. decided p m t s later) e ∙ ap (λ b. cond b (settled m u) (later u)) h

round-none : (p : Plan) (c0 t : Rows) → joined p c0 t ≡ contradiction → round p c0 t ≡ contradiction
unfolding round then_set
round-none p c0 t e = ap (λ s. then_set s (eliminated p p.jobs p.jobs)) e

round-some : (p : Plan) (c0 t u : Rows) → joined p c0 t ≡ bounds u → round p c0 t ≡ eliminated p p.jobs p.jobs u
unfolding round then_set
round-some p c0 t u e = ap (λ s. then_set s (eliminated p p.jobs p.jobs)) e

-- ---- the verdict and the settled table

module _ (p : Plan) where
  pub verdict-none : (K : ℕ) → outcome p ≡ no_strategy K → NoStrategy K ≡ verdict p
  verdict-none K e = sym (ap (verdict_of p) e)

  pub verdict-settled : (m : ℕ) (t : Rows) → outcome p ≡ settled m t → Settled m ≡ verdict p
  verdict-settled m t e = sym (ap (verdict_of p) e)

  pub verdict-unsettled : outcome p ≡ unsettled → Unsettled p.rounds ≡ verdict p
  verdict-unsettled e = sym (ap (verdict_of p) e)

  -- where it is not settled nothing is asked of the table
  not-settled : (u : Rows) → ((m : ℕ) (t : Rows) → outcome p ≡ settled m t → ⊥) → SettledOn p u
  not-settled u n = record { joins = λ m t e. absurd (n m t e); fits = λ m t e. absurd (n m t e); sound = λ m t e. absurd (n m t e) }

  pub none-on : (K : ℕ) (u : Rows) → outcome p ≡ no_strategy K → SettledOn p u
  none-on K u e = not-settled u (λ m t q. let both : no_strategy K ≡ settled m t = sym e ∙ q in clash (cc))

  pub unsettled-on : (u : Rows) → outcome p ≡ unsettled → SettledOn p u
  unsettled-on u e = not-settled u (λ m t q. let both : unsettled ≡ settled m t = sym e ∙ q in clash (cc))

  -- 'A contradiction in C(0) itself is K = 1.'
  pub first-none : C0 p ≡ contradiction → outcome p ≡ no_strategy 1
  unfolding outcome outcome_from
  first-none e = ap (outcome_from p) e

settled_back : (m n : ℕ) (t u : Rows) → settled m t ≡ settled n u → t ≡ u
settled_back m n t u e = cc

-- ---- the rounds

pub rounds-end : (p : Plan) (c0 : Rows) (m left : ℕ) (t : Rows) → left ≡ 0 → rounds_from p c0 m left t ≡ unsettled
unfolding rounds_from
rounds-end p c0 m left t e = ap (λ n. rounds_from p c0 m n t) e

rounds-more : (p : Plan) (c0 : Rows) (m left : ℕ) (t : Rows) → 0 < left
    → rounds_from p c0 m left t ≡ decided p m t (round p c0 t) (rounds_from p c0 (m + 1) (left - 1))
unfolding rounds_from
rounds-more p c0 m left t h = let more : left ≡ suc (left - 1) = omega arith in ap (λ n. rounds_from p c0 m n t) more

module _ (p : Plan) (early late : List ℤ) (times-held : TimesHeld p early late) (own : List ℤ)
    (own_put : flat false own ≡ put_bounds early late (own_bounds p) no_bounds) where
  abbrev c0 : Rows
  c0 = rows_of (nodes p.jobs) own

  pub own-judged-table : JudgedTable p (nodes p.jobs) (rows_of (nodes p.jobs) own)
  own-judged-table = C0-judged-table p c0 (own-rows p early late times-held own own_put)

  pub own-size : length own ≡ cells
  own-size = ap (λ r. length r.weights) own_put ∙ put_bounds-length early late (own_bounds p) no_bounds ∙ length-replicate cells no_bound_mark

  pub own-table-held : TableHeldFor p early late (nodes p.jobs) own
  own-table-held = record { times-held = times-held; room = omega arith; size = own-size; fit = own-judged-table }

  pub first_round : outcome p ≡ rounds_from p (rows_of (nodes p.jobs) own) 1 p.rounds (rows_of (nodes p.jobs) own)
  unfolding outcome outcome_from
  first_round = ap (outcome_from p) (own-rows p early late times-held own own_put)

  -- a contradiction between windows is one of the first round
  pub between_none : (found : Bool) (us : List ℤ) → flat found us ≡ put_bounds early late (between_bounds p) own → found ≡ true
      → outcome p ≡ no_strategy (cond (fails_alone p (rows_of (nodes p.jobs) own)) 1 (1 + 1))
  between_none found us e f =
      let some = times-held.accepted.rounds-least in
      first_round
      ∙ rounds-more p c0 1 p.rounds c0 (omega arith)
      ∙ decided-none p 1 c0 (round p c0 c0) (rounds_from p c0 2 (p.rounds - 1))
      (round-none p c0 c0 ((between-outcome p early late times-held own own_put c0).fails (ap (λ r. r.found) (sym e) ∙ f)))

-- ---- one round

-- the code before round m of which so many are left: its arrays, the rounds that give the whole outcome, and a fit table that is carried
pub record Carrying (p : Plan) (early late own base : List ℤ) (m left : ℕ) (ts : List ℤ) : Type 0 where
  pub times-held : TimesHeld p early late
  pub based : Based p early late own base
  pub some : 0 < left
  pub before : outcome p ≡ rounds_from p (rows_of (nodes p.jobs) own) m left (rows_of (nodes p.jobs) ts)
  pub fit : JudgedTable p (nodes p.jobs) (rows_of (nodes p.jobs) ts)
  pub size : length ts ≡ cells

-- a carried set that is put on the next window keeps the array's length
next_rows-length : (early late : List ℤ) (jobs : ℕ) (window : ℤ) (ts ws : List ℤ) → length (next_rows early late jobs window ts ws).weights ≡ length ws
next_rows-length early late jobs window ts ws =
    each_node-length (next_row early late jobs window ts)
    (λ y us. each_node-length (next_at early late jobs window ts y) (λ z vs. put_at-length early late (onto jobs y) (onto jobs z) (weight_at ts y z)
    (shift_by window z -ℤ shift_by window y) vs) 0 (nodes jobs) us)
    0
    (nodes jobs)
    ws

module _ {p : Plan} {early late own base : List ℤ} {m left : ℕ} {ts : List ℤ} (g : Carrying p early late own base m left ts) where
  abbrev k : ℕ
  k = nodes p.jobs

  abbrev both : ℕ
  both = nodes (p.jobs + p.jobs)

  weighed : (y z : ℕ) → y < nodes p.jobs → z < nodes p.jobs → WeightInRange (weight_at ts y z)
  weighed = judged-table-weights p k ts g.fit g.times-held.accepted (omega arith)

  pub carried-table-held : TableHeldFor p early late (nodes p.jobs) ts
  carried-table-held = record { times-held = g.times-held; room = omega arith; size = g.size; fit = g.fit }

  base-size : length base ≡ cells
  base-size =
      ap (λ r. length r.weights) g.based.base-put ∙ put_bounds-length early late (between_bounds p) own
      ∙ own-size p early late g.times-held own g.based.own_put

  pub carried-nexts : Nexts early late p.jobs p.window ts
  carried-nexts =
      let least-window = g.times-held.accepted.window-least in
      record {
        times = g.times-held.timed;
        jobs-most = g.times-held.accepted.jobs-most;
        window-least = omega wholes;
        window-most = g.times-held.accepted.window-most;
        weighed = weighed;
      }

  next-outcome : flats.FlatOutcome (λ us. joined p (rows_of k own) (rows_of k ts) ≡ bounds (rows_of both us))
      (joined p (rows_of k own) (rows_of k ts) ≡ contradiction)
      (next_rows early late p.jobs p.window ts base)
  next-outcome =
      let set = joined p (rows_of k own) (rows_of k ts) in
      next_rows-outcome p early late g.times-held.times g.times-held.accepted set ts weighed base
      (subst (LeadsTo p both (on_next p (rows_of k ts)) set) (ap (λ r. r.weights) (sym g.based.base-put))
      ((between-outcome p early late g.times-held own g.based.own_put (rows_of k ts)).keeps (ap (λ r. r.found) (sym g.based.base-put))))

  turn : outcome p ≡ decided p m (rows_of k ts) (round p (rows_of k own) (rows_of k ts)) (rounds_from p (rows_of k own) (m + 1) (left - 1))
  turn = g.before ∙ rounds-more p (rows_of k own) m left (rows_of k ts) g.some

  turn-none : round p (rows_of k own) (rows_of k ts) ≡ contradiction → outcome p ≡ no_strategy (cond (fails_alone p (rows_of k ts)) m (m + 1))
  turn-none e = turn ∙ decided-none p m (rows_of k ts) (round p (rows_of k own) (rows_of k ts)) (rounds_from p (rows_of k own) (m + 1) (left - 1)) e

  -- the carried set is put on the next window
  module _ (found : Bool) (us : List ℤ) (put : flat found us ≡ next_rows early late p.jobs p.window ts base) where
    pub joined-none : found ≡ true → outcome p ≡ no_strategy (cond (fails_alone p (rows_of (nodes p.jobs) ts)) m (m + 1))
    joined-none f = turn-none (round-none p (rows_of k own) (rows_of k ts) (next-outcome.fails (ap (λ r. r.found) (sym put) ∙ f)))

    module _ (f : found ≡ false) where
      joined_is : joined p (rows_of k own) (rows_of k ts) ≡ bounds (rows_of both us)
      joined_is =
          subst (λ us. joined p (rows_of k own) (rows_of k ts) ≡ bounds (rows_of both us)) (ap (λ r. r.weights) (sym put))
          (next-outcome.keeps (ap (λ r. r.found) (sym put) ∙ f))

      joined-fits : JudgedTable p (nodes (p.jobs + p.jobs)) (rows_of (nodes (p.jobs + p.jobs)) us)
      joined-fits =
          joined-judged-table p (rows_of k own) (rows_of k ts) (own-judged-table p early late g.times-held own g.based.own_put) g.fit
          (rows_of both us) joined_is

      pub joined-table-held : TableHeldFor p early late (nodes (p.jobs + p.jobs)) us
      joined-table-held =
          record {
            times-held = g.times-held;
            room = omega arith;
            size = ap (λ r. length r.weights) put ∙ next_rows-length early late p.jobs p.window ts base ∙ base-size;
            fit = joined-fits;
          }

      -- and the next window's events are eliminated
      module _ (none : Bool) (vs : List ℤ) (e : set_in (nodes p.jobs) none vs ≡ eliminated p p.jobs p.jobs (rows_of (nodes (p.jobs + p.jobs)) us))
        where
          pub remains-none : none ≡ true → outcome p ≡ no_strategy (cond (fails_alone p (rows_of (nodes p.jobs) ts)) m (m + 1))
          remains-none c = turn-none (round-some p (rows_of k own) (rows_of k ts) (rows_of both us) joined_is ∙ sym e ∙ set_in-found k none vs c)

          module _ (c : none ≡ false) where
            abbrev remains : Rows
            remains = rows_of k vs

            left_is : eliminated p p.jobs p.jobs (rows_of both us) ≡ bounds remains
            left_is = sym e ∙ set_in-left k none vs c

            round_is : round p (rows_of k own) (rows_of k ts) ≡ bounds remains
            round_is = round-some p (rows_of k own) (rows_of k ts) (rows_of both us) joined_is ∙ left_is

            pub remains-judged-table : JudgedTable p (nodes p.jobs) (rows_of (nodes p.jobs) vs)
            remains-judged-table = eliminated-judged-table p p.jobs p.jobs (rows_of both us) remains joined-fits left_is

            pub round-later : same_rows (rows_of (nodes p.jobs) ts) (rows_of (nodes p.jobs) vs) ≡ false
                → outcome p ≡ rounds_from p (rows_of (nodes p.jobs) own) (m + 1) (left - 1) (rows_of (nodes p.jobs) vs)
            round-later h =
                turn ∙ decided-later p m (rows_of k ts) (round p (rows_of k own) (rows_of k ts)) (rounds_from p (rows_of k own) (m + 1) (left - 1))
                remains round_is h

            module _ (h : same_rows (rows_of (nodes p.jobs) ts) (rows_of (nodes p.jobs) vs) ≡ true) where
              pub round-settled : outcome p ≡ settled m (rows_of (nodes p.jobs) vs)
              round-settled =
                  turn
                  ∙ decided-settled p m (rows_of k ts) (round p (rows_of k own) (rows_of k ts)) (rounds_from p (rows_of k own) (m + 1) (left - 1)) remains round_is h

              -- the settled set is the one that was carried into the round
              settled-joins : (n : ℕ) (v : Rows) → outcome p ≡ settled n v → then_set (C0 p) (λ c0. joined p c0 v) ≡ bounds (rows_of both us)
              unfolding then_set
              settled-joins n v q =
                  ap (λ s. then_set s (λ c0. joined p c0 v)) (own-rows p early late g.times-held own g.based.own_put)
                  ∙ ap (joined p (rows_of k own)) (sym (same_rows-unique (rows_of k ts) remains h ∙ settled_back m n remains v (sym round-settled ∙ q)))
                  ∙ joined_is

              pub round-settled-on : SettledOn p (rows_of (nodes (p.jobs + p.jobs)) us)
              round-settled-on = record { joins = settled-joins; fits = λ n v q. joined-fits; sound = λ n v q. ap is_contradictory left_is }

-- ---- one window alone

pub alone-is : (p : Plan) (t : Rows) (n : ℕ) (found : Bool) (ws : List ℤ) → set_in n found ws ≡ eliminated p 0 p.jobs t → found ≡ fails_alone p t
unfolding fails_alone
alone-is p t n found ws e = told found ∙ ap is_contradictory e
  where
    told : (b : Bool) → b ≡ is_contradictory (set_in n b ws)
    told true = refl
    told false = refl

module _ (p : Plan) (t : Rows) (m : ℕ) (b : Bool) (e : b ≡ fails_alone p t) where
  pub alone-fails : b ≡ true → NoStrategy m ≡ NoStrategy (cond (fails_alone p t) m (m + 1))
  alone-fails f = ap (λ b. NoStrategy (cond b m (m + 1))) (sym f ∙ e)

  pub alone-holds : b ≡ false → NoStrategy (m + 1) ≡ NoStrategy (cond (fails_alone p t) m (m + 1))
  alone-holds f = ap (λ b. NoStrategy (cond b m (m + 1))) (sym f ∙ e)
