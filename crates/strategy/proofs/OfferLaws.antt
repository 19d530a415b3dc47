-- The offer, read off the tables. The calendar holds, for each job, the row and the column of its start in the table just before it is eliminated; so t is on
-- offer exactly if these hold at t, for the events in force.
use Prim.Native.Nat.{ℕ, zero, suc, ◌+◌, ◌*◌, ◌-◌, ◌≤◌, ◌<◌}
use Rattle.std.specs.Prelude.{◌≡◌, ◌↔◌, true, false, ℤ, pos, ◌+ℤ◌, ◌-ℤ◌, ◌*ℤ◌, ◌≤ℤ◌, replicate}
use Rattle.std.proofs.Math.Path.{refl, ap, subst}
use Rattle.std.proofs.Common.{sym, ap₂, ◌∙◌}
use mathlib.Core.List.{List, [], ◌∷◌, ◌++◌}
use native.Mathlib.Omega.{arith}
use Rattle.std.proofs.Math.IntN.{neg_ℤ}
use Rattle.std.proofs.Math.ListN.{length, get_or, length-append, get_or-append}
use Rattle.std.proofs.lemmas.List.{length-replicate}
use Rattle.std.proofs.Math.Seq.{get_or-append-add}
use Rattle.whole.specs.Clash.{clash}
use Rattle.whole.specs.SplitLaws.{split-neg}
use Rattle.whole.specs.Rules.{wholes}
use Rattle.whole.specs.Shape.{any, ◌⊖◌, le}
use Rattle.whole.specs.ShapeLaws.{reads, shows}
use Rattle.clock.specs.Clock.{begins_at}
use Rattle.plan.specs.declared.Plan.{Plan}
use Rattle.plan.specs.Limits.{most_jobs}
use Rattle.plan.specs.PlanLines.{filled}
use Rattle.bounds.specs.Events.{start_node}
use Rattle.bounds.specs.Tables.{Cell, off, upto, Rows, at, listed}
use Rattle.bounds.specs.BuildLaws.{get_d-listed, length-listed}
use Rattle.calendars.specs.declared.Terms.{Terms}
use Rattle.events.specs.Bits.{has_event, event_set, most_events}
use Rattle.events.specs.BitsLaws.{has_event-set}
use Rattle.calendars.specs.Calendars.{
  is_on,
  weight,
  from_below,
  from_above,
  events_before,
  terms_of,
  least_cs,
  most_cs,
  no_terms,
  all_terms,
  all_cs,
  calendar_of,
}
use Rattle.runs.specs.declared.Run.{Run}
use Rattle.runs.specs.declared.Offer.{Offer}
use Rattle.runs.specs.Seen.{time_at, first_seen}
use Rattle.runs.specs.Offers.{Turn, turn_of, term_at, offer_of}
use Rattle.runs.specs.Steps.{OnOffer}
use Rattle.runs.specs.OfferLaws.{PastTerms, AtOrAbove, AtOrBelow, AboveLower, BelowUpper, offer_at-from-iff, offer_at-to-iff}
use Rattle.strategy.proofs.Keeping.{Holds}

-- ---- what the calendar holds

length-filled : (size : ℕ) (xs : List ℤ) → length xs ≤ size → length (filled size (pos 0) xs) ≡ size
length-filled size xs h =
    let a = length-append xs (replicate (size - length xs) (pos 0)) in
    let b = length-replicate (size - length xs) (pos 0) in
    omega arith

terms-from : (p : Plan) (k : ℕ) (ts : List Rows) (i : ℕ) → i < length ts → get_or (all_terms p k ts) i no_terms ≡ terms_of p (k + i) (get_or ts i [])
unfolding all_terms
terms-from p k [] i h = absurd (omega arith)
terms-from p k (t ∷ ts) zero h = ap (λ k. terms_of p k t) (let e : k ≡ k + 0 = omega arith in e)
terms-from p k (t ∷ ts) (suc i) h =
    terms-from p (suc k) ts i (omega arith) ∙ ap (λ k. terms_of p k (get_or ts i [])) (let e : suc k + i ≡ k + suc i = omega arith in e)

length-terms : (p : Plan) (k : ℕ) (ts : List Rows) → length (all_terms p k ts) ≡ length ts
unfolding all_terms
length-terms p k [] = refl
length-terms p k (t ∷ ts) = ap suc (length-terms p (suc k) ts)

terms-at : (p : Plan) (ts : List Rows) (i : ℕ) → i < length ts → get_or (calendar_of p ts).terms i no_terms ≡ terms_of p i (get_or ts i [])
unfolding calendar_of
terms-at p ts i h =
    let n = length-terms p 0 ts in
    get_or-append (all_terms p 0 ts) _ no_terms i (omega arith)
    ∙ terms-from p 0 ts i h
    ∙ ap (λ k. terms_of p k (get_or ts i [])) (let e : 0 + i ≡ i = omega arith in e)

module _ (cs : ℕ → Rows → List ℤ) where
  length-cs : (k : ℕ) (ts : List Rows) → ((j : ℕ) (t : Rows) → j < k + length ts → length (cs j t) ≤ most_events)
      → length (all_cs cs k ts) ≡ length ts * most_events
  unfolding all_cs
  length-cs k [] fits = refl
  length-cs k (t ∷ ts) fits =
      let a = length-append (filled most_events (pos 0) (cs k t)) (all_cs cs (suc k) ts) in
      let b = length-filled most_events (cs k t) (fits k t (omega arith)) in
      let c = length-cs (suc k) ts (λ j t h. fits j t (omega arith)) in
      omega arith

  cs-from : (k : ℕ) (ts : List Rows) → ((j : ℕ) (t : Rows) → j < k + length ts → length (cs j t) ≤ most_events)
      → (i e : ℕ) → i < length ts → e < length (cs (k + i) (get_or ts i []))
      → get_or (all_cs cs k ts) (i * most_events + e) (pos 0) ≡ get_or (cs (k + i) (get_or ts i [])) e (pos 0)
  unfolding all_cs
  cs-from k [] fits i e h l = absurd (omega arith)
  cs-from k (t ∷ ts) fits zero e h l =
      let z : k + 0 ≡ k = omega arith in
      let l' : e < length (cs k t) = subst (λ k. e < length (cs k t)) z l in
      let f = length-filled most_events (cs k t) (fits k t (omega arith)) in
      let big : length (cs k t) ≤ most_events = fits k t (omega arith) in
      ap (λ i. get_or (filled most_events (pos 0) (cs k t) ++ all_cs cs (suc k) ts) i (pos 0)) (let a : 0 * most_events + e ≡ e = omega arith in a)
      ∙ get_or-append (filled most_events (pos 0) (cs k t)) (all_cs cs (suc k) ts) (pos 0) e (omega arith)
      ∙ get_or-append (cs k t) (replicate (most_events - length (cs k t)) (pos 0)) (pos 0) e l'
      ∙ ap (λ k. get_or (cs k t) e (pos 0)) (sym z)
  cs-from k (t ∷ ts) fits (suc i) e h l =
      let z : k + suc i ≡ suc k + i = omega arith in
      let f = length-filled most_events (cs k t) (fits k t (omega arith)) in
      ap (λ i. get_or (filled most_events (pos 0) (cs k t) ++ all_cs cs (suc k) ts) i (pos 0))
      (let a : suc i * most_events + e ≡ length (filled most_events (pos 0) (cs k t)) + (i * most_events + e) = omega arith in a)
      ∙ get_or-append-add (filled most_events (pos 0) (cs k t)) (all_cs cs (suc k) ts) (i * most_events + e) (pos 0)
      ∙ cs-from (suc k) ts (λ j t h. fits j t (omega arith)) i e (omega arith) (subst (λ k. e < length (cs k (get_or ts i []))) z l)
      ∙ ap (λ k. get_or (cs k (get_or ts i [])) e (pos 0)) (sym z)

  cs-at : (ts : List Rows) → ((j : ℕ) (t : Rows) → j < length ts → length (cs j t) ≤ most_events) → (i e : ℕ) → i < length ts
      → e < length (cs i (get_or ts i []))
      → get_or (filled (most_jobs * most_events) (pos 0) (all_cs cs 0 ts)) (i * most_events + e) (pos 0) ≡ get_or (cs i (get_or ts i [])) e (pos 0)
  cs-at ts fits i e h l =
      let z : 0 + i ≡ i = omega arith in
      let fits' : (j : ℕ) (t : Rows) → j < 0 + length ts → length (cs j t) ≤ most_events = λ j t h. fits j t (omega arith) in
      let n = length-cs 0 ts fits' in
      let big = fits i (get_or ts i []) h in
      get_or-append (all_cs cs 0 ts) _ (pos 0) (i * most_events + e) (omega arith)
      ∙ cs-from 0 ts fits' i e h (subst (λ k. e < length (cs k (get_or ts i []))) (sym z) l)
      ∙ ap (λ k. get_or (cs k (get_or ts i [])) e (pos 0)) z

module _ (p : Plan) (few : p.jobs ≤ most_jobs) (ts : List Rows) (all : length ts ≡ p.jobs) (i e : ℕ) (h : i < p.jobs) (l : e < events_before p i) where
  least_at : get_or (calendar_of p ts).at_least (i * most_events + e) (pos 0)
      ≡ neg_ℤ (weight (from_below (get_or ts i []) (start_node (p.jobs + i)) e))
  unfolding calendar_of least_cs
  least_at =
      cs-at (least_cs p) ts (λ j t g. let n = length-listed (events_before p j)
      (λ e. neg_ℤ (weight (from_below t (start_node (p.jobs + j)) e))) in omega arith) i e (omega arith)
      (let n = length-listed (events_before p i) (λ e. neg_ℤ (weight (from_below (get_or ts i []) (start_node (p.jobs + i)) e))) in omega arith)
      ∙ get_d-listed (events_before p i) _ e (pos 0) l

  most-at : get_or (calendar_of p ts).at_most (i * most_events + e) (pos 0)
      ≡ weight (from_above (get_or ts i []) (start_node (p.jobs + i)) e)
  unfolding calendar_of most_cs
  most-at =
      cs-at (most_cs p) ts (λ j t g. let n = length-listed (events_before p j) (λ e. weight (from_above t (start_node (p.jobs + j)) e)) in omega arith) i e
      (omega arith)
      (let n = length-listed (events_before p i) (λ e. weight (from_above (get_or ts i []) (start_node (p.jobs + i)) e)) in omega arith)
      ∙ get_d-listed (events_before p i) _ e (pos 0) l

-- ---- the offer

-- nodes whose terms are in force, and their times, on the clock of the table: it begins a window before window J + 1
abbrev pub InForce : Plan → Run → ℕ → Type 0
InForce p r zero = Unit {0}
InForce p r (suc k) = first_seen p.jobs r.before ≤ k

abbrev pub table_begin : Plan → ℕ → ℤ
table_begin p J = pos J *ℤ p.window -ℤ p.window

abbrev pub node_time : Plan → Run → ℕ → ℕ → ℤ
node_time p r J zero = pos 0
node_time p r J (suc k) = (time_at r.seen k).0 -ℤ table_begin p J

is_on-upto : (c : Cell) → is_on c ≡ true → (w : ℤ) × (c ≡ upto w)
is_on-upto off h = clash (cc)
is_on-upto (upto w) h = (w, refl)

module _ (p : Plan) (r : Run) (J count : ℕ) (order : ℤ → ℤ → Type 0) (t : ℤ)
    (cell : ℕ → Cell) (c D : ℤ → ℤ)
    (term-law : (τ w : ℤ) → order (τ +ℤ c w) t ↔ (D (τ -ℤ table_begin p J) ≤ℤ w))
    (base-law : (w : ℤ) → order ((pos J *ℤ p.window) +ℤ (c w -ℤ p.window)) t ↔ (D (pos 0) ≤ℤ w))
    (cs : List ℤ) (row : ℕ) (cs-is : (e : ℕ) → e < count → get_or cs (row + e) (pos 0) ≡ c (weight (cell (suc e))))
    (w₀ : ℤ) (there : cell 0 ≡ upto w₀) where
  abbrev events : ℕ
  events = event_set (listed count (λ e. is_on (cell (suc e))))

  abbrev first : ℕ
  first = first_seen p.jobs r.before

  -- t is past the origin's bound and every term in force
  abbrev AllPast : Type 0
  AllPast = PastTerms order (term_at r.seen cs row) events ((pos J *ℤ p.window) +ℤ (c (weight (cell 0)) -ℤ p.window)) first (count - first) t

  has : (k : ℕ) → k < count → has_event k events ≡ is_on (cell (suc k))
  has k h = has_event-set (listed count (λ e. is_on (cell (suc e)))) k ∙ get_d-listed count (λ e. is_on (cell (suc e))) k false h

  base-is : c (weight (cell 0)) ≡ c w₀
  base-is = ap (λ x. c (weight x)) there

  term-out : (k : ℕ) → k < count → (has_event k events ≡ true → order (term_at r.seen cs row k) t)
      → (x : Cell) → cell (suc k) ≡ x → Holds x (D (node_time p r J (suc k)))
  term-out k h b off e = tt
  term-out k h b (upto w) e =
      let on : has_event k events ≡ true = has k h ∙ ap is_on e in
      (term-law (time_at r.seen k).0 w).0
      (subst (λ a. order ((time_at r.seen k).0 +ℤ a) t) (cs-is k h ∙ ap (λ x. c (weight x)) e) (b on))

  side-out : AllPast → (y : ℕ) → y < suc count → InForce p r y → Holds (cell y) (D (node_time p r J y))
  side-out h zero l f = rw there ((base-law w₀).0 (subst (λ a. order ((pos J *ℤ p.window) +ℤ (a -ℤ p.window)) t) base-is h.origin))
  side-out h (suc k) l f = term-out k (omega arith) (h.terms k f (omega arith)) (cell (suc k)) refl

  side-in : ((y : ℕ) → y < suc count → InForce p r y → Holds (cell y) (D (node_time p r J y))) → AllPast
  side-in f =
      record {
        origin = subst (λ a. order ((pos J *ℤ p.window) +ℤ (a -ℤ p.window)) t) (sym base-is) ((base-law w₀).1 (rw there at (f 0 (omega arith) tt)));
        terms = λ k lo hi b.
            let on = is_on-upto (cell (suc k)) (sym (has k (omega arith)) ∙ b) in
            subst (λ a. order ((time_at r.seen k).0 +ℤ a) t) (sym (cs-is k (omega arith) ∙ ap (λ x. c (weight x)) on.1))
            ((term-law (time_at r.seen k).0 on.0).1 (rw on.1 at (f (suc k) (omega arith) lo)));
      }

-- the arithmetic of the two sides
lower-term : (t b τ w : ℤ) → ((τ +ℤ neg_ℤ w) ≤ℤ t) ↔ (((τ -ℤ b) -ℤ (t -ℤ b)) ≤ℤ w)
lower-term t b τ w = (
  λ h. omega (shows le (any ⊖ any ⊖ (any ⊖ any)) any, wholes, split-neg w),
  λ h. omega (reads le (any ⊖ any ⊖ (any ⊖ any)) any, wholes, split-neg w),
)

lower-base : (t jw v w : ℤ) → ((jw +ℤ (neg_ℤ w -ℤ v)) ≤ℤ t) ↔ ((pos 0 -ℤ (t -ℤ (jw -ℤ v))) ≤ℤ w)
lower-base t jw v w = (
  λ h. omega (shows le (any ⊖ (any ⊖ (any ⊖ any))) any, wholes, split-neg w),
  λ h. omega (reads le (any ⊖ (any ⊖ (any ⊖ any))) any, wholes, split-neg w),
)

upper-term : (t b τ w : ℤ) → (t ≤ℤ (τ +ℤ w)) ↔ (((t -ℤ b) -ℤ (τ -ℤ b)) ≤ℤ w)
upper-term t b τ w = (
  λ h. omega (shows le (any ⊖ any ⊖ (any ⊖ any)) any, wholes),
  λ h. omega (reads le (any ⊖ any ⊖ (any ⊖ any)) any, wholes),
)

upper-base : (t jw v w : ℤ) → (t ≤ℤ (jw +ℤ (w -ℤ v))) ↔ (((t -ℤ (jw -ℤ v)) -ℤ pos 0) ≤ℤ w)
upper-base t jw v w = (
  λ h. omega (shows le (any ⊖ (any ⊖ any) ⊖ any) any, wholes),
  λ h. omega (reads le (any ⊖ (any ⊖ any) ⊖ any) any, wholes),
)

module _ (p : Plan) (few : p.jobs ≤ most_jobs) (ts : List Rows) (all : length ts ≡ p.jobs) (i : ℕ) (low : i < p.jobs) (r : Run) (J : ℕ) where
  abbrev table : Rows
  table = get_or ts i []

  abbrev s : ℕ
  s = start_node (p.jobs + i)

  abbrev offered : Offer
  offered = offer_of p (calendar_of p ts) r (suc J) (suc i)

  less_one : (k : ℕ) → suc k - 1 ≡ k
  less_one k = omega arith

  abbrev from_first : ℕ
  from_first = first_seen p.jobs r.before

  -- one side's terms, as the calendar has them and as the table has them
  past_is : (order : ℤ → ℤ → Type 0) (bits : Terms → ℕ) (base : Terms → ℤ) (cs : List ℤ) (t : ℤ)
      → PastTerms order (term_at r.seen cs ((suc i - 1) * most_events)) (bits (get_or (calendar_of p ts).terms (suc i - 1) no_terms))
      ((begins_at p.window (suc J)).0 +ℤ base (get_or (calendar_of p ts).terms (suc i - 1) no_terms)) from_first (events_before p (suc i - 1) - from_first) t
      ≡ PastTerms order (term_at r.seen cs (i * most_events)) (bits (terms_of p i table))
      ((pos J *ℤ p.window) +ℤ base (terms_of p i table)) from_first (events_before p i - from_first) t
  past_is order bits base cs t =
      ap₂
      (λ k l.
      PastTerms order (term_at r.seen cs (k * most_events)) (bits (get_or (calendar_of p ts).terms k no_terms))
      (pos l *ℤ p.window +ℤ base (get_or (calendar_of p ts).terms k no_terms)) from_first (events_before p k - from_first) t)
      (less_one i) (less_one J)
      ∙ ap
      (λ x.
      PastTerms order (term_at r.seen cs (i * most_events)) (bits x) (pos J *ℤ p.window +ℤ base x) from_first (events_before p i - from_first) t)
      (terms-at p ts i (omega arith))

  abbrev turn : Turn
  turn = turn_of p (calendar_of p ts) (suc i)

  abbrev LowerPast : ℤ → Type 0
  LowerPast t =
      PastTerms AtOrAbove (term_at r.seen (calendar_of p ts).at_least (i * most_events))
      (event_set (listed (events_before p i) (λ e. is_on (at table s (suc e)))))
      ((pos J *ℤ p.window) +ℤ (neg_ℤ (weight (at table s 0)) -ℤ p.window)) from_first (events_before p i - from_first) t

  abbrev UpperPast : ℤ → Type 0
  UpperPast t =
      PastTerms AtOrBelow (term_at r.seen (calendar_of p ts).at_most (i * most_events))
      (event_set (listed (events_before p i) (λ e. is_on (at table (suc e) s))))
      ((pos J *ℤ p.window) +ℤ (weight (at table 0 s) -ℤ p.window)) from_first (events_before p i - from_first) t

  lower-is : (t : ℤ) → AboveLower turn (calendar_of p ts).at_least (calendar_of p ts).at_most r (suc J) (suc i) t ≡ LowerPast t
  unfolding terms_of
  lower-is t = past_is AtOrAbove (λ x. x.below.0) (λ x. x.low.0) (calendar_of p ts).at_least t

  upper_is : (t : ℤ) → BelowUpper turn (calendar_of p ts).at_least (calendar_of p ts).at_most r (suc J) (suc i) t ≡ UpperPast t
  unfolding terms_of
  upper_is t = past_is AtOrBelow (λ x. x.above.0) (λ x. x.high.0) (calendar_of p ts).at_most t

  -- t, on the clock of the table, keeps the start's row and column, as far as they are in force
  pub record StartFits (t : ℤ) : Type 0 where
    pub row : (y : ℕ) → y < s → InForce p r y → Holds (at table s y) (node_time p r J y -ℤ (t -ℤ table_begin p J))
    pub column : (y : ℕ) → y < s → InForce p r y → Holds (at table y s) ((t -ℤ table_begin p J) -ℤ node_time p r J y)

  module _ (t : ℤ) (lo : ℤ) (lo-is : at table s 0 ≡ upto lo) (hi : ℤ) (hi-is : at table 0 s ≡ upto hi) where
    abbrev x : ℤ
    x = t -ℤ table_begin p J

    pub offer-start_fits : OnOffer offered t → StartFits t
    offer-start_fits o =
        record {
          row =
              λ y l f.
              side-out p r J (events_before p i) AtOrAbove t (λ y. at table s y) neg_ℤ (λ τ. τ -ℤ x)
              (lower-term t (table_begin p J)) (lower-base t (pos J *ℤ p.window) p.window) (calendar_of p ts).at_least (i * most_events)
              (λ e g. least_at p few ts all i e low g) lo lo-is
              (subst (λ (X : Type 0). X) (lower-is t) ((offer_at-from-iff turn (calendar_of p ts).at_least (calendar_of p ts).at_most r (suc J)
              (suc i) t).0 o.least)) y (omega arith) f;
          column =
              λ y l f.
              side-out p r J (events_before p i) AtOrBelow t (λ y. at table y s) (λ w. w) (λ τ. x -ℤ τ)
              (upper-term t (table_begin p J)) (upper-base t (pos J *ℤ p.window) p.window) (calendar_of p ts).at_most (i * most_events)
              (λ e g. most-at p few ts all i e low g) hi hi-is
              (subst (λ (X : Type 0). X) (upper_is t) ((offer_at-to-iff turn (calendar_of p ts).at_least (calendar_of p ts).at_most r (suc J) (suc i) t).0
              o.most)) y (omega arith) f;
        }

    pub start_fits-offer : StartFits t → OnOffer offered t
    start_fits-offer f =
        record {
          least =
              (offer_at-from-iff turn (calendar_of p ts).at_least (calendar_of p ts).at_most r (suc J) (suc i) t).1
              (subst (λ (X : Type 0). X) (sym (lower-is t))
              (side-in p r J (events_before p i) AtOrAbove t (λ y. at table s y) neg_ℤ (λ τ. τ -ℤ x)
              (lower-term t (table_begin p J)) (lower-base t (pos J *ℤ p.window) p.window) (calendar_of p ts).at_least (i * most_events)
              (λ e g. least_at p few ts all i e low g) lo lo-is (λ y l. f.row y (omega arith))));
          most =
              (offer_at-to-iff turn (calendar_of p ts).at_least (calendar_of p ts).at_most r (suc J) (suc i) t).1
              (subst (λ (X : Type 0). X) (sym (upper_is t))
              (side-in p r J (events_before p i) AtOrBelow t (λ y. at table y s) (λ w. w) (λ τ. x -ℤ τ)
              (upper-term t (table_begin p J)) (upper-base t (pos J *ℤ p.window) p.window) (calendar_of p ts).at_most (i * most_events)
              (λ e g. most-at p few ts all i e low g) hi hi-is (λ y l. f.column y (omega arith))));
        }
