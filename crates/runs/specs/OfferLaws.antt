-- The offer as an interval, of any run value. A time is at or past an end exactly if it is at or past the origin's bound and every term in force
-- (`end_over-iff`), and an end is one of these (`end_over-one`): each for both ends at once, with the pick and its order as parameters. So the lower end is the
-- greatest of its terms and the upper end the least of its (`offer_at-from-iff`, `offer_at-from-one`, `offer_at-to-iff`, `offer_at-to-one`).
use Prim.Native.Nat.{ℕ, zero, suc, ◌+◌, ◌*◌, ◌-◌, ◌≤◌, ◌<◌}
use Rattle.std.specs.Prelude.{◌≡◌, Bool, true, false, cond, ◌↔◌, ◌⊎◌, List, ◌∷◌, ℤ, ◌≤ℤ◌}
use Rattle.std.proofs.Math.Path.{refl}
use Rattle.std.proofs.Common.{sym, ap, ◌∙◌, inr, ⊎_elim, arith}
use Rattle.std.proofs.Math.Logic.{inl}
use Rattle.std.specs.Int.Signed.{lt_z}
use Rattle.whole.specs.Rules.{whole}
use Rattle.clock.specs.Clock.{on_run}
use Rattle.events.specs.Bits.{bits_of, has_event, members_from, most_events}
use Rattle.calendars.specs.Calendars.{events_ahead}
use Rattle.runs.specs.declared.Run.{Run}
use Rattle.runs.specs.TestLaws.{true-not-false, here-or-later}
use Rattle.runs.specs.Seen.{first_seen}
use Rattle.runs.specs.Offers.{Turn, term_at, lower_terms, upper_terms, greater, lesser, greatest, least, offer_at}
use Rattle.runs.specs.Ends.{end_over}

-- ---- the terms of one end

-- t is past an end's first value and past the term of every member among n events from e on, in the sense of the order given
pub record PastTerms (order : ℤ → ℤ → Type 0) (term : ℕ → ℤ) (set : ℕ) (end : ℤ) (e n : ℕ) (t : ℤ) : Type 0 where
  pub origin : order end t
  pub terms : (k : ℕ) → e ≤ k → k < e + n → has_event k set ≡ true → order (term k) t

-- an end is the term of a member
pub record TermOf (term : ℕ → ℤ) (set e n : ℕ) (z : ℤ) : Type 0 where
  pub event : ℕ
  pub from : e ≤ event
  pub to : event < e + n
  pub member : has_event event set ≡ true
  pub is : z ≡ term event

-- ---- both ends at once

-- The pick of two values is past t exactly if both are, and it is one of the two. Both ends follow from this alone.
module _
    (pick : ℤ → ℤ → ℤ)
    (order : ℤ → ℤ → Type 0)
    (pick-iff : (a b t : ℤ) → order (pick a b) t ↔ (order a t × order b t))
    (pick-one : (a b : ℤ) → (pick a b ≡ a) ⊎ (pick a b ≡ b))
    (term : ℕ → ℤ)
    (set : ℕ)
  where
    -- the members from e on, where e is one or not
    abbrev from-here : Bool → ℕ → ℕ → List ℕ
    from-here b e n = cond b (e ∷ members_from set (suc e) n) (members_from set (suc e) n)

    past_first : (n : ℕ) (end : ℤ) (e : ℕ) (t : ℤ) (b : Bool) → has_event e set ≡ b
        → ((z : ℤ) → order (end_over pick term z (members_from set (suc e) n)) t → PastTerms order term set z (suc e) n t)
        → order (end_over pick term end (from-here b e n)) t → PastTerms order term set end e (suc n) t
    past_first n end e t true eq next h =
        let q = next _ h in
        let both = (pick-iff _ _ t).0 q.origin in
        record {
          origin = both.0;
          terms = λ k l m y. ⊎_elim (λ (x : k ≡ e). rw x both.1) (λ (x : suc e ≤ k). q.terms k x (omega arith) y) (here-or-later e k l);
        }
    past_first n end e t false eq next h =
        let q = next _ h in
        record {
          origin = q.origin;
          terms = λ k l m y.
              ⊎_elim (λ (x : k ≡ e). absurd (true-not-false (sym y ∙ ap (λ (k : ℕ). has_event k set) x ∙ eq)))
              (λ (x : suc e ≤ k). q.terms k x (omega arith) y) (here-or-later e k l);
        }

    past-rest : (n : ℕ) (end : ℤ) (e : ℕ) (t : ℤ) (b : Bool) → has_event e set ≡ b
        → ((z : ℤ) → PastTerms order term set z (suc e) n t → order (end_over pick term z (members_from set (suc e) n)) t)
        → PastTerms order term set end e (suc n) t → order (end_over pick term end (from-here b e n)) t
    past-rest n end e t true eq next h =
        next _
        (record {
          origin = (pick-iff _ _ t).1 (h.origin, h.terms e (omega arith) (omega arith) eq);
          terms = λ k l m y. h.terms k (omega arith) (omega arith) y;
        })
    past-rest n end e t false eq next h =
        next _ (record { origin = h.origin; terms = λ k l m y. h.terms k (omega arith) (omega arith) y })

    end_over-iff : (n : ℕ) (end : ℤ) (e : ℕ) (t : ℤ) → order (end_over pick term end (members_from set e n)) t ↔ PastTerms order term set end e n t
    unfolding members_from
    end_over-iff zero end e t = (λ h. record { origin = h; terms = λ k l m y. absurd (omega arith) }, λ h. h.origin)
    end_over-iff (suc n) end e t = (
      past_first n end e t (has_event e set) refl (λ z. (end_over-iff n z (suc e) t).0),
      past-rest n end e t (has_event e set) refl (λ z. (end_over-iff n z (suc e) t).1),
    )

    one-first : (n : ℕ) (end : ℤ) (e : ℕ) (b : Bool) → has_event e set ≡ b
        → ((z : ℤ) → let w = end_over pick term z (members_from set (suc e) n) in (w ≡ z) ⊎ TermOf term set (suc e) n w)
        → let w = end_over pick term end (from-here b e n) in (w ≡ end) ⊎ TermOf term set e (suc n) w
    one-first n end e true eq next =
        ⊎_elim
        (λ h.
        ⊎_elim (λ (x : pick end (term e) ≡ end). inl (h ∙ x))
        (λ (x : pick end (term e) ≡ term e). inr (record { event = e; from = omega arith; to = omega arith; member = eq; is = h ∙ x }))
        (pick-one end (term e)))
        (λ h. inr (record { event = h.event; from = omega arith; to = omega arith; member = h.member; is = h.is }))
        (next (pick end (term e)))
    one-first n end e false eq next =
        ⊎_elim (λ h. inl h) (λ h. inr (record { event = h.event; from = omega arith; to = omega arith; member = h.member; is = h.is })) (next end)

    end_over-one : (n : ℕ) (end : ℤ) (e : ℕ)
        → let w = end_over pick term end (members_from set e n) in (w ≡ end) ⊎ TermOf term set e n w
    unfolding members_from
    end_over-one zero end e = inl refl
    end_over-one (suc n) end e = one-first n end e (has_event e set) refl (λ z. end_over-one n z (suc e))

-- ---- the lower end is the greatest of its terms, the upper end the least

abbrev pub AtOrAbove : ℤ → ℤ → Type 0
AtOrAbove a t = a ≤ℤ t

abbrev pub AtOrBelow : ℤ → ℤ → Type 0
AtOrBelow a t = t ≤ℤ a

greater-by : (a b t : ℤ) (x : Bool) → lt_z a b ≡ x → (cond x b a ≤ℤ t) ↔ ((a ≤ℤ t) × (b ≤ℤ t))
greater-by a b t true e = (λ h. (omega whole, h), λ h. h.1)
greater-by a b t false e = (λ h. (h, omega whole), λ h. h.0)

pub greater-iff : (a b t : ℤ) → AtOrAbove (greater a b) t ↔ (AtOrAbove a t × AtOrAbove b t)
greater-iff a b t = greater-by a b t (lt_z a b) refl

lesser-by : (a b t : ℤ) (x : Bool) → lt_z b a ≡ x → (t ≤ℤ cond x b a) ↔ ((t ≤ℤ a) × (t ≤ℤ b))
lesser-by a b t true e = (λ h. (omega whole, h), λ h. h.1)
lesser-by a b t false e = (λ h. (h, omega whole), λ h. h.0)

pub lesser-iff : (a b t : ℤ) → AtOrBelow (lesser a b) t ↔ (AtOrBelow a t × AtOrBelow b t)
lesser-iff a b t = lesser-by a b t (lt_z b a) refl

one_of : (x : Bool) (a b : ℤ) → (cond x b a ≡ a) ⊎ (cond x b a ≡ b)
one_of true a b = inr refl
one_of false a b = inl refl

greater-one : (a b : ℤ) → (greater a b ≡ a) ⊎ (greater a b ≡ b)
greater-one a b = one_of (lt_z a b) a b

lesser-one : (a b : ℤ) → (lesser a b ≡ a) ⊎ (lesser a b ≡ b)
lesser-one a b = one_of (lt_z b a) a b

-- ---- the offer

module _ (d : Turn) (cs ds : List ℤ) (r : Run) (j i : ℕ) where
  abbrev first : ℕ
  first = first_seen d.jobs r.before

  -- how many events the run has seen before the start
  abbrev count : ℕ
  count = events_ahead d.jobs (i - 1) - first

  -- t is at or above the origin's lower bound and every lower term in force, at or below the upper ones
  abbrev pub AboveLower : ℤ → Type 0
  AboveLower t = PastTerms AtOrAbove (term_at r.seen cs ((i - 1) * most_events)) (bits_of d.terms.below)
      (on_run d.window j d.terms.low).0 first count t

  abbrev pub BelowUpper : ℤ → Type 0
  BelowUpper t = PastTerms AtOrBelow (term_at r.seen ds ((i - 1) * most_events)) (bits_of d.terms.above)
      (on_run d.window j d.terms.high).0 first count t

  pub offer_at-from-iff : (t : ℤ) → (offer_at d cs ds r j i).from.0 ≤ℤ t ↔ AboveLower t
  unfolding lower_terms greatest
  offer_at-from-iff t = end_over-iff greater AtOrAbove greater-iff greater-one _ _ count _ first t

  pub offer_at-to-iff : (t : ℤ) → t ≤ℤ (offer_at d cs ds r j i).to.0 ↔ BelowUpper t
  unfolding upper_terms least
  offer_at-to-iff t = end_over-iff lesser AtOrBelow lesser-iff lesser-one _ _ count _ first t

  -- both ends are among the bounds that they bound
  pub offer_at-from-one :
      ((offer_at d cs ds r j i).from.0 ≡ (on_run d.window j d.terms.low).0)
      ⊎ TermOf (term_at r.seen cs ((i - 1) * most_events)) (bits_of d.terms.below) first count (offer_at d cs ds r j i).from.0
  unfolding lower_terms greatest
  offer_at-from-one = end_over-one greater AtOrAbove greater-iff greater-one _ _ count _ first

  pub offer_at-to-one :
      ((offer_at d cs ds r j i).to.0 ≡ (on_run d.window j d.terms.high).0)
      ⊎ TermOf (term_at r.seen ds ((i - 1) * most_events)) (bits_of d.terms.above) first count (offer_at d cs ds r j i).to.0
  unfolding upper_terms least
  offer_at-to-one = end_over-one lesser AtOrBelow lesser-iff lesser-one _ _ count _ first
