-- The laws of sets of events.
-- A set is the one that its number stands for (`events_of-bits`).
-- Members: a digit is a member or none (`has_event-digit`); an event of a set moved down is one so much later (`has_event-shift`), so membership is one digit
-- (`has_event-at`); a set below 2^k has no event from k on (`has_event-past`); two sets with the same events are one (`has_event-unique`).
-- Made: the events of `event_set` are the places that hold true (`has_event-set`), and it has a bit for each place (`event_set-fits`); one place more is one event
-- more, or none (`event_set-more`), and one in front makes each event one later (`event_set-first`), for which fewer places than bits leave room
-- (`event_set-room`). A set and an event has that event (`has_event-with`) and no other more (`has_event-with-other`); it is the bits of both
-- (`with_event-or`).
-- The count is the count of ones (`event_count-ones`); of `event_set` it is the count of the places that hold true (`event_count-set`).
-- Every event of a set is below count where nothing is left of the set moved down by count (`is_below-shift`), and where the set is below 2^count
-- (`is_below-fits`).
-- The next event from e on is the trailing zeros of the set moved down by e (`next_from-zeros`). It is not before e (`next_event-from`), it is in the set
-- (`next_event-has`), and none from e on to it is (`next_event-least`). So a walk that does nothing at an event outside the set can go on at the next event
-- (`next_event-skips`): a loop `let mut e = set.next(first); while e < count { ..; e = set.next(e + 1); }` does what a walk over every event does.
-- The count from e on is one for the next event and the count after it (`count_from-next`), and 0 where there is none (`count_from-none`).
-- The members from e on are those from the next event on (`members-next`), which comes first among them (`members-here`, `members-first`); past the last
-- event there is none (`members-none`, `members-over`). Each member is an event of the set in the range that they were asked of (`members-each`).

use Rattle.std.specs.Prelude.{ℕ, zero, suc, ◌+◌, ◌*◌, ◌-◌, ◌/◌, ◌%◌, ◌^◌, ◌≤◌, ◌<◌, ◌≡◌, refl, ◌⊎◌, Bool, true, false, cond, List, [], ◌∷◌, ◌++◌, eqb, leb, ltb, length, get_or}
use Rattle.std.proofs.Common.{sym, ap, ◌∙◌, inl, inr, ⊎_elim, true≢false, pow-suc, div-one, zero-add, add-zero, suc-add, add-suc, add-one, arith, pow_mono, shr_lt, eqb-true, eq-eqb, ne_eqb, leb-true, leb-false, ltb-true, ltb-false}
use Rattle.std.proofs.Math.Nat.{pow-succ', div-div-eq-div-mul}
use Rattle.std.specs.Int.Bits.{bit_or, or_step, or_zero_r}
use Rattle.std.specs.Int.Count.{ones, ones_step, count_trailing_zeros, under}
use Rattle.std.proofs.lemmas.Bool.{eqb-false}
use Rattle.text.specs.Numbers.{is_empty}
use Rattle.events.specs.declared.Events.{Events}
use Rattle.events.specs.Bits.{
  bits_of,
  events_of,
  has_event,
  event_set,
  count_true,
  with_event,
  with_if,
  most_bits,
  HasRoom,
  with_first,
  count_from,
  event_count,
  is_below,
  next_from,
  next_event,
  members_from,
}

-- ---- the number that a set is

pub events_of-bits : (s : Events) {n : ℕ} → bits_of s ≡ n → s ≡ events_of n
events_of-bits s e = ap events_of e

-- ---- members

digit-cases : (s : ℕ) → (s % 2 ≡ 0) ⊎ (s % 2 ≡ 1)
digit-cases s = of (s % 2) refl
  where
    of : (d : ℕ) → s % 2 ≡ d → (s % 2 ≡ 0) ⊎ (s % 2 ≡ 1)
    of zero e = inl e
    of (suc d) e = inr (omega arith)

has_event-even : (s : ℕ) → s % 2 ≡ 0 → has_event 0 s ≡ false
unfolding has_event
has_event-even s h = ne_eqb (s % 2) 1 (λ e. omega arith)

has_event-odd : (s : ℕ) → s % 2 ≡ 1 → has_event 0 s ≡ true
unfolding has_event
has_event-odd s h = eq-eqb (s % 2) 1 h

has_event-digit : (s : ℕ) → s % 2 ≡ cond (has_event 0 s) 1 0
has_event-digit s = ⊎_elim (λ z. rw (has_event-even s z) z) (λ o. rw (has_event-odd s o) o) (digit-cases s)

shift_suc : (s k : ℕ) → s / 2 / 2 ^ k ≡ s / 2 ^ suc k
shift_suc s k = div-div-eq-div-mul s 2 (2 ^ k) ∙ ap (λ (x : ℕ). s / x) (sym (pow-succ' 2 k))

pub has_event-shift : (k e s : ℕ) → has_event e (s / 2 ^ k) ≡ has_event (k + e) s
unfolding has_event
has_event-shift zero e s = rw (zero-add, div-one)
has_event-shift (suc k) e s = rw (← shift_suc s k, suc-add) (has_event-shift k e (s / 2))

pub has_event-at : (e s : ℕ) → has_event e s ≡ eqb (s / 2 ^ e % 2) 1
unfolding has_event
has_event-at zero s = rw (div-one)
has_event-at (suc e) s = rw (← shift_suc s e) (has_event-at e (s / 2))

has_event-none : (e : ℕ) → has_event e 0 ≡ false
unfolding has_event
has_event-none zero = refl
has_event-none (suc e) = has_event-none e

pub has_event-past : (k e s : ℕ) → s < 2 ^ k → k ≤ e → has_event e s ≡ false
unfolding has_event
has_event-past zero e s h l = let z : s ≡ 0 = omega arith in rw z (has_event-none e)
has_event-past (suc k) zero s h l = absurd (omega arith)
has_event-past (suc k) (suc e) s h l = has_event-past k e (s / 2) (omega arith) (omega arith)

pub has_event-unique : (k s t : ℕ) → s < 2 ^ k → t < 2 ^ k → ((e : ℕ) → e < k → has_event e s ≡ has_event e t) → s ≡ t
unfolding has_event
has_event-unique zero s t h g same = omega arith
has_event-unique (suc k) s t h g same =
    let rest : s / 2 ≡ t / 2 = has_event-unique k (s / 2) (t / 2) (omega arith) (omega arith) (λ e l. same (suc e) (omega arith)) in
    let digit : s % 2 ≡ t % 2 = has_event-digit s ∙ ap (λ (b : Bool). cond b 1 0) (same 0 (omega arith)) ∙ sym (has_event-digit t) in
    omega arith

-- ---- made

pub digit-below : (b : Bool) → cond b 1 0 < 2
digit-below true = omega arith
digit-below false = omega arith

cons-half : (b : Bool) (s : ℕ) → (cond b 1 0 + 2 * s) / 2 ≡ s
cons-half b s = omega (arith, digit-below b)

cons-mod : (b : Bool) (s : ℕ) → (cond b 1 0 + 2 * s) % 2 ≡ cond b 1 0
cons-mod b s = omega (arith, digit-below b)

cons-digit : (b : Bool) (s : ℕ) → has_event 0 (cond b 1 0 + 2 * s) ≡ b
cons-digit true s = has_event-odd (1 + 2 * s) (omega arith)
cons-digit false s = has_event-even (0 + 2 * s) (omega arith)

pub event_set-nil : event_set [] ≡ 0
unfolding event_set
event_set-nil = refl

pub has_event-set : (bs : List Bool) (e : ℕ) → has_event e (event_set bs) ≡ get_or bs e false
unfolding has_event event_set
has_event-set [] e = has_event-none e
has_event-set (b ∷ bs) zero = cons-digit b (event_set bs)
has_event-set (b ∷ bs) (suc e) = rw (cons-half b (event_set bs)) (has_event-set bs e)

pub event_set-fits : (bs : List Bool) → event_set bs < 2 ^ length bs
unfolding event_set
event_set-fits [] = omega arith
event_set-fits (b ∷ bs) = omega (arith, digit-below b, event_set-fits bs, pow-suc 2 (length bs))

-- with one place more in front, each event is one later
pub event_set-first : (b : Bool) (bs : List Bool) → with_first b (event_set bs) ≡ event_set (b ∷ bs)
unfolding event_set
event_set-first b bs = refl

pub event_set-room : (bs : List Bool) → length bs < most_bits → HasRoom (event_set bs)
event_set-room bs h = let few : length bs ≤ most_bits - 1 = omega arith in omega (arith, event_set-fits bs, pow_mono few)

-- a set and an event, digit by digit
with_event-zero : (s : ℕ) → with_event 0 s ≡ 1 + 2 * (s / 2)
unfolding with_event
with_event-zero s = ⊎_elim (λ z. rw (has_event-even s z) (omega arith)) (λ o. rw (has_event-odd s o) (omega arith)) (digit-cases s)

with_event-suc : (e s : ℕ) → with_event (suc e) s ≡ s % 2 + 2 * with_event e (s / 2)
unfolding with_event has_event
with_event-suc e s = of (has_event e (s / 2))
  where
    of : (b : Bool) → cond b s (s + 2 ^ suc e) ≡ s % 2 + 2 * cond b (s / 2) (s / 2 + 2 ^ e)
    of true = omega arith
    of false = omega arith

pub has_event-with : (e s : ℕ) → has_event e (with_event e s) ≡ true
unfolding has_event
has_event-with zero s = rw (with_event-zero s) (has_event-odd (1 + 2 * (s / 2)) (omega arith))
has_event-with (suc e) s =
    let rest : (s % 2 + 2 * with_event e (s / 2)) / 2 ≡ with_event e (s / 2) = omega arith in
    rw (with_event-suc e s, rest) (has_event-with e (s / 2))

pub has_event-with-other : (d e s : ℕ) → (d ≡ e → ⊥) → has_event d (with_event e s) ≡ has_event d s
unfolding has_event
has_event-with-other zero zero s ne = absurd (ne refl)
has_event-with-other (suc d) zero s ne =
    let rest : (1 + 2 * (s / 2)) / 2 ≡ s / 2 = omega arith in
    rw (with_event-zero s, rest)
has_event-with-other zero (suc e) s ne =
    let digit : (s % 2 + 2 * with_event e (s / 2)) % 2 ≡ s % 2 = omega arith in
    rw (with_event-suc e s, digit)
has_event-with-other (suc d) (suc e) s ne =
    let rest : (s % 2 + 2 * with_event e (s / 2)) / 2 ≡ with_event e (s / 2) = omega arith in
    rw (with_event-suc e s, rest) (has_event-with-other d e (s / 2) (λ h. ne (ap suc h)))

pub with_event-or : (e s : ℕ) → bit_or s (2 ^ e) ≡ with_event e s
with_event-or zero s = omega (arith, or_step s 1, or_zero_r (s / 2), with_event-zero s)
with_event-or (suc e) s =
    let half : 2 ^ suc e / 2 ≡ 2 ^ e = omega (arith, pow-suc 2 e) in
    let even : 2 ^ suc e % 2 ≡ 0 = omega (arith, pow-suc 2 e) in
    or_step s (2 ^ suc e) ∙ rw (half, even, with_event-or e (s / 2)) (omega (arith, with_event-suc e s))

pub event_set-more : (bs : List Bool) (b : Bool) → event_set (bs ++ (b ∷ [])) ≡ with_if b (length bs) (event_set bs)
unfolding event_set
event_set-more [] true = sym (with_event-zero 0)
event_set-more [] false = refl
event_set-more (a ∷ bs) true =
    ap (λ (s : ℕ). cond a 1 0 + 2 * s) (event_set-more bs true)
    ∙ sym (with_event-suc (length bs) (cond a 1 0 + 2 * event_set bs) ∙ rw (cons-half a (event_set bs), cons-mod a (event_set bs)))
event_set-more (a ∷ bs) false = ap (λ (s : ℕ). cond a 1 0 + 2 * s) (event_set-more bs false)

-- ---- the count

count_from-suc : (s e n : ℕ) → count_from s (suc e) n ≡ count_from (s / 2) e n
unfolding count_from has_event
count_from-suc s e zero = refl
count_from-suc s e (suc n) = ap (λ (x : ℕ). cond (has_event e (s / 2)) 1 0 + x) (count_from-suc s (suc e) n)

count_from-ones : (n s : ℕ) → s < 2 ^ n → count_from s 0 n ≡ ones s
unfolding count_from ones
count_from-ones zero s h = let z : s ≡ 0 = omega arith in rw z
count_from-ones (suc n) s h =
    ap (λ (x : ℕ). cond (has_event 0 s) 1 0 + x) (count_from-suc s 0 n ∙ count_from-ones n (s / 2) (omega arith))
    ∙ ap (λ (x : ℕ). x + ones (s / 2)) (sym (has_event-digit s)) ∙ sym (ones_step s)

pub event_count-ones : (s : ℕ) → s < 2 ^ most_bits → event_count s ≡ ones s
event_count-ones s h = count_from-ones most_bits s h

ones-set : (bs : List Bool) → ones (event_set bs) ≡ count_true bs
unfolding event_set count_true ones
ones-set [] = refl
ones-set (b ∷ bs) =
    ones_step (cond b 1 0 + 2 * event_set bs)
    ∙ rw (cons-half b (event_set bs), cons-mod b (event_set bs), ones-set bs)

pub event_count-set : (bs : List Bool) → length bs ≤ most_bits → event_count (event_set bs) ≡ count_true bs
event_count-set bs h = event_count-ones (event_set bs) (omega (arith, event_set-fits bs, pow_mono h)) ∙ ones-set bs

-- ---- below a count

-- whether some event from e on is in a set is asked of the set moved down
none-suc : (s e n : ℕ) → is_empty (members_from s (suc e) n) ≡ is_empty (members_from (s / 2) e n)
unfolding members_from has_event
none-suc s e zero = refl
none-suc s e (suc n) = of (has_event e (s / 2)) (none-suc s (suc e) n)
  where
    of : (b : Bool) → is_empty (members_from s (suc (suc e)) n) ≡ is_empty (members_from (s / 2) (suc e) n)
        → is_empty (cond b (suc e ∷ members_from s (suc (suc e)) n) (members_from s (suc (suc e)) n))
        ≡ is_empty (cond b (e ∷ members_from (s / 2) (suc e) n) (members_from (s / 2) (suc e) n))
    of true h = refl
    of false h = h

none-shift : (s e n : ℕ) → is_empty (members_from s e n) ≡ is_empty (members_from (s / 2 ^ e) 0 n)
none-shift s zero n = rw (div-one)
none-shift s (suc e) n = none-suc s e n ∙ none-shift (s / 2) e n ∙ ap (λ (x : ℕ). is_empty (members_from x 0 n)) (shift_suc s e)

none-past : (s k e n : ℕ) → s < 2 ^ k → k ≤ e → members_from s e n ≡ []
unfolding members_from
none-past s k e zero h l = refl
none-past s k e (suc n) h l = rw (has_event-past k e s h l) (none-past s k (suc e) n h (omega arith))

none-zero : (n s : ℕ) → s < 2 ^ n → is_empty (members_from s 0 n) ≡ true → s ≡ 0
unfolding members_from
none-zero zero s h e = omega arith
none-zero (suc n) s h e = of (has_event 0 s) refl (λ f. none-zero n (s / 2) (omega arith) (sym (none-suc s 0 n) ∙ f)) e
  where
    of : (b : Bool) → has_event 0 s ≡ b → (is_empty (members_from s 1 n) ≡ true → s / 2 ≡ 0)
        → is_empty (cond b (0 ∷ members_from s 1 n) (members_from s 1 n)) ≡ true → s ≡ 0
    of true d half f = absurd (true≢false (sym f))
    of false d half f =
        let digit : s % 2 ≡ 0 = has_event-digit s ∙ ap (λ (b : Bool). cond b 1 0) d in
        let rest = half f in
        omega arith

pub is_below-fits : (count s : ℕ) → s < 2 ^ count → is_below count s ≡ true
is_below-fits count s h = ap is_empty (none-past s count count most_bits h (omega arith))

pub is_below-shift : (count s : ℕ) → s < 2 ^ most_bits → is_below count s ≡ eqb (s / 2 ^ count) 0
is_below-shift count s h = none-shift s count most_bits ∙ of (is_empty (members_from (s / 2 ^ count) 0 most_bits)) refl
  where
    more : most_bits ≤ most_bits + count
    more = omega arith

    below : s / 2 ^ count < 2 ^ most_bits
    below = shr_lt most_bits count (omega (arith, h, pow_mono more))

    of : (b : Bool) → is_empty (members_from (s / 2 ^ count) 0 most_bits) ≡ b → b ≡ eqb (s / 2 ^ count) 0
    of true e = sym (eq-eqb _ 0 (none-zero most_bits (s / 2 ^ count) below e))
    of false e =
        sym
        (ne_eqb _ 0
        (λ z.
        true≢false
        (sym (ap is_empty (none-past 0 0 0 most_bits (omega arith) (omega arith))) ∙ ap (λ (x : ℕ). is_empty (members_from x 0 most_bits)) (sym z) ∙ e)))

-- ---- the next event

next_from-suc : (s e n : ℕ) → next_from s (suc e) n ≡ suc (next_from (s / 2) e n)
unfolding next_from has_event
next_from-suc s e zero = refl
next_from-suc s e (suc n) = of (has_event e (s / 2)) (next_from-suc s (suc e) n)
  where
    of : (b : Bool) → next_from s (suc (suc e)) n ≡ suc (next_from (s / 2) (suc e) n)
        → cond b (suc e) (next_from s (suc (suc e)) n) ≡ suc (cond b e (next_from (s / 2) (suc e) n))
    of true h = refl
    of false h = h

next_from-first : (s n : ℕ) → next_from s 0 n ≡ count_trailing_zeros n s
unfolding next_from count_trailing_zeros
next_from-first s zero = refl
next_from-first s (suc n) = ap (cond (has_event 0 s) 0) (next_from-suc s 0 n ∙ ap suc (next_from-first (s / 2) n)) ∙ of (has_event 0 s) (s % 2) (has_event-digit s)
  where
    of : (b : Bool) (d : ℕ) → d ≡ cond b 1 0 → cond b 0 (suc (count_trailing_zeros n (s / 2))) ≡ under d (count_trailing_zeros n (s / 2))
    of true d h = rw h
    of false d h = rw h

pub next_from-zeros : (s e n : ℕ) → next_from s e n ≡ e + count_trailing_zeros n (s / 2 ^ e)
next_from-zeros s zero n = next_from-first s n ∙ rw (zero-add, div-one)
next_from-zeros s (suc e) n =
    next_from-suc s e n ∙ ap suc (next_from-zeros (s / 2) e n) ∙ rw (shift_suc, suc-add)

next_from-past : (s e n : ℕ) → e ≤ next_from s e n
unfolding next_from
next_from-past s e zero = omega arith
next_from-past s e (suc n) = of (has_event e s) (next_from-past s (suc e) n)
  where
    of : (b : Bool) → suc e ≤ next_from s (suc e) n → e ≤ cond b e (next_from s (suc e) n)
    of true h = omega arith
    of false h = omega arith

next_from-least : (s e n d : ℕ) → e ≤ d → d < next_from s e n → has_event d s ≡ false
unfolding next_from
next_from-least s e zero d l h = absurd (omega arith)
next_from-least s e (suc n) d l h = of (has_event e s) refl (next_from-least s (suc e) n d) h
  where
    of : (b : Bool) → has_event e s ≡ b → (suc e ≤ d → d < next_from s (suc e) n → has_event d s ≡ false)
        → d < cond b e (next_from s (suc e) n) → has_event d s ≡ false
    of true y rest g = absurd (omega arith)
    of false y rest g = at (eqb d e) refl
      where
        at : (t : Bool) → eqb d e ≡ t → has_event d s ≡ false
        at true k = rw (eqb-true d e k) y
        at false k = rest (omega (arith, eqb-false d e k)) g

next_from-has : (s e n : ℕ) → next_from s e n < e + n → has_event (next_from s e n) s ≡ true
unfolding next_from
next_from-has s e zero h = absurd (omega arith)
next_from-has s e (suc n) h = of (has_event e s) refl (next_from-has s (suc e) n) h
  where
    of : (b : Bool) → has_event e s ≡ b → (next_from s (suc e) n < suc e + n → has_event (next_from s (suc e) n) s ≡ true)
        → cond b e (next_from s (suc e) n) < e + suc n → has_event (cond b e (next_from s (suc e) n)) s ≡ true
    of true y rest g = y
    of false y rest g = rest (omega arith)

-- ---- the next event in a walk over the events before `count`

-- it is not before e, it is in the set, and from e on to it nothing is
pub next_event-from : (s e : ℕ) → e ≤ next_event s e
next_event-from s e = next_from-past s e most_bits

pub next_event-has : (s e : ℕ) → next_event s e < most_bits → has_event (next_event s e) s ≡ true
next_event-has s e h = next_from-has s e most_bits (omega arith)

next_event-least : (s e d : ℕ) → e ≤ d → d < next_event s e → has_event d s ≡ false
next_event-least s e d = next_from-least s e most_bits d

-- a walk from event e on over n events, which does nothing at an event outside the set, can go on at the next event; with no event left all are at one end
module _ {A : Type 0} (s count : ℕ) (walk : ℕ → ℕ → A) (past : (e n : ℕ) → e < count → has_event e s ≡ false → walk e (suc n) ≡ walk (suc e) n)
    (end : (e d : ℕ) → walk e 0 ≡ walk d 0) where
  skips : (gap e n : ℕ) → e + gap ≤ count → ((d : ℕ) → e ≤ d → d < e + gap → has_event d s ≡ false) → walk e (gap + n) ≡ walk (e + gap) n
  skips zero e n l none = rw (zero-add, add-zero)
  skips (suc gap) e n l none =
      ap (walk e) (suc-add gap n) ∙ past e (gap + n) (omega arith) (none e (omega arith) (omega arith))
      ∙ skips gap (suc e) n (omega arith) (λ d l h. none d (omega arith) (omega arith))
      ∙ ap (λ (k : ℕ). walk k n) (suc-add e gap ∙ sym (add-suc e gap))

  skips-to : (e k : ℕ) → e ≤ k → k ≤ next_event s e → k ≤ count → walk e (count - e) ≡ walk k (count - k)
  skips-to e k l h g =
      let left : count - e ≡ (k - e) + (count - k) = omega arith in
      let place : e + (k - e) ≡ k = omega arith in
      ap (walk e) left ∙ skips (k - e) e (count - k) (omega arith) (λ d a b. next_event-least s e d a (omega arith)) ∙ ap (λ (j : ℕ). walk j (count - k)) place

  ends : (e k : ℕ) → count ≤ e → count ≤ k → walk e (count - e) ≡ walk k (count - k)
  ends e k l h =
      let none : count - e ≡ 0 = omega arith in
      let none_left : count - k ≡ 0 = omega arith in
      ap (walk e) none ∙ end e k ∙ ap (walk k) (sym none_left)

  pub next_event-skips : (e : ℕ) → walk e (count - e) ≡ walk (next_event s e) (count - next_event s e)
  next_event-skips e = of (leb count e) refl (leb (next_event s e) count) refl
    where
      of : (b : Bool) → leb count e ≡ b → (d : Bool) → leb (next_event s e) count ≡ d → walk e (count - e) ≡ walk (next_event s e) (count - next_event s e)
      of true h d g = ends e (next_event s e) (leb-true count e h) (omega (arith, leb-true count e h, next_event-from s e))
      of false h true g = skips-to e (next_event s e) (next_event-from s e) (omega arith) (leb-true (next_event s e) count g)
      of false h false g =
          let before : e < count = leb-false count e h in
          let beyond : count < next_event s e = leb-false (next_event s e) count g in
          skips-to e count (omega arith) (omega arith) (omega arith) ∙ ends count (next_event s e) (omega arith) (omega arith)

-- ---- the count from an event on: one for the next event, and those after it

count_from-past : (s e n : ℕ) → has_event e s ≡ false → count_from s e (suc n) ≡ count_from s (suc e) n
unfolding count_from
count_from-past s e n h = rw h (omega arith)

count_from-here : (s e n : ℕ) → has_event e s ≡ true → count_from s e (suc n) ≡ suc (count_from s (suc e) n)
unfolding count_from
count_from-here s e n h = rw h (omega arith)

pub count_from-next : (s e k : ℕ) → k ≡ next_event s e → k < most_bits
    → count_from s e (most_bits - e) ≡ suc (count_from s (k + 1) (most_bits - (k + 1)))
unfolding count_from
count_from-next s e k next h =
    let left : most_bits - k ≡ suc (most_bits - (k + 1)) = omega arith in
    next_event-skips s most_bits (count_from s) (λ e n l. count_from-past s e n) (λ e d. refl) e
    ∙ ap (λ (j : ℕ). count_from s j (most_bits - j)) (sym next)
    ∙ ap (count_from s k) left
    ∙ count_from-here s k (most_bits - (k + 1)) (rw next (next_event-has s e (omega arith)))
    ∙ ap (λ (j : ℕ). suc (count_from s j (most_bits - (k + 1)))) (sym (add-one k))

-- none is left: the next event is past every place that a set has
pub count_from-none : (s e : ℕ) → count_from s e (most_bits - e) ≡ 0 → most_bits ≤ next_event s e
count_from-none s e none = of (ltb (next_event s e) most_bits) refl
  where
    of : (b : Bool) → ltb (next_event s e) most_bits ≡ b → most_bits ≤ next_event s e
    of true h = absurd (omega (arith, count_from-next s e (next_event s e) refl (ltb-true (next_event s e) most_bits h)))
    of false h = ltb-false (next_event s e) most_bits h

-- ---- the members in their order: from an event on they are those from the next member on, and from a member on it comes first

members-past : (s e n : ℕ) → has_event e s ≡ false → members_from s e (suc n) ≡ members_from s (suc e) n
unfolding members_from
members-past s e n h = rw h

pub members-here : (s e count : ℕ) → e < count → has_event e s ≡ true → members_from s e (count - e) ≡ e ∷ members_from s (e + 1) (count - (e + 1))
unfolding members_from
members-here s e count l h = let left : count - e ≡ suc (count - suc e) = omega arith in rw (left, h, add-one e)

pub members-none : (s e count : ℕ) → count ≤ e → members_from s e (count - e) ≡ []
unfolding members_from
members-none s e count h = let left : count - e ≡ 0 = omega arith in rw left

pub members-next : (s e count k : ℕ) → k ≡ next_event s e → members_from s e (count - e) ≡ members_from s k (count - k)
unfolding members_from
members-next s e count k next =
    next_event-skips s count (members_from s) (λ e n l h. members-past s e n h) (λ e d. refl) e
    ∙ ap (λ (j : ℕ). members_from s j (count - j)) (sym next)

-- the first member from an event on, where it is before count; and none, where it is not
pub members-first : (s e count k : ℕ) → k ≡ next_event s e → k < count → count ≤ most_bits
    → members_from s e (count - e) ≡ k ∷ members_from s (k + 1) (count - (k + 1))
members-first s e count k next l h =
    members-next s e count k next ∙ members-here s k count l (rw next (next_event-has s e (omega (arith, next))))

pub members-over : (s e count k : ℕ) → k ≡ next_event s e → count ≤ k → members_from s e (count - e) ≡ []
members-over s e count k next h = members-next s e count k next ∙ members-none s k count h

-- what holds of each of some events
abbrev pub EachOf : (ℕ → Type 0) → List ℕ → Type 0
EachOf P [] = Unit
EachOf P (e ∷ es) = P e × EachOf P es

-- an event of a set, not before the first one and below count: each of the members is one
pub record Member (s first count e : ℕ) : Type 0 where
  pub from : first ≤ e
  pub below : e < count
  pub has : has_event e s ≡ true

each-from : (s first count e n : ℕ) → first ≤ e → ((k : ℕ) → k < n → e + k < count) → EachOf (Member s first count) (members_from s e n)
unfolding members_from
each-from s first count e zero l h = tt
each-from s first count e (suc n) l h =
    of (has_event e s) refl (each-from s first count (suc e) n (omega arith) (λ k m. omega (arith, h (suc k) (omega arith))))
  where
    of : (b : Bool) → has_event e s ≡ b → EachOf (Member s first count) (members_from s (suc e) n)
        → EachOf (Member s first count) (cond b (e ∷ members_from s (suc e) n) (members_from s (suc e) n))
    of true y rest = (record { from = l; below = omega (arith, h 0 (omega arith)); has = y }, rest)
    of false y rest = rest

pub members-each : (s first count : ℕ) → EachOf (Member s first count) (members_from s first (count - first))
members-each s first count = each-from s first count first (count - first) (omega arith) (λ k m. omega arith)
