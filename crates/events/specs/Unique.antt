-- No two answers meet the promise of a public operation: each promise is an equation, and `only` of the crate `text` says the rest. A set of events is its
-- number (`events-unique`).
use Rattle.std.specs.Prelude.{ℕ, ◌-◌, ◌≡◌, Bool, List, []}
use Rattle.std.proofs.Common.{ap}
use Rattle.text.specs.Unique.{only}
use Rattle.events.specs.declared.Events.{Events}
use Rattle.events.specs.Bits.{bits_of, events_of, has_event, event_set, with_event, with_if, with_first, event_count, is_below, next_event, members_from}

events-unique : {r q : Events} {n : ℕ} → r.0 ≡ n → q.0 ≡ n → r ≡ q
events-unique d e = ap (λ (n : ℕ). record { 0 = n }) (only d e)

pub empty-unique : {r q : Events} → r.0 ≡ event_set [] → q.0 ≡ event_set [] → r ≡ q
empty-unique = events-unique

pub of-bits-unique : (bits : ℕ) {r q : Events} → r ≡ events_of bits → q ≡ events_of bits → r ≡ q
of-bits-unique bits = only

pub bits-unique : (s : Events) {r q : ℕ} → r ≡ bits_of s → q ≡ bits_of s → r ≡ q
bits-unique s = only

pub has-unique : (e : ℕ) (s : Events) {r q : Bool} → r ≡ has_event e s.0 → q ≡ has_event e s.0 → r ≡ q
has-unique e s = only

pub with-unique : (e : ℕ) (s : Events) {r q : Events} → r.0 ≡ with_event e s.0 → q.0 ≡ with_event e s.0 → r ≡ q
with-unique e s = events-unique

pub with-if-unique : (e : ℕ) (on : Bool) (s : Events) {r q : Events} → r.0 ≡ with_if on e s.0 → q.0 ≡ with_if on e s.0 → r ≡ q
with-if-unique e on s = events-unique

pub with-first-unique : (on : Bool) (s : Events) {r q : Events} → r.0 ≡ with_first on s.0 → q.0 ≡ with_first on s.0 → r ≡ q
with-first-unique on s = events-unique

pub count-unique : (s : Events) {r q : ℕ} → r ≡ event_count s.0 → q ≡ event_count s.0 → r ≡ q
count-unique s = only

pub is-below-unique : (s : Events) (count : ℕ) {r q : Bool} → r ≡ is_below count s.0 → q ≡ is_below count s.0 → r ≡ q
is-below-unique s count = only

pub next-unique : (s : Events) (e : ℕ) {r q : ℕ} → r ≡ next_event s.0 e → q ≡ next_event s.0 e → r ≡ q
next-unique s e = only

pub members-unique : (s : Events) (first count : ℕ) {r q : List ℕ}
    → r ≡ members_from (bits_of s) first (count - first) → q ≡ members_from (bits_of s) first (count - first) → r ≡ q
members-unique s first count = only
