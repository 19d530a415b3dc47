-- The laws of event names. Three bytes are a name by their letter, kind and digit (`event_name-three`), and nothing else is one (`event_name-other`). An event's
-- number is small (`event_number-fits`) and no other event has it (`same_event-number`).
use Rattle.std.specs.Prelude.{◌≡◌, refl, Bool, true, false, cond, ◌&&◌, List, [], ◌∷◌, ℕ, ◌+◌, ◌*◌, ◌-◌, ◌/◌, ◌≤◌, ◌<◌, eqb, length, get_or, Option, Some, None}
use Rattle.std.proofs.Common.{sym, ◌∙◌, ap, subst, arith, eqb-true, eq-eqb, ne_eqb}
use Rattle.std.proofs.lemmas.Bool.{eqb-false}
use Rattle.whole.specs.Clash.{clash}
use Rattle.text.specs.Numbers.{is_digit, zero_digit, digits}
use Rattle.text.specs.DigitLaws.{digits-one, digits-some, digits-length-more, is_digit-of, is_digit-range}
use Rattle.plan.specs.declared.Letter.{Letter}
use Rattle.plan.specs.declared.Letter.TheVariants.{This, Next}
use Rattle.plan.specs.declared.Kind.{Kind}
use Rattle.plan.specs.declared.Kind.TheVariants.{Start, Finish}
use Rattle.plan.specs.declared.EventName.{EventName}
use Rattle.plan.specs.EventNames.{
  letter_byte,
  kind_byte,
  name_bytes,
  letter_of,
  kind_of,
  job_of,
  name_of,
  event_name,
  same_letter,
  same_kind,
  same_event,
  letter_number,
  kind_number,
  event_number,
}

-- ---- read

name_of-none : (l : Option Letter) (k : Option Kind) → name_of l k None ≡ None
name_of-none None k = refl
name_of-none (Some l) None = refl
name_of-none (Some l) (Some k) = refl

pub event_name-three : (s : List ℕ) → length s ≡ 3 → event_name s ≡ name_of (letter_of (get_or s 0 0)) (kind_of (get_or s 1 0)) (job_of (get_or s 2 0 ∷ []))
unfolding event_name
event_name-three [] h = absurd (omega arith)
event_name-three (a ∷ []) h = absurd (omega arith)
event_name-three (a ∷ b ∷ []) h = absurd (omega arith)
event_name-three (a ∷ b ∷ d ∷ []) h = refl
event_name-three (a ∷ b ∷ d ∷ e ∷ s) h = absurd (omega arith)

pub event_name-other : (s : List ℕ) → (length s ≡ 3 → ⊥) → event_name s ≡ None
unfolding event_name
event_name-other [] h = refl
event_name-other (a ∷ []) h = refl
event_name-other (a ∷ b ∷ []) h = name_of-none (letter_of a) (kind_of b)
event_name-other (a ∷ b ∷ d ∷ []) h = absurd (h refl)
event_name-other (a ∷ b ∷ d ∷ e ∷ s) h = name_of-none (letter_of a) (kind_of b)

-- ---- written and read

letter_of-written : (a : ℕ) (l : Letter) → letter_of a ≡ Some l → a ≡ letter_byte l
letter_of-written a l e = by_tests (eqb a 116) (eqb a 110) refl refl e
  where
    by_tests : (p q : Bool) → eqb a 116 ≡ p → eqb a 110 ≡ q → cond p (Some This) (cond q (Some Next) None) ≡ Some l → a ≡ letter_byte l
    by_tests true q h g d = eqb-true a 116 h ∙ ap letter_byte {x = This} {y = l} (cc)
    by_tests false true h g d = eqb-true a 110 g ∙ ap letter_byte {x = Next} {y = l} (cc)
    by_tests false false h g d = clash (cc)

kind_of-written : (a : ℕ) (k : Kind) → kind_of a ≡ Some k → a ≡ kind_byte k
kind_of-written a k e = by_tests (eqb a 115) (eqb a 102) refl refl e
  where
    by_tests : (p q : Bool) → eqb a 115 ≡ p → eqb a 102 ≡ q → cond p (Some Start) (cond q (Some Finish) None) ≡ Some k → a ≡ kind_byte k
    by_tests true q h g d = eqb-true a 115 h ∙ ap kind_byte {x = Start} {y = k} (cc)
    by_tests false true h g d = eqb-true a 102 g ∙ ap kind_byte {x = Finish} {y = k} (cc)
    by_tests false false h g d = clash (cc)

job_of-written : (s : List ℕ) (i : ℕ) → job_of s ≡ Some i → s ≡ digits i
job_of-written [] i e = clash (cc)
job_of-written (b ∷ []) i e = by-test (is_digit b) refl e
  where
    by-test : (p : Bool) → is_digit b ≡ p → cond p (Some (b - zero_digit)) None ≡ Some i → b ∷ [] ≡ digits i
    by-test true h d =
        let q : b - zero_digit ≡ i = cc in
        let r = is_digit-range b h in
        let same : b ≡ zero_digit + i = omega arith in
        ap (λ (x : ℕ). x ∷ []) same ∙ sym (digits-one i (omega arith))
    by-test false h d = clash (cc)
job_of-written (b ∷ c ∷ s) i e = clash (cc)

pub event_name-written : (s : List ℕ) (e : EventName) → event_name s ≡ Some e → s ≡ name_bytes e
unfolding event_name
event_name-written [] e h = clash (cc)
event_name-written (a ∷ []) e h = clash (cc)
event_name-written (a ∷ b ∷ s) e h = by_parts (letter_of a) (kind_of b) (job_of s) refl refl refl h
  where
    by_parts : (l : Option Letter) (k : Option Kind) (i : Option ℕ) → letter_of a ≡ l → kind_of b ≡ k → job_of s ≡ i → name_of l k i ≡ Some e
        → a ∷ b ∷ s ≡ name_bytes e
    by_parts None k i p q r d = clash (cc)
    by_parts (Some l) None i p q r d = clash (cc)
    by_parts (Some l) (Some k) None p q r d = clash (cc)
    by_parts (Some l) (Some k) (Some i) p q r d =
        let v : ◌≡◌ {A = EventName} (record { letter = l; kind = k; job = i }) e = cc in
        subst (λ x. a ∷ b ∷ s ≡ name_bytes x) v (cc (letter_of-written a l p, kind_of-written b k q, job_of-written s i r))

letter_of-back : (l : Letter) → letter_of (letter_byte l) ≡ Some l
letter_of-back This = refl
letter_of-back Next = refl

kind_of-back : (k : Kind) → kind_of (kind_byte k) ≡ Some k
kind_of-back Start = refl
kind_of-back Finish = refl

-- one job digit
job_of-back : (i : ℕ) → i < 10 → job_of (digits i) ≡ Some i
job_of-back i h = rw (digits-one i h, is_digit-of i h) (ap Some (omega arith))

pub event_name-back : (e : EventName) → e.job < 10 → event_name (name_bytes e) ≡ Some e
unfolding event_name
event_name-back e h = rw (letter_of-back e.letter, kind_of-back e.kind, job_of-back e.job h)

-- and no more than one
pub event_name-long : (e : EventName) → 10 ≤ e.job → event_name (name_bytes e) ≡ None
event_name-long e h = event_name-other (name_bytes e) (λ d. omega (arith, digits-length-more e.job h, digits-some (e.job / 10)))

-- ---- numbered

pub letter_number-fits : (l : Letter) → letter_number l ≤ 1
letter_number-fits This = omega arith
letter_number-fits Next = omega arith

pub kind_number-fits : (k : Kind) → kind_number k ≤ 1
kind_number-fits Start = omega arith
kind_number-fits Finish = omega arith

pub event_number-fits : (e : EventName) → e.job < 256 → event_number e < 1024
event_number-fits e h = omega (arith, letter_number-fits e.letter, kind_number-fits e.kind)

same_letter-number : (l m : Letter) → same_letter l m ≡ eqb (letter_number l) (letter_number m)
same_letter-number This This = refl
same_letter-number This Next = refl
same_letter-number Next This = refl
same_letter-number Next Next = refl

same_kind-number : (k n : Kind) → same_kind k n ≡ eqb (kind_number k) (kind_number n)
same_kind-number Start Start = refl
same_kind-number Start Finish = refl
same_kind-number Finish Start = refl
same_kind-number Finish Finish = refl

-- two binary digits below a number
all_same : (l m k n i j : ℕ) → l ≤ 1 → m ≤ 1 → k ≤ 1 → n ≤ 1 → eqb l m && eqb k n && eqb i j ≡ eqb (i * 4 + l * 2 + k) (j * 4 + m * 2 + n)
all_same l m k n i j hl hm hk hn = by_tests (eqb l m) (eqb k n) (eqb i j) refl refl refl
  where
    by_tests : (a b c : Bool) → eqb l m ≡ a → eqb k n ≡ b → eqb i j ≡ c → a && b && c ≡ eqb (i * 4 + l * 2 + k) (j * 4 + m * 2 + n)
    by_tests true true true p q r = sym (eq-eqb (i * 4 + l * 2 + k) (j * 4 + m * 2 + n) (omega (arith, eqb-true l m p, eqb-true k n q, eqb-true i j r)))
    by_tests true true false p q r = sym (ne_eqb (i * 4 + l * 2 + k) (j * 4 + m * 2 + n) (λ e. eqb-false i j r (omega arith)))
    by_tests true false c p q r = sym (ne_eqb (i * 4 + l * 2 + k) (j * 4 + m * 2 + n) (λ e. eqb-false k n q (omega arith)))
    by_tests false b c p q r = sym (ne_eqb (i * 4 + l * 2 + k) (j * 4 + m * 2 + n) (λ e. eqb-false l m p (omega arith)))

pub same_event-number : (d e : EventName) → same_event d e ≡ eqb (event_number d) (event_number e)
unfolding same_event
same_event-number d e =
    rw (same_letter-number d.letter e.letter, same_kind-number d.kind e.kind)
    (all_same (letter_number d.letter) (letter_number e.letter) (kind_number d.kind) (kind_number e.kind) d.job e.job
    (letter_number-fits d.letter) (letter_number-fits e.letter) (kind_number-fits d.kind) (kind_number-fits e.kind))
