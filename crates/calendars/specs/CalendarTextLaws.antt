-- The laws of the calendar's text.
-- How long it is: an event's name has at most 22 bytes (`event_bytes-short`), a term's line `most_term_bytes` (`term_line-short`).
-- One turn of a writer: the next term of a side (`term_lines-next`, `term_lines-stop`; by what is left, `left-term`, `left-terms`), and the next job (`left-job`,
-- `left-jobs`). The terms of a side are a line for each of its events (`term_lines-members`); `TermsLeft` is what holds while they are written.
-- What writers did: an event's name from its parts (`stored-event`), and how far a term moves the place (`stored-term-near`). Laws of
-- whole lines are in `KeyedLaws` of `lines`.

use Prim.Native.Nat.{ℕ, zero, suc, ◌+◌, ◌*◌, ◌-◌, ◌/◌, ◌^◌, ◌≤◌, ◌<◌}
use Rattle.std.specs.Prelude.{◌≡◌, refl, Bool, true, false, cond, List, [], ◌∷◌, ◌++◌, ltb, ℤ, pos, length, get_or}
use Rattle.std.proofs.Common.{sym, ◌∙◌, subst, length-append, SFits, to_z, of_z, to_z-of_z}
use Rattle.std.proofs.lemmas.List.{nil_from_length}
use Rattle.std.proofs.Math.Path.{ap}
use Rattle.std.proofs.Math.Numerals.{add-one}
use native.Mathlib.Omega.{arith}
use Rattle.std.specs.Int.{w32, w64}
use Rattle.whole.specs.SplitLaws.{cast-wide}
use Rattle.text.specs.Lent.{Stored}
use Rattle.text.specs.Lines.{LF, comma}
use Rattle.text.specs.Numbers.{decimal, digits}
use Rattle.text.specs.DigitLaws.{digits-short}
use Rattle.text.specs.NumberLaws.{decimal-short}
use Rattle.events.specs.Bits.{has_event, most_bits, count_from, members_from, next_event}
use Rattle.events.specs.BitsLaws.{next_event-has, next_event-skips}
use Rattle.std.specs.List.{flat_map}
use Rattle.plan.specs.ListLaws.{All}
use Rattle.calendars.specs.declared.Calendar.{Calendar}
use Rattle.calendars.specs.Calendars.{no_terms}
use Rattle.text.specs.LeftLaws.{LeftToWrite, left-whole, left-past, left_end}
use Rattle.calendars.specs.CalendarText.{
  event_letter,
  event_kind,
  event_job,
  event_bytes,
  term_line,
  term_lines,
  job_text,
  job_texts,
  most_term_bytes,
}

-- ---- how long it is

event_job-fits : (jobs e : ℕ) → e < 2 ^ 64 → event_job jobs e < 2 ^ 64
event_job-fits jobs e h = of (ltb e (2 * jobs))
  where
    of : (b : Bool) → cond b (e / 2) ((e - 2 * jobs) / 2) + 1 < 2 ^ 64
    of true = omega arith
    of false = omega arith

pub event_bytes-short : (jobs e : ℕ) → e < 2 ^ 64 → length (event_bytes jobs e) ≤ 22
event_bytes-short jobs e h = omega (arith, digits-short (event_job jobs e) (event_job-fits jobs e h))

term_line-short : (jobs : ℕ) (key : List ℕ) (e : ℕ) (c : ℤ) → length key ≤ 8 → e < 2 ^ 64 → SFits w64 c → length (term_line jobs key e c) ≤ most_term_bytes
term_line-short jobs key e c k h f =
    omega (
      arith,
      length-append key (event_bytes jobs e ++ (comma ∷ (decimal c ++ (LF ∷ [])))),
      length-append (event_bytes jobs e) (comma ∷ (decimal c ++ (LF ∷ []))),
      length-append (decimal c) (LF ∷ []),
      event_bytes-short jobs e h,
      decimal-short c f,
    )

-- ---- the terms of one side

module _ (jobs : ℕ) (key : List ℕ) (set : ℕ) (cs : List ℤ) (row : ℕ) where
  term_lines-past : (e n : ℕ) → has_event e set ≡ false → term_lines jobs key set cs row e (suc n) ≡ term_lines jobs key set cs row (suc e) n
  unfolding term_lines
  term_lines-past e n h = rw h

  term_lines-here : (e n : ℕ) → has_event e set ≡ true
      → term_lines jobs key set cs row e (suc n) ≡ term_line jobs key e (get_or cs (row + e) (pos 0)) ++ term_lines jobs key set cs row (suc e) n
  unfolding term_lines
  term_lines-here e n h = rw h

  -- count events, of which those from event e on are left; k is the next one in the set
  module _ (e k count : ℕ) (next : k ≡ next_event set e) where
    skipped : term_lines jobs key set cs row e (count - e) ≡ term_lines jobs key set cs row k (count - k)
    unfolding term_lines
    skipped =
        next_event-skips set count (term_lines jobs key set cs row) (λ e n l. term_lines-past e n) (λ e d. refl) e
        ∙ ap (λ (j : ℕ). term_lines jobs key set cs row j (count - j)) (sym next)

    term_lines-next : k < count → count ≤ most_bits
        → term_lines jobs key set cs row e (count - e)
        ≡ term_line jobs key k (get_or cs (row + k) (pos 0)) ++ term_lines jobs key set cs row (k + 1) (count - (k + 1))
    term_lines-next h m =
        let left : count - k ≡ suc (count - (k + 1)) = omega arith in
        skipped ∙ ap (term_lines jobs key set cs row k) left
        ∙ term_lines-here k (count - (k + 1)) (rw next (next_event-has set e (omega arith)))
        ∙ ap (λ (j : ℕ). term_line jobs key k (get_or cs (row + k) (pos 0)) ++ term_lines jobs key set cs row j (count - (k + 1))) (sym (add-one k))

    term_lines-stop : count ≤ k → term_lines jobs key set cs row e (count - e) ≡ []
    unfolding term_lines
    term_lines-stop h = let none : count - k ≡ 0 = omega arith in skipped ∙ ap (term_lines jobs key set cs row k) none

    -- what is left of a text, before and after the next term
    module _ {out s o : List ℕ} {at j : ℕ} (l : LeftToWrite out at s o j (term_lines jobs key set cs row e (count - e))) where
      pub left-term : {o' : List ℕ} {j' : ℕ} → k < count → count ≤ most_bits → SFits w32 (get_or cs (row + k) (pos 0))
          → Stored o j (term_line jobs key k (to_z w32 (of_z w32 (get_or cs (row + k) (pos 0))))) o' j'
          → LeftToWrite out at s o' j' (term_lines jobs key set cs row (k + 1) (count - (k + 1)))
      left-term {o'} {j'} b m f d =
          left-past
          (subst (λ (t : List ℕ). LeftToWrite out at s o j t) (term_lines-next b m) l)
          (subst (λ (z : ℤ). Stored o j (term_line jobs key k z) o' j') (to_z-of_z f) d)

      pub left-terms : count ≤ k → Stored out at s o j
      left-terms b = left_end (subst (λ (t : List ℕ). LeftToWrite out at s o j t) (term_lines-stop b) l)

-- ---- the terms of one side: a line for each of its events

module _ (jobs : ℕ) (key : List ℕ) (cs : List ℤ) (row : ℕ) where
  abbrev pub line_of : ℕ → List ℕ
  line_of k = term_line jobs key k (get_or cs (row + k) (pos 0))

  pub term_lines-members : (set e n : ℕ) → term_lines jobs key set cs row e n ≡ flat_map line_of (members_from set e n)
  unfolding term_lines members_from
  term_lines-members set e zero = refl
  term_lines-members set e (suc n) = by (has_event e set) (term_lines-members set (suc e) n)
    where
      by : (b : Bool) → term_lines jobs key set cs row (suc e) n ≡ flat_map line_of (members_from set (suc e) n) → cond b (line_of e) [] ++ term_lines jobs key set cs row (suc e) n
          ≡ flat_map line_of (cond b (e ∷ members_from set (suc e) n) (members_from set (suc e) n))
      by true h = ap (λ (s : List ℕ). line_of e ++ s) h
      by false h = h

-- there are at most so many, and each is before the last place
pub record Few (count : ℕ) (most : ℕ) (ks : List ℕ) : Type 0 where
  pub few : length ks ≤ most
  pub each_below : All (λ k. k < count) ks

members-few : (set e n count : ℕ) → e + n ≤ count → Few count n (members_from set e n)
unfolding members_from
members-few set e zero count h = record { few = omega arith; each_below = tt }
members-few set e (suc n) count h = by (has_event e set) (members-few set (suc e) n count (omega arith))
  where
    by : (b : Bool) → Few count n (members_from set (suc e) n) → Few count (suc n) (cond b (e ∷ members_from set (suc e) n) (members_from set (suc e) n))
    by true later = record { few = omega (arith, later.few); each_below = (omega arith, later.each_below) }
    by false later = record { few = omega (arith, later.few); each_below = later.each_below }

-- no more than the set has ones
pub members-counted : (set e n m : ℕ) → n ≤ m → length (members_from set e n) ≤ count_from set e m
unfolding members_from count_from
members-counted set e zero m h = omega arith
members-counted set e (suc n) zero h = absurd (omega (arith, h))
members-counted set e (suc n) (suc m) h = by (has_event e set) (members-counted set (suc e) n m (omega (arith, h)))
  where
    by : (b : Bool) → length (members_from set (suc e) n) ≤ count_from set (suc e) m
        → length (cond b (e ∷ members_from set (suc e) n) (members_from set (suc e) n)) ≤ cond b 1 0 + count_from set (suc e) m
    by true later = omega (arith, later)
    by false later = omega (arith, later)

-- the loop over them, of at most count: the lines of those that are left to be given are left to be written, and no more than n of them
pub record TermsLeft (jobs : ℕ) (key : List ℕ) (cs : List ℤ) (row count : ℕ) (out : List ℕ) (at : ℕ) (s out' : List ℕ) (at' : ℕ) (ks : List ℕ) (n : ℕ)
    : Type 0 where
  pub left : LeftToWrite out at s out' at' (flat_map (line_of jobs key cs row) ks)
  pub counted : length ks ≤ n
  pub near : at' + most_term_bytes * length ks ≤ at + most_term_bytes * count
  pub each_below : All (λ k. k < count) ks

module _ (jobs : ℕ) (key : List ℕ) (cs : List ℤ) (row count : ℕ) (out : List ℕ) (at : ℕ) where
  pub TermsLeft-start : (set : ℕ) {ks : List ℕ} {n : ℕ} → ks ≡ members_from set 0 (count - 0) → length ks ≤ n
      → TermsLeft jobs key cs row count out at (term_lines jobs key set cs row 0 count) out at ks n
  TermsLeft-start set {ks} {n} e counted =
      let all : count - 0 ≡ count = omega arith in
      let few = members-few set 0 (count - 0) count (omega arith) in
      let text = ap (term_lines jobs key set cs row 0) (sym all) ∙ term_lines-members jobs key cs row set 0 (count - 0) in
      rw e
      (record {
        left = subst (λ (t : List ℕ). LeftToWrite out at (term_lines jobs key set cs row 0 count) out at t) text (left-whole out at _);
        counted = subst (λ (ks : List ℕ). length ks ≤ n) e counted;
        near = omega (arith, few.few);
        each_below = few.each_below;
      })

  module _ {s o : List ℕ} {j : ℕ} {ks : List ℕ} {n : ℕ} (h : TermsLeft jobs key cs row count out at s o j ks n) where
    pub TermsLeft-below : {k : ℕ} {later : List ℕ} → ks ≡ k ∷ later → k < count
    TermsLeft-below e = (subst (λ (ks : List ℕ). All (λ k. k < count) ks) e h.each_below).0

    pub TermsLeft-next : {k m : ℕ} {later : List ℕ} → ks ≡ k ∷ later → m + 1 ≡ n → {o' : List ℕ} {j' : ℕ} → j' ≤ j + most_term_bytes
        → Stored o j (term_line jobs key k (get_or cs (row + k) (pos 0))) o' j'
        → TermsLeft jobs key cs row count out at s o' j' later m
    TermsLeft-next e fewer near d =
        record {
          left = left-past (subst (λ (ks : List ℕ). LeftToWrite out at s o j (flat_map (line_of jobs key cs row) ks)) e h.left) d;
          counted = omega (arith, h.counted, ap length e, fewer);
          near = omega (arith, h.near, ap length e, near);
          each_below = (subst (λ (ks : List ℕ). All (λ k. k < count) ks) e h.each_below).1;
        }

    -- where as many as there are ones are written, none is left either
    pub TermsLeft-end : (0 < n → ks ≡ []) → Stored out at s o j
    TermsLeft-end e = left_end (subst (λ (ks : List ℕ). LeftToWrite out at s o j (flat_map (line_of jobs key cs row) ks)) none h.left)
      where
        over : (m : ℕ) → n ≡ m → ks ≡ []
        over zero z = nil_from_length ks (omega (arith, h.counted, z))
        over (suc m) z = e (omega (arith, z))

        none : ks ≡ []
        none = over n refl

-- ---- the jobs

module _ (jobs : ℕ) (c : Calendar) (i count : ℕ) where
  job_texts-next : i < count
      → job_texts jobs c i (count - i)
      ≡ job_text jobs i (get_or c.terms i no_terms) c.at_least c.at_most ++ job_texts jobs c (i + 1) (count - (i + 1))
  unfolding job_texts
  job_texts-next h = let left : count - i ≡ suc (count - (i + 1)) = omega arith in rw (left, add-one i)

  job_texts-end : count ≤ i → job_texts jobs c i (count - i) ≡ []
  unfolding job_texts
  job_texts-end h = let left : count - i ≡ 0 = omega arith in rw left

  -- what is left of a text, before and after the job at place i
  module _ {out s o : List ℕ} {at j : ℕ} (l : LeftToWrite out at s o j (job_texts jobs c i (count - i))) where
    pub left-job : {o' : List ℕ} {j' : ℕ} → i < count → Stored o j (job_text jobs i (get_or c.terms i no_terms) c.at_least c.at_most) o' j'
        → LeftToWrite out at s o' j' (job_texts jobs c (i + 1) (count - (i + 1)))
    left-job h d = left-past (subst (λ (t : List ℕ). LeftToWrite out at s o j t) (job_texts-next h) l) d

    pub left-jobs : count ≤ i → Stored out at s o j
    left-jobs h = left_end (subst (λ (t : List ℕ). LeftToWrite out at s o j t) (job_texts-end h) l)

-- ---- for writers

-- how far a term moves the place
pub stored-term-near : {o o' : List ℕ} {j j' : ℕ} (jobs : ℕ) (key : List ℕ) (k : ℕ) {c : ℤ} → length key ≤ 8 → k < most_bits → SFits w32 c
    → Stored o j (term_line jobs key k (to_z w32 (of_z w32 c))) o' j' → j' ≤ j + most_term_bytes
stored-term-near jobs key k {c} l h f d = omega (arith, d.place, term_line-short jobs key k (to_z w32 (of_z w32 c)) l (omega arith) (cast-wide tt f))

-- the letter, the kind and the job as they were worked out
pub stored-event : {out out' : List ℕ} {at at' letter kind job : ℕ} (jobs e : ℕ)
    → letter ≡ event_letter jobs e → kind ≡ event_kind e → job ≡ event_job jobs e
    → Stored out at (letter ∷ kind ∷ digits job) out' at' → Stored out at (event_bytes jobs e) out' at'
stored-event jobs e p q r d = rw (← p, ← q, ← r) d
