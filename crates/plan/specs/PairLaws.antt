-- The laws of pairs as numbers: one turn of the search (`is_in-stop`, `is_in-past`, `is_in-end`; with what was found before, `or-stop`, `or-end`), which a
-- slice's `contains` does (`is_in-any`), and that the numbers decide as the pairs do (`is_wrong_numbered-pair`) where every job's number is below 256; a pair
-- is judged test by test (`is_wrong_numbered-next`, `-same`, `-given`).
use Rattle.std.specs.Prelude.{◌≡◌, refl, Bool, true, false, ◌&&◌, ◌||◌, List, [], ◌∷◌, map, ℕ, ◌+◌, ◌*◌, ◌≤◌, ◌<◌, eqb, length, get_or, take, drop}
use Rattle.std.proofs.Common.{sym, arith, add-one, drop_of_length-le}
use borrow.Author.Tests.{eqb-true, eqb-false, eq-eqb, ne_eqb}
use Rattle.std.specs.List.{list_any}
use Rattle.std.proofs.Math.ListN.{length-take}
use Rattle.std.proofs.Math.Seq.{drop-cons, get_or-take}
use Rattle.plan.specs.declared.EventName.{EventName}
use Rattle.plan.specs.declared.Bound.{Bound}
use Rattle.plan.specs.EventNames.{same_event, is_next, event_number}
use Rattle.plan.specs.EventNameLaws.{event_number-fits, same_event-number}
use Rattle.plan.specs.PlanLines.{is_given, is_wrong_pair}
use Rattle.plan.specs.ListLaws.{All}
use Rattle.plan.specs.Pairs.{pair_number, pair_of, is_in, is_wrong_numbered}

-- ---- the search, among the first n numbers of a list

module _ (x : ℕ) (s : List ℕ) (n i : ℕ) (within : n ≤ length s) where
  pub is_in-stop : i < n → get_or s i 0 ≡ x → is_in x (drop i (take n s)) ≡ true
  unfolding is_in
  is_in-stop h e = rw (drop-cons (take n s) i 0 (simp length-take (omega arith)), get_or-take n s i 0 h, eq-eqb x (get_or s i 0) (sym e))

  pub is_in-past : i < n → (get_or s i 0 ≡ x → ⊥) → is_in x (drop i (take n s)) ≡ is_in x (drop (i + 1) (take n s))
  unfolding is_in
  is_in-past h d = rw (add-one, drop-cons (take n s) i 0 (simp length-take (omega arith)), get_or-take n s i 0 h, ne_eqb x (get_or s i 0) (λ e. d (sym e)))

  pub is_in-end : n ≤ i → is_in x (drop i (take n s)) ≡ false
  unfolding is_in
  is_in-end h = rw (drop_of_length-le (take n s) {i = i} (simp length-take (omega arith)))

pub or-stop : (found now rest : Bool) → now ≡ true → found || now ≡ true || rest
or-stop true now rest e = refl
or-stop false now rest e = e

pub or-end : (found now : Bool) → now ≡ false → found || now ≡ found
or-end true now e = refl
or-end false now e = e

-- ---- and as a slice's `contains` does it

same-back : (x y : ℕ) → eqb y x ≡ eqb x y
same-back x y = by_test (eqb x y) refl
  where
    by_test : (b : Bool) → eqb x y ≡ b → eqb y x ≡ b
    by_test true e = eq-eqb y x (sym (eqb-true x y e))
    by_test false e = ne_eqb y x (λ d. eqb-false x y e (sym d))

pub is_in-any : (x : ℕ) (s : List ℕ) → list_any (λ y. eqb y x) s ≡ is_in x s
unfolding is_in
is_in-any x [] = refl
is_in-any x (y ∷ s) = rw (is_in-any x s, same-back x y) refl

-- ---- pairs and their numbers

-- the job numbers of a bound fit a byte
pub record Small (a b : EventName) : Type 0 where
  pub a_small : a.job < 256
  pub b-small : b.job < 256

same_pair-number : (a b c d : EventName) → Small a b → Small c d → same_event a c && same_event b d ≡ eqb (pair_number a b) (pair_number c d)
same_pair-number a b c d h g =
    rw (same_event-number a c, same_event-number b d)
    (digits (event_number a) (event_number b) (event_number c) (event_number d) (event_number-fits b h.b-small) (event_number-fits d g.b-small))
  where
    digits : (x y z w : ℕ) → y < 1024 → w < 1024 → eqb x z && eqb y w ≡ eqb (x * 1024 + y) (z * 1024 + w)
    digits x y z w hy hw = by_tests (eqb x z) (eqb y w) refl refl
      where
        by_tests : (p q : Bool) → eqb x z ≡ p → eqb y w ≡ q → p && q ≡ eqb (x * 1024 + y) (z * 1024 + w)
        by_tests true true p q = sym (eq-eqb (x * 1024 + y) (z * 1024 + w) (omega (arith, eqb-true x z p, eqb-true y w q)))
        by_tests true false p q = sym (ne_eqb (x * 1024 + y) (z * 1024 + w) (λ e. eqb-false y w q (omega (arith, eqb-true x z p))))
        by_tests false t p q = sym (ne_eqb (x * 1024 + y) (z * 1024 + w) (λ e. eqb-false x z p (omega arith)))

is_given-number : (a b : EventName) (given : List Bound) → Small a b → All (λ d. Small d.a d.b) given
    → is_given a b given ≡ is_in (pair_number a b) (map pair_of given)
unfolding is_given is_in
is_given-number a b [] h hs = refl
is_given-number a b (d ∷ given) h hs = rw (same_pair-number a b d.a d.b h hs.0, is_given-number a b given h hs.1)

pub is_wrong_numbered-pair : (a b : EventName) (given : List Bound) → Small a b → All (λ d. Small d.a d.b) given
    → is_wrong_numbered (map pair_of given) a b ≡ is_wrong_pair a b given
unfolding is_wrong_numbered is_wrong_pair
is_wrong_numbered-pair a b given h hs = rw (is_given-number a b given h hs)

-- ---- the judgement of a pair, test by test

module _ (given : List ℕ) (a b : EventName) where
  pub is_wrong_numbered-next : is_next a.letter && is_next b.letter ≡ true → is_wrong_numbered given a b ≡ true
  unfolding is_wrong_numbered
  is_wrong_numbered-next h = rw h

  pub is_wrong_numbered-same : is_next a.letter && is_next b.letter ≡ false → event_number a ≡ event_number b → is_wrong_numbered given a b ≡ true
  unfolding is_wrong_numbered
  is_wrong_numbered-same h e = rw (h, same_event-number a b, eq-eqb (event_number a) (event_number b) e)

  pub is_wrong_numbered-given : is_next a.letter && is_next b.letter ≡ false → (event_number a ≡ event_number b → ⊥)
      → is_wrong_numbered given a b ≡ is_in (pair_number a b) given
  unfolding is_wrong_numbered
  is_wrong_numbered-given h d = rw (h, same_event-number a b, ne_eqb (event_number a) (event_number b) d)
