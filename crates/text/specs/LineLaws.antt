-- The laws of lines and keys.
-- The length to a byte: it is at most the whole length (`len_to-fits`), and the place of the first b (`len_to-position`); one turn of the search
-- (`len_to-stop`, `len_to-past`, `len_to-end`); a part without b is passed (`len_to-over`, `free-append`), so the parts of a line that was written are given
-- back (`before_back`, `has-back`, `after-back`); a text that has a b is what stands before it, the b, and what follows (`has_split`); a text without b is all before it (`has-false`, `has-free`, `before-free`).
-- Keys: a key that was written is given back (`after_key-back`), and only a text that begins with the key has something after it (`after_key-split`); one turn
-- of the comparison (`after_key-same`, `after_key-other`, `after_key-short`, `after_key-end`); the key is there exactly where as many bytes of the text are the key (`after_key-true`, `after_key-false`), which the test
-- `has_key` tells (`has_key-starts_with`, `has_key-true`, `has_key-false`).
-- The place after a line: it is in the text, or past its end (`behind_line-in`, `behind_line-past`); from a place of the text on it is the line's length and one
-- (`next_line-at`).
-- A part of a slice that goes to its end is what is left after its start (`drop-rest`).
-- That b does not stand in s is said as `len_to b s ≡ length s`.

use Rattle.std.specs.Prelude.{ℕ, suc, ◌+◌, ◌-◌, ◌≤◌, ◌<◌, ◌≡◌, refl, Bool, true, false, cond, ◌&&◌, List, [], ◌∷◌, ◌++◌, eqb, nat_lt, unwrap_or, Some, None, length, get_or, take, drop}
use Rattle.std.proofs.Common.{sym, ap, ◌∙◌, true≢false, zero-add, add-one, arith, length-append, length-drop, take_all, take_at, drop_at, drop-drop}
use Rattle.std.proofs.lemmas.Bool.{false≢true, eqb-false}
use Rattle.std.proofs.lemmas.List.Recursion.{is_position_or_len}
use Rattle.std.specs.List.{position, position_or_len}
use lib.Pointwise.{pointwise}
use Rattle.std.proofs.Math.Option.{Option, none, some}
use Rattle.std.proofs.Math.ListN.{drop_of_length-le}
use Rattle.std.proofs.Math.Seq.{drop-cons, take-length, split_at, drop-append_seam}
use borrow.Author.Tests.{eqb-true, eq-eqb, ne_eqb, lt-ltb, le-ltb, ltb-true, ltb-false}
use Rattle.whole.specs.Clash.{clash}
use Rattle.text.specs.Lines.{LF, len_to, before, has, after, behind_line, next_line, after_key, has_key, is_some}

-- ---- the length to a byte

len_to-same : (b : ℕ) {a : ℕ} (s : List ℕ) → a ≡ b → len_to b (a ∷ s) ≡ 0
unfolding len_to
len_to-same b {a} s e = rw (eq-eqb a b e)

pub len_to-other : (b : ℕ) {a : ℕ} (s : List ℕ) → (a ≡ b → ⊥) → len_to b (a ∷ s) ≡ suc (len_to b s)
unfolding len_to
len_to-other b {a} s d = rw (ne_eqb a b d)

pub len_to-stop : (b : ℕ) (s : List ℕ) (i : ℕ) → i < length s → get_or s i 0 ≡ b → len_to b (drop i s) ≡ 0
len_to-stop b s i h e = rw (drop-cons s i 0 h) (len_to-same b (drop (suc i) s) e)

pub len_to-past : (b : ℕ) (s : List ℕ) (i : ℕ) → i < length s → (get_or s i 0 ≡ b → ⊥) → len_to b (drop i s) ≡ suc (len_to b (drop (i + 1) s))
len_to-past b s i h d = rw (add-one, drop-cons s i 0 h) (len_to-other b (drop (suc i) s) d)

pub len_to-end : (b : ℕ) (s : List ℕ) (i : ℕ) → length s ≤ i → len_to b (drop i s) ≡ 0
unfolding len_to
len_to-end b s i h = rw (drop_of_length-le s h)

pub len_to-fits : (b : ℕ) (s : List ℕ) → len_to b s ≤ length s
unfolding len_to
len_to-fits b [] = omega arith
len_to-fits b (a ∷ s) = at_head (eqb a b) (len_to b s) (length s) (len_to-fits b s)
  where
    at_head : (t : Bool) (n m : ℕ) → n ≤ m → cond t 0 (suc n) ≤ suc m
    at_head true n m h = omega arith
    at_head false n m h = omega arith

-- as the code has it, which finds the place of the first b
pub len_to-position : (b : ℕ) (s : List ℕ) → unwrap_or (position (λ a. eqb a b) s) (length s) ≡ len_to b s
unfolding len_to
len_to-position b s = of (nat_lt n (length s)) refl ∙ sym is
  where
    n : ℕ
    n = position_or_len (λ a. eqb a b) s

    is : len_to b s ≡ n
    is = is_position_or_len (len_to b) (λ a. eqb a b) refl (λ a s. let e : suc (len_to b s) ≡ 1 + len_to b s = omega arith in ap (cond (eqb a b) 0) e) s

    of : (t : Bool) → nat_lt n (length s) ≡ t → unwrap_or (cond t (Some n) None) (length s) ≡ n
    of true e = refl
    of false e = omega (arith, is, len_to-fits b s, ltb-false n (length s) e)

-- a part without b is passed
len_to-over : (b : ℕ) (s t : List ℕ) → len_to b s ≡ length s → len_to b (s ++ t) ≡ length s + len_to b t
unfolding len_to
len_to-over b [] t e = sym (zero-add (len_to b t))
len_to-over b (a ∷ s) t e = at_head (eqb a b) (λ h. len_to-over b s t h) e
  where
    at_head : (q : Bool) → (len_to b s ≡ length s → len_to b (s ++ t) ≡ length s + len_to b t) → cond q 0 (suc (len_to b s)) ≡ suc (length s)
        → cond q 0 (suc (len_to b (s ++ t))) ≡ suc (length s) + len_to b t
    at_head true more e = absurd (omega arith)
    at_head false more e = omega (arith, more (omega arith))

len_to-append : (b : ℕ) (s t : List ℕ) → len_to b s ≡ length s → len_to b (s ++ (b ∷ t)) ≡ length s
len_to-append b s t e = omega (arith, len_to-over b s (b ∷ t) e, len_to-same b t refl)

pub free-append : (b : ℕ) (s t : List ℕ) → len_to b s ≡ length s → len_to b t ≡ length t → len_to b (s ++ t) ≡ length (s ++ t)
free-append b s t e d = omega (arith, len_to-over b s t e, length-append s t)

pub before_back : (b : ℕ) (s t : List ℕ) → len_to b s ≡ length s → before b (s ++ (b ∷ t)) ≡ s
before_back b s t e = take_at s (b ∷ t) (len_to b (s ++ (b ∷ t))) (sym (len_to-append b s t e))

pub has-back : (b : ℕ) (s t : List ℕ) → len_to b s ≡ length s → has b (s ++ (b ∷ t)) ≡ true
has-back b s t e = lt-ltb (len_to b (s ++ (b ∷ t))) (length (s ++ (b ∷ t))) (omega (arith, len_to-append b s t e, length-append s (b ∷ t)))

pub after-back : (b : ℕ) (s t : List ℕ) → len_to b s ≡ length s → after b (s ++ (b ∷ t)) ≡ t
after-back b s t e = rw (len_to-append b s t e, ← drop-drop 1 (length s) (s ++ (b ∷ t)), drop_at s (b ∷ t) (length s) refl)

len_to-found : (b : ℕ) (s : List ℕ) → len_to b s < length s → get_or s (len_to b s) 0 ≡ b
unfolding len_to
len_to-found b [] h = absurd (omega arith)
len_to-found b (a ∷ s) h = at_head (eqb a b) refl h (λ g. len_to-found b s g)
  where
    at_head : (t : Bool) → eqb a b ≡ t → cond t 0 (suc (len_to b s)) < suc (length s) → (len_to b s < length s → get_or s (len_to b s) 0 ≡ b)
        → get_or (a ∷ s) (cond t 0 (suc (len_to b s))) 0 ≡ b
    at_head true e h more = eqb-true a b e
    at_head false e h more = more (omega arith)

pub has_split : (b : ℕ) (s : List ℕ) → has b s ≡ true → s ≡ before b s ++ (b ∷ after b s)
has_split b s h =
    let found : len_to b s < length s = ltb-true (len_to b s) (length s) h in
    rw (add-one) (split_at s (len_to b s) 0 found ∙ ap (λ (a : ℕ). take (len_to b s) s ++ (a ∷ drop (suc (len_to b s)) s)) (len_to-found b s found))

has-false : (b : ℕ) (s : List ℕ) → has b s ≡ false → len_to b s ≡ length s
has-false b s h = omega (arith, ltb-false (len_to b s) (length s) h, len_to-fits b s)

has-free : (b : ℕ) (s : List ℕ) → len_to b s ≡ length s → has b s ≡ false
has-free b s e = le-ltb (len_to b s) (length s) (omega arith)

before-free : (b : ℕ) (s : List ℕ) → len_to b s ≡ length s → before b s ≡ s
before-free b s e = ap (λ (n : ℕ). take n s) e ∙ take-length s

-- ---- the place after a line

pub behind_line-in : (n at i : ℕ) → at + i ≤ n → behind_line n at i ≡ at + i + 1
behind_line-in n at i h = rw (le-ltb n (at + i) h)

pub behind_line-past : (n at i : ℕ) → n < at + i → behind_line n at i ≡ n + 1
behind_line-past n at i h = rw (lt-ltb n (at + i) h)

pub next_line-at : (s : List ℕ) (at : ℕ) → at ≤ length s → next_line s at ≡ at + len_to LF (drop at s) + 1
next_line-at s at h = behind_line-in (length s) at (len_to LF (drop at s)) (omega (arith, len_to-fits LF (drop at s), length-drop at s))

-- ---- keys

pub after_key-back : (key s : List ℕ) → after_key key (key ++ s) ≡ some s
unfolding after_key
after_key-back [] s = refl
after_key-back (k ∷ key) s = rw (eq-eqb k k refl) (after_key-back key s)

pub after_key-split : (key s t : List ℕ) → after_key key s ≡ some t → s ≡ key ++ t
unfolding after_key
after_key-split [] s t e = cc
after_key-split (k ∷ key) [] t e = clash (cc)
after_key-split (k ∷ key) (b ∷ s) t e = at_head (eqb b k) refl e (λ g. after_key-split key s t g)
  where
    at_head : (q : Bool) → eqb b k ≡ q → cond q (after_key key s) none ≡ some t → (after_key key s ≡ some t → s ≡ key ++ t) → b ∷ s ≡ k ∷ (key ++ t)
    at_head true q e more = cc (eqb-true b k q, more e)
    at_head false q e more = clash (cc)

module _ (key s : List ℕ) (i : ℕ) where
  pub after_key-same : i < length key → i < length s → get_or s i 0 ≡ get_or key i 0
      → after_key (drop i key) (drop i s) ≡ after_key (drop (i + 1) key) (drop (i + 1) s)
  unfolding after_key
  after_key-same h g e = rw (add-one, drop-cons key i 0 h, drop-cons s i 0 g, eq-eqb (get_or s i 0) (get_or key i 0) e)

  pub after_key-other : i < length key → i < length s → (get_or s i 0 ≡ get_or key i 0 → ⊥) → after_key (drop i key) (drop i s) ≡ none
  unfolding after_key
  after_key-other h g d = rw (drop-cons key i 0 h, drop-cons s i 0 g, ne_eqb (get_or s i 0) (get_or key i 0) d)

  pub after_key-short : i < length key → length s ≤ i → after_key (drop i key) (drop i s) ≡ none
  unfolding after_key
  after_key-short h g = rw (drop-cons key i 0 h, drop_of_length-le s g)

  pub after_key-end : length key ≤ i → after_key (drop i key) (drop i s) ≡ some (drop i s)
  unfolding after_key
  after_key-end h = rw (drop_of_length-le key h)

-- as the code has it, which compares the key with as many bytes of the line
pub has_key-starts_with : (key s : List ℕ) → pointwise eqb key (take (length key) s) ≡ has_key key s
unfolding after_key
has_key-starts_with [] s = refl
has_key-starts_with (k ∷ key) [] = refl
has_key-starts_with (k ∷ key) (b ∷ s) = of (eqb b k) refl (has_key-starts_with key s)
  where
    of : (q : Bool) → eqb b k ≡ q → pointwise eqb key (take (length key) s) ≡ has_key key s
        → (eqb k b && pointwise eqb key (take (length key) s)) ≡ is_some (cond q (after_key key s) none)
    of true e h = rw (eq-eqb k b (sym (eqb-true b k e))) h
    of false e h = rw (ne_eqb k b (λ d. eqb-false b k e (sym d)))

pub after_key-true : (key s : List ℕ) → pointwise eqb (take (length key) s) key ≡ true → after_key key s ≡ some (drop (length key) s)
unfolding after_key
after_key-true [] s h = refl
after_key-true (k ∷ key) [] h = absurd (false≢true h)
after_key-true (k ∷ key) (b ∷ s) h = of (eqb b k) (after_key-true key s) h
  where
    of : (q : Bool) → (pointwise eqb (take (length key) s) key ≡ true → after_key key s ≡ some (drop (length key) s)) → (q && pointwise eqb (take (length key) s) key) ≡ true → cond q (after_key key s) none ≡ some (drop (length key) s)
    of true more h = more h
    of false more h = absurd (false≢true h)

pub after_key-false : (key s : List ℕ) → pointwise eqb (take (length key) s) key ≡ false → after_key key s ≡ none
unfolding after_key
after_key-false [] s h = absurd (true≢false h)
after_key-false (k ∷ key) [] h = refl
after_key-false (k ∷ key) (b ∷ s) h = of (eqb b k) (after_key-false key s) h
  where
    of : (q : Bool) → (pointwise eqb (take (length key) s) key ≡ false → after_key key s ≡ none) → (q && pointwise eqb (take (length key) s) key) ≡ false → cond q (after_key key s) none ≡ none
    of true more h = more h
    of false more h = refl

-- what follows a key that is there
pub has_key-true : (key s : List ℕ) → has_key key s ≡ true → after_key key s ≡ some (drop (length key) s)
has_key-true key s h = of (after_key key s) refl h
  where
    of : (o : Option (List ℕ)) → after_key key s ≡ o → is_some o ≡ true → o ≡ some (drop (length key) s)
    of none e q = absurd (false≢true q)
    of (some t) e q = rw (after_key-split key s t e, drop-append_seam)

pub has_key-fits : (key s : List ℕ) → has_key key s ≡ true → length key ≤ length s
has_key-fits key s h =
    omega (arith, ap length (after_key-split key s (drop (length key) s) (has_key-true key s h)), length-append key (drop (length key) s))

pub has_key-false : (key s : List ℕ) → has_key key s ≡ false → after_key key s ≡ none
has_key-false key s h = of (after_key key s) h
  where
    of : (o : Option (List ℕ)) → is_some o ≡ false → o ≡ none
    of none q = refl
    of (some t) q = absurd (true≢false q)

-- ---- the rest of a slice, `&s[k..]`

pub drop-rest : (k : ℕ) (s : List ℕ) → take (length s - k) (drop k s) ≡ drop k s
drop-rest k s = take_all (length s - k) (drop k s) (omega (arith, length-drop k s))
