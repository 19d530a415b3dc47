-- The next window's nodes: where a node goes and by how much it moves, case by case (`onto-origin`, `onto-event`, `shift_by-origin`, `shift_by-event`), and
-- what `on_next` then holds: between nodes of the next window or the origin the bounds of the set that was put there, moved (`on_next-onto`), and none at a
-- node of this window (`on_next-own`). Each node of two windows is of one kind or the other (`own-or-next`).
use Rattle.std.specs.Prelude.{ℕ, zero, suc, ◌+◌, ◌*◌, ◌-◌, ◌<◌, ◌≡◌, refl, ◌⊎◌, Bool, true, false, cond, ◌&&◌, eqb, leb, ℤ, pos, ◌-ℤ◌}
use Rattle.std.proofs.Common.{sym, ap, ◌∙◌, inl, inr, arith, eq-eqb, ne_eqb, le-leb, leb-false}
use Rattle.std.proofs.Math.Path.{ap₂}
use Rattle.std.proofs.Math.Bool.{or-true}
use Rattle.std.proofs.lemmas.Bool.{lt-leb}
use Rattle.plan.specs.declared.Plan.{Plan}
use Rattle.bounds.specs.Tables.{off, plus, Rows, at}
use Rattle.rounds.specs.Rounds.{own_nodes, is_own, shift_by, on_next}
use Rattle.rounds.specs.Next.{onto}

-- ---- one node

pub onto-origin : (jobs y : ℕ) → y ≡ 0 → 0 ≡ onto jobs y
unfolding onto
onto-origin jobs y e = rw (eq-eqb y 0 e)

pub onto-event : (jobs y : ℕ) → (y ≡ 0 → ⊥) → y + 2 * jobs ≡ onto jobs y
unfolding onto
onto-event jobs y n = rw (ne_eqb y 0 n)

pub shift_by-origin : (window : ℤ) (y : ℕ) → y ≡ 0 → pos 0 ≡ shift_by window y
shift_by-origin window y e = rw (eq-eqb y 0 e)

pub shift_by-event : (window : ℤ) (y : ℕ) → (y ≡ 0 → ⊥) → window ≡ shift_by window y
shift_by-event window y n = rw (ne_eqb y 0 n)

pub onto-below : (jobs y n : ℕ) → y + 2 * jobs < n → onto jobs y < n
unfolding onto
onto-below jobs y n h = by (eqb y 0)
  where
    by : (b : Bool) → cond b 0 (y + 2 * jobs) < n
    by true = omega arith
    by false = h

-- ---- the bounds of the next window

module _ (p : Plan) where
  pub onto-back : (y : ℕ) → onto p.jobs y - own_nodes p ≡ y
  onto-back zero = ap (λ n. n - own_nodes p) (sym (onto-origin p.jobs 0 refl)) ∙ none-less (own_nodes p)
    where
      none-less : (n : ℕ) → 0 - n ≡ 0
      none-less n = omega arith
  onto-back (suc y) = ap (λ n. n - own_nodes p) (sym (onto-event p.jobs (suc y) (λ e. omega arith))) ∙ past (suc y) (own_nodes p)
    where
      past : (y n : ℕ) → (y + n) - n ≡ y
      past y n = omega arith

  onto-not-own : (y : ℕ) → is_own p (onto p.jobs y) ≡ false
  onto-not-own zero = ap (is_own p) (sym (onto-origin p.jobs 0 refl))
  onto-not-own (suc y) =
      ap (is_own p) (sym (onto-event p.jobs (suc y) (λ e. omega arith)))
      ∙ ap₂ ◌&&◌ (le-leb 1 (suc y + own_nodes p) (omega arith)) (lt-leb (suc y + own_nodes p) (own_nodes p) (omega arith))

  shift-onto : (y : ℕ) → shift_by p.window (onto p.jobs y) ≡ shift_by p.window y
  shift-onto zero = ap (shift_by p.window) (sym (onto-origin p.jobs 0 refl))
  shift-onto (suc y) =
      sym (shift_by-event p.window (onto p.jobs (suc y)) (λ e. later (onto-event p.jobs (suc y) (λ e. omega arith)) e))
      ∙ shift_by-event p.window (suc y) (λ e. omega arith)
    where
      later : {n : ℕ} → suc y + own_nodes p ≡ n → n ≡ 0 → ⊥
      later e f = omega arith

  pub on_next-onto : (t : Rows) (y z : ℕ) → on_next p t (onto p.jobs y) (onto p.jobs z) ≡ plus (at t y z) (shift_by p.window z -ℤ shift_by p.window y)
  unfolding on_next
  on_next-onto t y z =
      rw (onto-not-own y, onto-not-own z)
      (ap₂ (λ a b. plus (at t a b) (shift_by p.window (onto p.jobs z) -ℤ shift_by p.window (onto p.jobs y))) (onto-back y) (onto-back z)
      ∙ ap₂ (λ a b. plus (at t y z) (a -ℤ b)) (shift-onto z) (shift-onto y))

  pub on_next-own : (t : Rows) (y z : ℕ) → (is_own p y ≡ true) ⊎ (is_own p z ≡ true) → on_next p t y z ≡ off
  unfolding on_next
  on_next-own t y z (inl h) = rw h
  on_next-own t y z (inr h) = rw (h, or-true (is_own p y))

  -- a node of two windows is one of this window's, or one of the next window's or the origin
  pub own-or-next : (y : ℕ) → (is_own p y ≡ true) ⊎ (y ≡ onto p.jobs (y - own_nodes p))
  own-or-next zero = let none : 0 - own_nodes p ≡ 0 = omega arith in inr (onto-origin p.jobs (0 - own_nodes p) none)
  own-or-next (suc y) = by (leb (suc y) (own_nodes p)) refl
    where
      by : (b : Bool) → leb (suc y) (own_nodes p) ≡ b → (is_own p (suc y) ≡ true) ⊎ (suc y ≡ onto p.jobs (suc y - own_nodes p))
      by true e = inl (rw (le-leb 1 (suc y) (omega arith), e))
      by false e =
          let above : own_nodes p < suc y = leb-false (suc y) (own_nodes p) e in
          let past : suc y ≡ (suc y - own_nodes p) + own_nodes p = omega arith in
          inr (past ∙ onto-event p.jobs (suc y - own_nodes p) (λ q. omega arith))
