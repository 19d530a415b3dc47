-- Lists that are listed: their places (`get_d-listed`, `listed-past`), their length, and one more element (`listed_more`). A set of events made of a listed list
-- has the events that the list holds true (`has_event-listed`), a bit for each place (`event_set-listed-fits`), and with one place more one event more, or none
-- (`event_set-listed`). What stands in a table that was built: `at (build k f) y z` is f y z below k, and nothing past it. What two tests joined say of each. A
-- test of `any_below` that holds, holds somewhere; one that does not, holds nowhere. Events and nodes are one to one, and a node is the origin, a start or a
-- finish (`by_node`); past the first it is not the origin (`not-origin`).
use Rattle.std.specs.Prelude.{ℕ, zero, suc, ◌+◌, ◌*◌, ◌/◌, ◌%◌, ◌^◌, ◌≤◌, ◌<◌, ◌≡◌, refl, ◌⊎◌, Bool, true, false, cond, ◌&&◌, ◌||◌, List, [], ◌∷◌, ◌++◌, eqb, ltb, length, get_or}
use Rattle.std.proofs.Common.{ap, subst, ◌∙◌, inl, inr, ⊎_elim, add-one, arith, eq-eqb, ne_eqb, ltb-true, ltb-false}
use Rattle.whole.specs.Clash.{clash}
use Rattle.events.specs.Bits.{has_event, event_set, with_if}
use Rattle.events.specs.BitsLaws.{has_event-set, event_set-fits, event_set-more}
use Rattle.bounds.specs.declared.Event.{Event}
use Rattle.bounds.specs.declared.Event.TheVariants.{Origin, Start, Finish}
use Rattle.bounds.specs.Events.{start_node, finish_node, node_of, event_of}
use Rattle.bounds.specs.Tables.{Cell, off, at, listed, build, any_below}

-- ---- lists that are listed

pub get_d-listed : {A : Type 0} (k : ℕ) (f : ℕ → A) (i : ℕ) (d : A) → i < k → get_or (listed k f) i d ≡ f i
unfolding listed
get_d-listed zero f i d h = absurd (omega arith)
get_d-listed (suc k) f zero d h = refl
get_d-listed (suc k) f (suc i) d h = get_d-listed k (λ i. f (suc i)) i d (omega arith)

pub length-listed : {A : Type 0} (k : ℕ) (f : ℕ → A) → length (listed k f) ≡ k
unfolding listed
length-listed zero f = refl
length-listed (suc k) f = ap suc (length-listed k (λ i. f (suc i)))

listed-past : {A : Type 0} (k : ℕ) (f : ℕ → A) (i : ℕ) (d : A) → k ≤ i → get_or (listed k f) i d ≡ d
unfolding listed
listed-past zero f i d h = refl
listed-past (suc k) f zero d h = absurd (omega arith)
listed-past (suc k) f (suc i) d h = listed-past k (λ i. f (suc i)) i d (omega arith)

pub listed_nil : {A : Type 0} (f : ℕ → A) → [] ≡ listed 0 f
unfolding listed
listed_nil f = refl

pub listed_more : {A : Type 0} (k : ℕ) (f : ℕ → A) → listed (suc k) f ≡ listed k f ++ (f k ∷ [])
unfolding listed
listed_more zero f = refl
listed_more {A} (suc k) f = ap (λ (xs : List A). f 0 ∷ xs) (listed_more k (λ i. f (suc i)))

-- ---- sets of events that are listed

module _ (k : ℕ) (f : ℕ → Bool) where
  pub has_event-listed : (e : ℕ) → e < k → has_event e (event_set (listed k f)) ≡ f e
  has_event-listed e h = has_event-set (listed k f) e ∙ get_d-listed k f e false h

  pub event_set-listed : event_set (listed (k + 1) f) ≡ with_if (f k) k (event_set (listed k f))
  event_set-listed =
      ap (λ (n : ℕ). event_set (listed n f)) (add-one k) ∙ ap event_set (listed_more k f) ∙ event_set-more (listed k f) (f k)
      ∙ ap (λ (n : ℕ). with_if (f k) n (event_set (listed k f))) (length-listed k f)

  pub event_set-listed-fits : event_set (listed k f) < 2 ^ k
  event_set-listed-fits = rw (length-listed k f) at (event_set-fits (listed k f))

-- ---- tables that are built

pub at-build : (k : ℕ) (f : ℕ → ℕ → Cell) (y z : ℕ) → y < k → z < k → at (build k f) y z ≡ f y z
unfolding at
at-build k f y z p q = ap (λ row. get_or row z off) (get_d-listed k (λ y. listed k (λ z. f y z)) y [] p) ∙ get_d-listed k (λ z. f y z) z off q

at-build-right : (k : ℕ) (f : ℕ → ℕ → Cell) (y z : ℕ) → y < k → k ≤ z → at (build k f) y z ≡ off
unfolding at
at-build-right k f y z p q =
    ap (λ row. get_or row z off) (get_d-listed k (λ y. listed k (λ z. f y z)) y [] p) ∙ listed-past k (λ z. f y z) z off q

at-build-below : (k : ℕ) (f : ℕ → ℕ → Cell) (y z : ℕ) → k ≤ y → at (build k f) y z ≡ off
unfolding at
at-build-below k f y z p = ap (λ row. get_or row z off) (listed-past k (λ y. listed k (λ z. f y z)) y [] p)

past-at : (k : ℕ) (f : ℕ → ℕ → Cell) (y z : ℕ) (b : Bool) → ltb y k ≡ b → (k ≤ y) ⊎ (k ≤ z) → at (build k f) y z ≡ off
past-at k f y z b e (inl h) = at-build-below k f y z h
past-at k f y z true e (inr h) = at-build-right k f y z (ltb-true y k e) h
past-at k f y z false e (inr h) = at-build-below k f y z (ltb-false y k e)

pub at-build-past : (k : ℕ) (f : ℕ → ℕ → Cell) (y z : ℕ) → (k ≤ y) ⊎ (k ≤ z) → at (build k f) y z ≡ off
at-build-past k f y z h = past-at k f y z (ltb y k) refl h

-- ---- tests

pub both_true : (b c : Bool) → b && c ≡ true → (b ≡ true) × (c ≡ true)
both_true true c h = (refl, h)
both_true false c h = clash (cc)

pub either_true : (b c : Bool) → b || c ≡ true → (b ≡ true) ⊎ (c ≡ true)
either_true true c h = inl refl
either_true false c h = inr h

pub neither-true : (b c : Bool) → b || c ≡ false → (b ≡ false) × (c ≡ false)
neither-true true c h = clash (cc)
neither-true false c h = (refl, h)

pub any_below-some : (k : ℕ) (f : ℕ → Bool) → any_below k f ≡ true → (i : ℕ) × (i < k) × (f i ≡ true)
unfolding any_below
any_below-some zero f h = clash (cc)
any_below-some (suc k) f h =
    ⊎_elim (λ e. (0, omega arith, e))
    (λ e. let r = any_below-some k (λ i. f (suc i)) e in (suc r.0, omega arith, r.2))
    (either_true (f 0) (any_below k (λ i. f (suc i))) h)

pub any_below-none : (k : ℕ) (f : ℕ → Bool) → any_below k f ≡ false → (i : ℕ) → i < k → f i ≡ false
unfolding any_below
any_below-none zero f h i p = absurd (omega arith)
any_below-none (suc k) f h zero p = (neither-true (f 0) (any_below k (λ i. f (suc i))) h).0
any_below-none (suc k) f h (suc i) p =
    any_below-none k (λ i. f (suc i)) (neither-true (f 0) (any_below k (λ i. f (suc i))) h).1 i (omega arith)

-- ---- events and nodes

event-start : (k m : ℕ) → m ≡ 2 * k → cond (eqb (m % 2) 0) (Start (m / 2)) (Finish (m / 2)) ≡ Start k
event-start k m e =
    let even : m % 2 ≡ 0 = omega arith in
    let half : m / 2 ≡ k = omega arith in
    rw (eq-eqb (m % 2) 0 even, half)

event-finish : (k m : ℕ) → m ≡ 1 + 2 * k → cond (eqb (m % 2) 0) (Start (m / 2)) (Finish (m / 2)) ≡ Finish k
event-finish k m e =
    let odd : m % 2 ≡ 0 → ⊥ = omega arith in
    let half : m / 2 ≡ k = omega arith in
    rw (ne_eqb (m % 2) 0 odd, half)

pub event_of-start : (k : ℕ) → event_of (start_node k) ≡ Start k
unfolding event_of
event_of-start k = ap event_of (suc-of (2 * k)) ∙ event-start k (2 * k) refl
  where
    suc-of : (m : ℕ) → 1 + m ≡ suc m
    suc-of m = omega arith

pub event_of-finish : (k : ℕ) → event_of (finish_node k) ≡ Finish k
unfolding event_of
event_of-finish k = ap event_of (suc-of (2 * k)) ∙ event-finish k (1 + 2 * k) refl
  where
    suc-of : (m : ℕ) → 2 + m ≡ suc (1 + m)
    suc-of m = omega arith

pub event_of-node_of : (e : Event) → event_of (node_of e) ≡ e
unfolding node_of event_of
event_of-node_of Origin = refl
event_of-node_of (Start k) = event_of-start k
event_of-node_of (Finish k) = event_of-finish k

-- a node is the origin, a start or a finish
by_node-after : (P : ℕ → Type 0) (m r : ℕ) → r < 2 → m % 2 ≡ r → ((k : ℕ) → P (start_node k)) → ((k : ℕ) → P (finish_node k)) → P (suc m)
by_node-after P m zero p e s f = let h : start_node (m / 2) ≡ suc m = omega arith in subst P h (s (m / 2))
by_node-after P m (suc zero) p e s f = let h : finish_node (m / 2) ≡ suc m = omega arith in subst P h (f (m / 2))
by_node-after P m (suc (suc r)) p e s f = absurd (omega arith)

pub by_node : (P : ℕ → Type 0) → P 0 → ((k : ℕ) → P (start_node k)) → ((k : ℕ) → P (finish_node k)) → (y : ℕ) → P y
by_node P o s f zero = o
by_node P o s f (suc m) = by_node-after P m (m % 2) (omega arith) refl s f

-- a node past the first is no origin
pub not-origin : (y : ℕ) → 0 < y → event_of y ≡ Origin → ⊥
not-origin =
    by_node (λ y. 0 < y → event_of y ≡ Origin → ⊥) (λ h. absurd (omega arith))
    (λ k h e. let g = event_of-start k in clash (cc))
    (λ k h e. let g = event_of-finish k in clash (cc))
