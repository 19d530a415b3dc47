-- What makes a judged set: a contradiction at one pair, or no contradiction and a kept cell at every pair. Two tables with the same cells are
-- the same. And small laws of cells.
use Rattle.std.specs.Prelude.{ℕ, zero, suc, ◌<◌, ◌≡◌, refl, Bool, false, ◌||◌, ◌∷◌, ℤ, ◌+ℤ◌}
use Rattle.std.proofs.Math.Path.{sym, ap}
use Rattle.std.proofs.Common.{ap₂, ◌∙◌, arith}
use Rattle.std.proofs.Math.Bool.{true, cond}
use Rattle.whole.specs.Clash.{clash}
use Rattle.whole.specs.Rules.{wholes}
use Rattle.plan.specs.declared.Plan.{Plan}
use Rattle.bounds.specs.declared.Judgement.{Judgement}
use Rattle.bounds.specs.declared.Judgement.TheVariants.{Contradiction, LeftOut, Kept}
use Rattle.bounds.specs.Events.{event_of}
use Rattle.bounds.specs.Judgements.{judged}
use Rattle.bounds.specs.Tables.{
  Cell,
  off,
  upto,
  lesser_cell,
  plus,
  join,
  Rows,
  at,
  listed,
  build,
  any_below,
  judgement,
  is_contradiction,
  kept_cell,
  contradiction,
  bounds,
  contradicts,
  kept_rows,
  judged_rows,
  judged_set,
}
use Rattle.bounds.specs.BuildLaws.{at-build, any_below-none}

-- ---- cells

pub lesser_cell-off : (c : Cell) → lesser_cell c off ≡ c
unfolding lesser_cell
lesser_cell-off off = refl
lesser_cell-off (upto w) = refl

pub off-least : (d : Cell) → lesser_cell off d ≡ d
unfolding lesser_cell
off-least d = refl

pub plus-off : (a : ℤ) → plus off a ≡ off
unfolding plus
plus-off a = refl

pub join-off : (d : Cell) → join off d ≡ off
unfolding join
join-off d = refl

pub join-plus : (w : ℤ) (d : Cell) → join (upto w) d ≡ plus d w
unfolding join plus
join-plus w off = refl
join-plus w (upto v) = ap upto (sum_comm w v)
  where
    sum_comm : (w v : ℤ) → w +ℤ v ≡ v +ℤ w
    sum_comm w v = omega wholes

-- ---- tests, lists and tables

any_below-one : (k : ℕ) (f : ℕ → Bool) (i : ℕ) → i < k → f i ≡ true → any_below k f ≡ true
unfolding any_below
any_below-one zero f i h e = absurd (omega arith)
any_below-one (suc k) f zero h e = rw e
any_below-one (suc k) f (suc i) h e = or_right (f 0) (any_below-one k (λ i. f (suc i)) i (omega arith) e)
  where
    or_right : (b : Bool) {c : Bool} → c ≡ true → b || c ≡ true
    or_right true e = refl
    or_right false e = e

pub any_below-no : (k : ℕ) (f : ℕ → Bool) → ((i : ℕ) → i < k → f i ≡ false) → any_below k f ≡ false
unfolding any_below
any_below-no zero f h = refl
any_below-no (suc k) f h = or-both (h 0 (omega arith)) (any_below-no k (λ i. f (suc i)) (λ i l. h (suc i) (omega arith)))
  where
    or-both : {b c : Bool} → b ≡ false → c ≡ false → b || c ≡ false
    or-both d e = rw (d, e)

pub any_below-ext : (k : ℕ) (f g : ℕ → Bool) → ((i : ℕ) → i < k → f i ≡ g i) → any_below k f ≡ any_below k g
unfolding any_below
any_below-ext zero f g h = refl
any_below-ext (suc k) f g h = ap₂ ◌||◌ (h 0 (omega arith)) (any_below-ext k (λ i. f (suc i)) (λ i. g (suc i)) (λ i l. h (suc i) (omega arith)))

pub listed-ext : {A : Type 0} (k : ℕ) (f g : ℕ → A) → ((i : ℕ) → i < k → f i ≡ g i) → listed k f ≡ listed k g
unfolding listed
listed-ext zero f g h = refl
listed-ext (suc k) f g h = ap₂ ◌∷◌ (h 0 (omega arith)) (listed-ext k (λ i. f (suc i)) (λ i. g (suc i)) (λ i l. h (suc i) (omega arith)))

pub build-ext : (k : ℕ) (f g : ℕ → ℕ → Cell) → ((y z : ℕ) → y < k → z < k → f y z ≡ g y z) → build k f ≡ build k g
build-ext k f g h = listed-ext k _ _ (λ y a. listed-ext k _ _ (λ z b. h y z a b))

-- ---- judged cells

-- d is what the judgement leaves of the cell c of (y, z), and c is not a contradiction
pub record JudgedCell (p : Plan) (y z : ℕ) (c d : Cell) : Type 0 where
  pub sound : is_contradiction (judgement p y z c) ≡ false
  pub left : d ≡ kept_cell (judgement p y z c) c

-- a cell that was judged before: every bound in it is kept
pub record KeptCell (p : Plan) (y z : ℕ) (c : Cell) : Type 0 where
  pub kept : (w : ℤ) → c ≡ upto w → judged p (event_of y) (event_of z) w ≡ Kept

pub judged-again : (p : Plan) (y z : ℕ) (c : Cell) → KeptCell p y z c → JudgedCell p y z c c
unfolding judgement
judged-again p y z off k = record { sound = refl; left = refl }
judged-again p y z (upto w) k = record { sound = rw (k.kept w refl); left = rw (k.kept w refl) }

kept-only : (j : Judgement) (c : Cell) (w : ℤ) → kept_cell j c ≡ upto w → (j ≡ Kept) × (c ≡ upto w)
kept-only Contradiction c w e = clash (cc)
kept-only LeftOut c w e = clash (cc)
kept-only Kept c w e = (refl, e)

kept_of : (p : Plan) (y z : ℕ) (c : Cell) (w : ℤ) → kept_cell (judgement p y z c) c ≡ upto w → judged p (event_of y) (event_of z) w ≡ Kept
unfolding judgement
kept_of p y z off w e = clash (cc)
kept_of p y z (upto v) w e =
    let r = kept-only (judged p (event_of y) (event_of z) v) (upto v) w e in
    let same : v ≡ w = let q = r.1 in cc in
    ap (judged p (event_of y) (event_of z)) (sym same) ∙ r.0

pub judged-kept : (p : Plan) (y z : ℕ) {c d : Cell} → JudgedCell p y z c d → KeptCell p y z d
judged-kept p y z {c} j = record { kept = λ w e. kept_of p y z c w (sym j.left ∙ e) }

-- ---- judged sets

-- some pair of nodes below k is a contradiction
pub record Contradicted (p : Plan) (k : ℕ) (f : ℕ → ℕ → Cell) : Type 0 where
  pub y : ℕ
  pub z : ℕ
  pub y-node : y < k
  pub z-node : z < k
  pub found : is_contradiction (judgement p y z (f y z)) ≡ true

module _ (p : Plan) (k : ℕ) (f : ℕ → ℕ → Cell) where
  pub judged_set-none : Contradicted p k f → judged_set p k f ≡ contradiction
  unfolding judged_set contradicts
  judged_set-none c =
      let bad : is_contradiction (judgement p c.y c.z (at (build k f) c.y c.z)) ≡ true
      = ap (λ d. is_contradiction (judgement p c.y c.z d)) (at-build k f c.y c.z c.y-node c.z-node) ∙ c.found in
      ap (λ b. cond b contradiction (bounds (kept_rows p k (build k f))))
      (any_below-one k _ c.y c.y-node (any_below-one k _ c.z c.z-node bad))

  pub judged_set-kept : (g : ℕ → ℕ → Cell) → ((y z : ℕ) → y < k → z < k → JudgedCell p y z (f y z) (g y z)) → judged_set p k f ≡ bounds (build k g)
  unfolding judged_set contradicts kept_rows
  judged_set-kept g h =
      let same : (y z : ℕ) → y < k → z < k → at (build k f) y z ≡ f y z = at-build k f in
      ap (λ b. cond b contradiction (bounds (kept_rows p k (build k f))))
      (any_below-no k _
      (λ y a. any_below-no k _ (λ z b. ap (λ d. is_contradiction (judgement p y z d)) (same y z a b) ∙ (h y z a b).sound)))
      ∙ ap bounds
      (build-ext k _ _ (λ y z a b. ap (λ d. kept_cell (judgement p y z d) d) (same y z a b) ∙ sym (h y z a b).left))

pub judged_set-ext : (p : Plan) (k : ℕ) (f g : ℕ → ℕ → Cell) → ((y z : ℕ) → y < k → z < k → f y z ≡ g y z) → judged_set p k f ≡ judged_set p k g
unfolding judged_set
judged_set-ext p k f g h = ap (judged_rows p k) (build-ext k f g h)

pub set_back : (b : Bool) (t u : Rows) → cond b contradiction (bounds t) ≡ bounds u → (b ≡ false) × (t ≡ u)
set_back true t u h = clash (cc)
set_back false t u h = (refl, cc)

-- what stands in a judged set
pub judged_set-back : (p : Plan) (k : ℕ) (f : ℕ → ℕ → Cell) (u : Rows) → judged_set p k f ≡ bounds u → (y z : ℕ) → y < k → z < k
    → JudgedCell p y z (f y z) (at u y z)
unfolding judged_set contradicts kept_rows
judged_set-back p k f u h y z a b =
    let both = set_back _ _ u h in
    let same = at-build k f y z a b in
    record {
      sound = rw same at (any_below-none k _ (any_below-none k _ both.0 y a) z b);
      left =
          ap (λ t. at t y z) (sym both.1)
          ∙ at-build k _ y z a b
          ∙ ap (λ c. kept_cell (judgement p y z c) c) same;
    }
