-- Two tables that the test for 'C(m) = C(m-1)' finds the same are equal, and a table is the same as itself. So two tables of arrays are the same
-- exactly if no weight differs.
use Rattle.std.specs.Prelude.{ℕ, zero, suc, ◌≤◌, ◌<◌, ◌≡◌, refl, Bool, true, false, ◌&&◌, List, [], ◌∷◌, ℤ, pos, get_or, length, take}
use Rattle.std.specs.Ordering.{int_eq}
use Rattle.std.proofs.Common.{sym, ap, ap₂, ◌∙◌, arith}
use Rattle.std.proofs.lemmas.Bool.Decides.{Decides-int_eq}
use lib.Pointwise.{pointwise}
use Rattle.whole.specs.Clash.{clash}
use Rattle.whole.specs.Split.{eq_z}
use Rattle.whole.specs.Order.{eq_z-true-iff}
use Rattle.bounds.specs.Tables.{Cell, off, upto, Rows, listed}
use Rattle.bounds.specs.BuildLaws.{both_true, get_d-listed}
use Rattle.bounds.specs.TablesLaws.{listed-ext}
use Rattle.bounds.specs.Flat.{no_bound_mark, cell_of}
use Rattle.bounds.specs.PutLaws.{cell_of-mark, cell_of-on}
use Rattle.rounds.specs.Rounds.{same_cell, same_row, same_rows}

same_cell-unique : (c d : Cell) → same_cell c d ≡ true → c ≡ d
unfolding same_cell
same_cell-unique off off h = refl
same_cell-unique off (upto v) h = clash (cc)
same_cell-unique (upto w) off h = clash (cc)
same_cell-unique (upto w) (upto v) h = ap upto ((eq_z-true-iff w v).0 h)

same_row-unique : (cs ds : List Cell) → same_row cs ds ≡ true → cs ≡ ds
unfolding same_row
same_row-unique [] [] h = refl
same_row-unique [] (d ∷ ds) h = clash (cc)
same_row-unique (c ∷ cs) [] h = clash (cc)
same_row-unique (c ∷ cs) (d ∷ ds) h =
    let r = both_true (same_cell c d) (same_row cs ds) h in
    ap₂ (λ c cs. c ∷ cs) (same_cell-unique c d r.0) (same_row-unique cs ds r.1)

pub same_rows-unique : (t u : Rows) → same_rows t u ≡ true → t ≡ u
unfolding same_rows
same_rows-unique [] [] h = refl
same_rows-unique [] (d ∷ ds) h = clash (cc)
same_rows-unique (c ∷ cs) [] h = clash (cc)
same_rows-unique (c ∷ cs) (d ∷ ds) h =
    let r = both_true (same_row c d) (same_rows cs ds) h in
    ap₂ (λ c cs. c ∷ cs) (same_row-unique c d r.0) (same_rows-unique cs ds r.1)

-- ---- a table is the same as itself

same_cell-self : (c : Cell) → same_cell c c ≡ true
unfolding same_cell
same_cell-self off = refl
same_cell-self (upto w) = (eq_z-true-iff w w).1 refl

same_row-self : (cs : List Cell) → same_row cs cs ≡ true
unfolding same_row
same_row-self [] = refl
same_row-self (c ∷ cs) = rw (same_cell-self c, same_row-self cs)

same_rows-self : (t : Rows) → same_rows t t ≡ true
unfolding same_rows
same_rows-self [] = refl
same_rows-self (c ∷ cs) = rw (same_row-self c, same_rows-self cs)

-- ---- rows and tables of arrays

-- two weights give one cell exactly if they are equal
cell_of-by : (w v : ℤ) (b : Bool) → eq_z w no_bound_mark ≡ b → (c : Bool) → eq_z v no_bound_mark ≡ c → cell_of w ≡ cell_of v → w ≡ v
cell_of-by w v true e true f h = let a = (eq_z-true-iff w no_bound_mark).0 e in let b = (eq_z-true-iff v no_bound_mark).0 f in a ∙ sym b
cell_of-by w v true e false f h = absurd (let a = sym (cell_of-mark w e) ∙ h ∙ cell_of-on v f in clash (cc))
cell_of-by w v false e true f h = absurd (let a = sym (cell_of-on w e) ∙ h ∙ cell_of-mark v f in clash (cc))
cell_of-by w v false e false f h = let a : upto w ≡ upto v = sym (cell_of-on w e) ∙ h ∙ cell_of-on v f in cc

pub cell_of-unique : (w v : ℤ) → cell_of w ≡ cell_of v → w ≡ v
cell_of-unique w v h = cell_of-by w v (eq_z w no_bound_mark) refl (eq_z v no_bound_mark) refl h

-- two weights are compared as their cells are
same_cell-of : (w v : ℤ) → int_eq w v ≡ same_cell (cell_of w) (cell_of v)
same_cell-of w v = by (int_eq w v) refl (same_cell (cell_of w) (cell_of v)) refl
  where
    by : (b : Bool) → int_eq w v ≡ b → (c : Bool) → same_cell (cell_of w) (cell_of v) ≡ c → b ≡ c
    by true e true h = refl
    by true e false h =
        absurd
        (let same = ap (λ v. same_cell (cell_of w) (cell_of v)) ((Decides-int_eq w v).0 e) in
        let self = sym (same_cell-self (cell_of w)) ∙ same ∙ h in
        clash (cc))
    by false e true h =
        absurd (let same = (Decides-int_eq w v).1 (cell_of-unique w v (same_cell-unique (cell_of w) (cell_of v) h)) in clash (cc))
    by false e false h = refl

-- two parts of arrays are compared as the rows of cells that they hold
pub same_row-of : (k : ℕ) (ws vs : List ℤ) → k ≤ length ws → k ≤ length vs
    → pointwise int_eq (take k ws) (take k vs)
    ≡ same_row (listed k (λ z. cell_of (get_or ws z (pos 0)))) (listed k (λ z. cell_of (get_or vs z (pos 0))))
unfolding listed same_row
same_row-of zero ws vs h l = refl
same_row-of (suc k) [] vs h l = absurd (omega arith)
same_row-of (suc k) (w ∷ ws) [] h l = absurd (omega arith)
same_row-of (suc k) (w ∷ ws) (v ∷ vs) h l = ap₂ ◌&&◌ (same_cell-of w v) (same_row-of k ws vs (omega arith) (omega arith))

module _ (k : ℕ) (f g : ℕ → Cell) where
  pub same_row-all : ((z : ℕ) → z < k → f z ≡ g z) → same_row (listed k f) (listed k g) ≡ true
  same_row-all h = ap (same_row (listed k f)) (sym (listed-ext k f g h)) ∙ same_row-self (listed k f)

  pub same_row-not : (z : ℕ) → z < k → (f z ≡ g z → ⊥) → same_row (listed k f) (listed k g) ≡ false
  same_row-not z l n = by (same_row (listed k f) (listed k g)) refl
    where
      by : (b : Bool) → same_row (listed k f) (listed k g) ≡ b → b ≡ false
      by true e =
          absurd
          (n
          (sym (get_d-listed k f z off l) ∙ ap (λ cs. get_or cs z off) (same_row-unique (listed k f) (listed k g) e) ∙ get_d-listed k g z off l))
      by false e = refl

module _ (k : ℕ) (f g : ℕ → List Cell) where
  pub same_rows-all : ((y : ℕ) → y < k → same_row (f y) (g y) ≡ true) → same_rows (listed k f) (listed k g) ≡ true
  same_rows-all h =
      ap (same_rows (listed k f)) (sym (listed-ext k f g (λ y l. same_row-unique (f y) (g y) (h y l)))) ∙ same_rows-self (listed k f)

  pub same_rows-not : (y : ℕ) → y < k → same_row (f y) (g y) ≡ false → same_rows (listed k f) (listed k g) ≡ false
  same_rows-not y l n = by (same_rows (listed k f) (listed k g)) refl
    where
      by : (b : Bool) → same_rows (listed k f) (listed k g) ≡ b → b ≡ false
      by true e =
          absurd
          (let same : f y ≡ g y
          = sym (get_d-listed k f y [] l) ∙ ap (λ cs. get_or cs y []) (same_rows-unique (listed k f) (listed k g) e) ∙ get_d-listed k g y [] l in
          let self : same_row (f y) (g y) ≡ true = ap (same_row (f y)) (sym same) ∙ same_row-self (f y) in
          clash (cc))
      by false e = refl
