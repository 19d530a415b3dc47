-- The laws of what is recorded for a start.
-- Lists: one more store (`sets_more`).
-- Cells: the c of the mark is 0 (`c_on-mark`), and of a bound it is the weight on its side (`c_on-below`, `c_on-above`); the weight on a side is read in the
-- start's row or in its column (`weight_on-below`, `weight_on-above`). One turn of the walk over the events: `events_on-more` and `cs_on-more`. In a fit table the
-- weights lie in range (`weight_on-fits`, `origin-fits`), the c are `least_cs` and `most_cs` (`cs_on-least`, `cs_on-most`), and the terms are `terms_of`
-- (`terms_of-is`, `terms_of-weights`).
use Rattle.std.specs.Prelude.{ℕ, suc, ◌+◌, ◌*◌, ◌<◌, refl, Bool, true, false, not, List, [], ◌∷◌, ◌++◌, ℤ, pos, ◌-ℤ◌, length, set}
use Rattle.std.proofs.Math.Path.{◌≡◌, ap, ap₂}
use Rattle.std.proofs.Common.{sym, subst, ◌∙◌, add-zero, add-one, arith}
use Rattle.std.proofs.Math.IntN.{neg_ℤ}
use Rattle.std.proofs.lemmas.List.Edits.{sets}
use Rattle.whole.specs.Clash.{clash}
use Rattle.whole.specs.Split.{eq_z}
use Rattle.clock.specs.declared.WindowTime.{WindowTime}
use Rattle.plan.specs.declared.Plan.{Plan}
use Rattle.plan.specs.Accepted.{Accepted}
use Rattle.bounds.specs.Events.{start_node}
use Rattle.bounds.specs.Tables.{Cell, upto, Rows, at, listed}
use Rattle.bounds.specs.Flat.{no_bound_mark, is_bound, weight_at, cell_of, cell_at, rows_of, WeightInRange}
use Rattle.bounds.specs.Held.{JudgedTable, CellAtMost}
use Rattle.bounds.specs.BuildLaws.{length-listed, listed_more, event_set-listed, at-build}
use Rattle.bounds.specs.TablesLaws.{listed-ext}
use Rattle.bounds.specs.PutLaws.{cell_of-mark, cell_of-on}
use Rattle.bounds.specs.JudgedTableLaws.{judged-table-weights}
use Rattle.events.specs.declared.Events.{Events}
use Rattle.calendars.specs.declared.Terms.{Terms}
use Rattle.calendars.specs.declared.Side.{Side}
use Rattle.calendars.specs.declared.Side.TheVariants.{Below, Above}
use Rattle.events.specs.Bits.{bits_of, events_of, event_set, with_if}
use Rattle.events.specs.BitsLaws.{events_of-bits}
use Rattle.calendars.specs.Calendars.{is_on, weight, from_below, from_above, events_before, terms_of, least_cs, most_cs}
use Rattle.calendars.specs.Recorded.{weight_on, c_on, is_on_side, c_on_side, events_on, cs_on}

-- ---- lists

sets_more : {A : Type 0} (l : List A) (i : ℕ) (xs : List A) (a : A) → sets l i (xs ++ (a ∷ [])) ≡ set (sets l i xs) (i + length xs) a
sets_more l i [] a = ap (λ (k : ℕ). set l k a) (sym (add-zero i))
sets_more l i (x ∷ xs) a =
    let place : suc i + length xs ≡ i + suc (length xs) = omega arith in
    sets_more (set l i x) (suc i) xs a ∙ ap (λ (k : ℕ). set (sets (set l i x) (suc i) xs) k a) place

-- ---- cells

pub c_on-mark : (side : Side) (w : ℤ) → eq_z w no_bound_mark ≡ true → pos 0 ≡ c_on side (cell_of w)
c_on-mark Below w e = sym (ap (c_on Below) (cell_of-mark w e))
c_on-mark Above w e = sym (ap (c_on Above) (cell_of-mark w e))

pub c_on-below : (side : Side) (w : ℤ) → side ≡ Below → eq_z w no_bound_mark ≡ false → neg_ℤ w ≡ c_on side (cell_of w)
c_on-below side w s e = sym (ap (λ (s : Side). c_on s (cell_of w)) s ∙ ap (c_on Below) (cell_of-on w e))

pub c_on-above : (side : Side) (w : ℤ) → side ≡ Above → eq_z w no_bound_mark ≡ false → w ≡ c_on side (cell_of w)
c_on-above side w s e = sym (ap (λ (s : Side). c_on s (cell_of w)) s ∙ ap (c_on Above) (cell_of-on w e))

pub weight_on-below : (side : Side) (ws : List ℤ) (s e : ℕ) → side ≡ Below → weight_at ws s (e + 1) ≡ weight_on side ws s e
weight_on-below side ws s e h = ap (weight_at ws s) (add-one e) ∙ sym (ap (λ (side : Side). weight_on side ws s e) h)

pub weight_on-above : (side : Side) (ws : List ℤ) (s e : ℕ) → side ≡ Above → weight_at ws (e + 1) s ≡ weight_on side ws s e
weight_on-above side ws s e h = ap (λ (y : ℕ). weight_at ws y s) (add-one e) ∙ sym (ap (λ (side : Side). weight_on side ws s e) h)

-- ---- one turn of the walk over the events

is_on-read : (w : ℤ) (b : Bool) → eq_z w no_bound_mark ≡ b → not b ≡ is_on (cell_of w)
is_on-read w true e = sym (ap is_on (cell_of-mark w e))
is_on-read w false e = sym (ap is_on (cell_of-on w e))

sets-listed : (cs : List ℤ) (row e : ℕ) (f : ℕ → ℤ) → sets cs row (listed (e + 1) f) ≡ set (sets cs row (listed e f)) (row + e) (f e)
sets-listed cs row e f =
    ap (λ (k : ℕ). sets cs row (listed k f)) (add-one e) ∙ ap (sets cs row) (listed_more e f) ∙ sets_more cs row (listed e f) (f e)
    ∙ ap (λ (k : ℕ). set (sets cs row (listed e f)) (row + k) (f e)) (length-listed e f)

module _ (side : Side) (ws : List ℤ) (count e : ℕ) (w : ℤ) (read : w ≡ weight_on side ws (suc count) e) where
  pub events_on-more : (s r : ℕ) → s ≡ event_set (listed e (is_on_side side ws count)) → r ≡ with_if (is_bound w) e s
      → r ≡ event_set (listed (e + 1) (is_on_side side ws count))
  events_on-more s r h did =
      did ∙ ap₂ (λ (b : Bool) (s : ℕ). with_if b e s) (is_on-read w (eq_z w no_bound_mark) refl ∙ ap (λ (w : ℤ). is_on (cell_of w)) read) h
      ∙ sym (event_set-listed e (is_on_side side ws count))

  pub cs_on-more : (cs us : List ℤ) (row : ℕ) (c : ℤ) → us ≡ sets cs row (listed e (c_on_side side ws count)) → c ≡ c_on side (cell_of w)
      → set us (row + e) c ≡ sets cs row (listed (e + 1) (c_on_side side ws count))
  cs_on-more cs us row c h did =
      ap₂ (λ (us : List ℤ) (c : ℤ). set us (row + e) c) h (did ∙ ap (λ (w : ℤ). c_on side (cell_of w)) read)
      ∙ sym (sets-listed cs row e (c_on_side side ws count))

-- ---- the terms of a start, from the table whose last node it is

-- a cell with a bound has that bound's weight
held-weight : (w : ℤ) (b : Bool) → eq_z w no_bound_mark ≡ b → (v : ℤ) → cell_of w ≡ upto v → weight (cell_of w) ≡ w
held-weight w true e v h = absurd (let none = cell_of-mark w e in clash (cc))
held-weight w false e v h = ap weight (cell_of-on w e)

module _ (p : Plan) (a : Accepted p) (i : ℕ) (job : i < p.jobs) (ws : List ℤ)
    (fit : JudgedTable p (suc (start_node (p.jobs + i))) (rows_of (suc (start_node (p.jobs + i))) ws)) where
  abbrev s : ℕ
  s = start_node (p.jobs + i)

  abbrev count : ℕ
  count = 2 * (p.jobs + i)

  abbrev t : Rows
  t = rows_of (suc s) ws

  start-last : suc count ≡ s
  start-last = omega arith

  pub weight_on-fits : (side : Side) (e : ℕ) → e < count → WeightInRange (weight_on side ws (suc count) e)
  weight_on-fits Below e h =
      subst (λ (s : ℕ). WeightInRange (weight_at ws s (suc e))) (sym start-last)
      (judged-table-weights p (suc s) ws fit a (omega arith) s (suc e) (omega arith) (omega arith))
  weight_on-fits Above e h =
      subst (λ (s : ℕ). WeightInRange (weight_at ws (suc e) s)) (sym start-last)
      (judged-table-weights p (suc s) ws fit a (omega arith) (suc e) s (omega arith) (omega arith))

  cell_below : (e : ℕ) → e < count → cell_of (weight_on Below ws (suc count) e) ≡ from_below t s e
  cell_below e h = ap (λ (s : ℕ). cell_at ws s (suc e)) start-last ∙ sym (at-build (suc s) (cell_at ws) s (suc e) (omega arith) (omega arith))

  cell-above : (e : ℕ) → e < count → cell_of (weight_on Above ws (suc count) e) ≡ from_above t s e
  cell-above e h = ap (λ (s : ℕ). cell_at ws (suc e) s) start-last ∙ sym (at-build (suc s) (cell_at ws) (suc e) s (omega arith) (omega arith))

  pub cs_on-least : cs_on Below ws count ≡ least_cs p i t
  unfolding least_cs
  cs_on-least = listed-ext count (c_on_side Below ws count) (λ e. neg_ℤ (weight (from_below t s e))) (λ e h. ap (c_on Below) (cell_below e h))

  pub cs_on-most : cs_on Above ws count ≡ most_cs p i t
  unfolding most_cs
  cs_on-most = listed-ext count (c_on_side Above ws count) (λ e. weight (from_above t s e)) (λ e h. ap (c_on Above) (cell-above e h))

  events-below : events_on Below ws count ≡ event_set (listed (events_before p i) (λ e. is_on (from_below t s e)))
  events-below = ap event_set (listed-ext count (is_on_side Below ws count) (λ e. is_on (from_below t s e)) (λ e h. ap is_on (cell_below e h)))

  events-above : events_on Above ws count ≡ event_set (listed (events_before p i) (λ e. is_on (from_above t s e)))
  events-above = ap event_set (listed-ext count (is_on_side Above ws count) (λ e. is_on (from_above t s e)) (λ e h. ap is_on (cell-above e h)))

  -- the origin's two bounds
  pub origin-fits : (y z : ℕ) → y < suc s → z < suc s → WeightInRange (weight_at ws y z)
  origin-fits y z h l = judged-table-weights p (suc s) ws fit a (omega arith) y z h l

  pub terms_of-is : (low high : WindowTime) (below above : Events)
      → low.0 ≡ c_on Below (cell_at ws s 0) -ℤ p.window
      → high.0 ≡ c_on Above (cell_at ws 0 s) -ℤ p.window
      → bits_of below ≡ events_on Below ws count
      → bits_of above ≡ events_on Above ws count
      → ◌≡◌ {A = Terms} (record { low = low; high = high; below = below; above = above }) (terms_of p i t)
  unfolding terms_of
  terms_of-is low high below above l h b u =
      let first = sym (at-build (suc s) (cell_at ws) s 0 (omega arith) (omega arith)) in
      let last = sym (at-build (suc s) (cell_at ws) 0 s (omega arith) (omega arith)) in
      let low-is = l ∙ ap (λ (d : Cell). c_on Below d -ℤ p.window) first in
      let high_is = h ∙ ap (λ (d : Cell). c_on Above d -ℤ p.window) last in
      made low-is high_is (b ∙ events-below) (u ∙ events-above)
    where
      made : {x y : ℤ} {m n : ℕ} → low.0 ≡ x → high.0 ≡ y → bits_of below ≡ m → bits_of above ≡ n
          → ◌≡◌ {A = Terms} (record { low = low; high = high; below = below; above = above })
          (record { low = record { 0 = x }; high = record { 0 = y }; below = events_of m; above = events_of n })
      made {x} {y} l h b u =
          ap (λ (z : ℤ). record { low = record { 0 = z }; high = high; below = below; above = above }) l
          ∙ ap (λ (z : ℤ). record { low = record { 0 = x }; high = record { 0 = z }; below = below; above = above }) h
          ∙ ap₂ (λ (s t : Events). record { low = record { 0 = x }; high = record { 0 = y }; below = s; above = t })
          (events_of-bits below b)
          (events_of-bits above u)

  -- the origin's two bounds are always there, so that their weights can be read
  origin-weight : (y z : ℕ) (v : ℤ) → y < suc s → z < suc s → CellAtMost (at t y z) v → weight_at ws y z ≡ weight (cell_at ws y z)
  origin-weight y z v h l m =
      sym (held-weight (weight_at ws y z) (eq_z (weight_at ws y z) no_bound_mark) refl m.weight (sym (at-build (suc s) (cell_at ws) y z h l) ∙ m.held))

  pub terms_of-weights : (low high : WindowTime) (below above : Events)
      → low.0 ≡ neg_ℤ (weight_at ws s 0) -ℤ p.window
      → high.0 ≡ weight_at ws 0 s -ℤ p.window
      → bits_of below ≡ events_on Below ws count
      → bits_of above ≡ events_on Above ws count
      → ◌≡◌ {A = Terms} (record { low = low; high = high; below = below; above = above }) (terms_of p i t)
  terms_of-weights low high below above l h b u =
      let first = origin-weight s 0 _ (omega arith) (omega arith) (fit.below s (omega arith) (omega arith)) in
      let last = origin-weight 0 s _ (omega arith) (omega arith) (fit.above s (omega arith) (omega arith)) in
      terms_of-is low high below above (l ∙ ap (λ (w : ℤ). neg_ℤ w -ℤ p.window) first) (h ∙ ap (λ (w : ℤ). w -ℤ p.window) last) b u
