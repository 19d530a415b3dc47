-- A bound put into an array that holds judged cells: the array then holds what is left of the lesser of the two, or the lesser is a contradiction.
use Rattle.std.specs.Prelude.{ℕ, ◌<◌, ◌≡◌, Bool, cond, List, ℤ, pos, ◌+ℤ◌, ◌<ℤ◌, length}
use Rattle.std.proofs.Math.Path.{refl, sym, ap, subst}
use Rattle.std.proofs.Common.{◌∙◌, true≢false, get_or-set_same}
use Rattle.std.proofs.Math.Bool.{true, false}
use Rattle.std.specs.Int.Signed.{le_z}
use Rattle.whole.specs.Clash.{clash}
use Rattle.whole.specs.Split.{eq_z}
use Rattle.whole.specs.Rules.{whole}
use Rattle.plan.specs.declared.Plan.{Plan}
use Rattle.bounds.specs.declared.Judgement.{Judgement}
use Rattle.bounds.specs.declared.Judgement.TheVariants.{Contradiction, LeftOut, Kept}
use Rattle.bounds.specs.Events.{event_of}
use Rattle.bounds.specs.Judgements.{judged}
use Rattle.bounds.specs.Tables.{Cell, off, upto, lesser_cell, plus, judgement, is_contradiction, kept_cell}
use Rattle.bounds.specs.TablesLaws.{lesser_cell-off, JudgedCell, KeptCell, judged-again}
use Rattle.bounds.specs.Spans.{judged_at}
use Rattle.bounds.specs.Flat.{no_bound_mark, place, weight_at, cell_of, cell_at, Flat, flat, stored, kept_at, put_at}
use Rattle.bounds.specs.FlatLaws.{FlatOutcome}

-- ---- cells of weights

pub cell_of-mark : (w : ℤ) → eq_z w no_bound_mark ≡ true → cell_of w ≡ off
unfolding cell_of
cell_of-mark w e = rw e

pub cell_of-on : (w : ℤ) → eq_z w no_bound_mark ≡ false → cell_of w ≡ upto w
unfolding cell_of
cell_of-on w e = rw e

pub mark-of-off : (w : ℤ) → cell_of w ≡ off → eq_z w no_bound_mark ≡ true
mark-of-off w h = by (eq_z w no_bound_mark) refl
  where
    by : (b : Bool) → eq_z w no_bound_mark ≡ b → b ≡ true
    by true e = refl
    by false e = absurd (let on = cell_of-on w e in clash (cc))

pub below_on : (w : ℤ) → w <ℤ no_bound_mark → eq_z w no_bound_mark ≡ false
below_on w h = no (eq_z w no_bound_mark) refl
  where
    no : (b : Bool) → eq_z w no_bound_mark ≡ b → b ≡ false
    no true e = absurd (let same : w ≡ no_bound_mark = omega whole in omega whole)
    no false e = refl

-- the lesser of a weight in the array and a bound w
least-lower : (u w : ℤ) (b : Bool) → eq_z u no_bound_mark ≡ b → le_z u w ≡ false → lesser_cell (cell_of u) (upto w) ≡ upto w
unfolding lesser_cell
least-lower u w true e l = ap (λ c. lesser_cell c (upto w)) (cell_of-mark u e)
least-lower u w false e l = ap (λ c. lesser_cell c (upto w)) (cell_of-on u e) ∙ ap (λ b. cond b (upto u) (upto w)) l

least-present : (u w : ℤ) (b : Bool) → eq_z u no_bound_mark ≡ b → w <ℤ no_bound_mark → le_z u w ≡ true → lesser_cell (cell_of u) (upto w) ≡ cell_of u
unfolding lesser_cell
least-present u w true e h l = absurd (let same : u ≡ no_bound_mark = omega whole in omega whole)
least-present u w false e h l =
    ap (λ c. lesser_cell c (upto w)) (cell_of-on u e) ∙ ap (λ b. cond b (upto u) (upto w)) l ∙ sym (cell_of-on u e)

-- ---- one put

module _ (p : Plan) (early late : List ℤ) (y z : ℕ) (ws : List ℤ)
    (judges : (w : ℤ) → judged_at early late y z w ≡ judged p (event_of y) (event_of z) w)
    (room : place y z < length ws)
    (kept : KeptCell p y z (cell_at ws y z)) where
  -- what is left of a cell, or that the cell is a contradiction
  abbrev IsLeft : Cell → Flat → Type 0
  IsLeft c r = FlatOutcome (λ us. JudgedCell p y z c (cell_at us y z)) (is_contradiction (judgement p y z c) ≡ true) r

  stays : (c : Cell) → c ≡ cell_at ws y z → IsLeft c (flat false ws)
  stays c e =
      record {
        fails = λ f. absurd (true≢false (sym f));
        keeps = λ f. subst (λ c. JudgedCell p y z c (cell_at ws y z)) (sym e) (judged-again p y z (cell_at ws y z) kept);
      }

  lands : (w : ℤ) → w <ℤ no_bound_mark → (j : Judgement) → judged p (event_of y) (event_of z) w ≡ j → IsLeft (upto w) (stored j (place y z) w ws)
  unfolding judgement
  lands w h Contradiction e = record { fails = λ f. ap is_contradiction e; keeps = λ f. absurd (true≢false f) }
  lands w h LeftOut e =
      record {
        fails = λ f. absurd (true≢false (sym f));
        keeps =
            λ f.
            record {
              sound = ap is_contradiction e;
              left =
                  ap cell_of (get_or-set_same ws (place y z) no_bound_mark (pos 0) room)
                  ∙ cell_of-mark no_bound_mark refl
                  ∙ sym (ap (λ j. kept_cell j (upto w)) e);
            };
      }
  lands w h Kept e =
      record {
        fails = λ f. absurd (true≢false (sym f));
        keeps =
            λ f.
            record {
              sound = ap is_contradiction e;
              left =
                  ap cell_of (get_or-set_same ws (place y z) w (pos 0) room)
                  ∙ cell_of-on w (below_on w h)
                  ∙ sym (ap (λ j. kept_cell j (upto w)) e);
            };
      }

  compared : (w : ℤ) → w <ℤ no_bound_mark → (t : Bool) → le_z (weight_at ws y z) w ≡ t
      → IsLeft (lesser_cell (cell_at ws y z) (upto w)) (cond t (flat false ws) (stored (judged_at early late y z w) (place y z) w ws))
  compared w h true e = stays _ (least-present (weight_at ws y z) w _ refl h e)
  compared w h false e =
      subst (λ c. IsLeft c (stored (judged_at early late y z w) (place y z) w ws)) (sym (least-lower (weight_at ws y z) w _ refl e))
      (subst (λ j. IsLeft (upto w) (stored j (place y z) w ws)) (sym (judges w))
      (lands w h (judged p (event_of y) (event_of z) w) refl))

  put-by : (v a : ℤ) → (eq_z v no_bound_mark ≡ false → (v +ℤ a) <ℤ no_bound_mark) → (b : Bool) → eq_z v no_bound_mark ≡ b
      → IsLeft (lesser_cell (cell_at ws y z) (plus (cell_of v) a)) (cond b (flat false ws) (kept_at early late y z (v +ℤ a) ws))
  unfolding kept_at plus
  put-by v a h true e = stays _ (ap (λ c. lesser_cell (cell_at ws y z) (plus c a)) (cell_of-mark v e) ∙ lesser_cell-off (cell_at ws y z))
  put-by v a h false e =
      subst (λ c. IsLeft (lesser_cell (cell_at ws y z) (plus c a)) (kept_at early late y z (v +ℤ a) ws)) (sym (cell_of-on v e))
      (compared (v +ℤ a) (h e) _ refl)

  pub put_at-left : (v a : ℤ) → (eq_z v no_bound_mark ≡ false → (v +ℤ a) <ℤ no_bound_mark)
      → IsLeft (lesser_cell (cell_at ws y z) (plus (cell_of v) a)) (put_at early late y z v a ws)
  unfolding put_at
  put_at-left v a h = put-by v a h (eq_z v no_bound_mark) refl
