-- Tables that are fit: their weights lie in range, and the elimination of an event leaves a fit table. A judged set is fit where its bounds with the
-- origin were there before it was judged.
use Rattle.std.specs.Prelude.{ℕ, zero, suc, ◌+◌, ◌-◌, ◌≤◌, ◌<◌, ◌≡◌, refl, Bool, true, false, cond, List, ℤ, pos, neg_ℤ, ◌+ℤ◌, ◌-ℤ◌, ◌≤ℤ◌, get_or}
use Rattle.std.proofs.Common.{sym, ap, subst₂, ◌∙◌, arith, ltb-true, ltb-false}
use Rattle.std.proofs.Math.Path.{subst}
use Rattle.std.specs.Int.Signed.{le_z}
use Rattle.whole.specs.SplitLaws.{split-add, split-neg}
use Rattle.whole.specs.Rules.{whole, wholes}
use Rattle.plan.specs.declared.Plan.{Plan}
use Rattle.plan.specs.declared.Job.{Job}
use Rattle.plan.specs.Limits.{longest_window, longest_running, latest_deadline}
use Rattle.plan.specs.PlanLines.{no_job}
use Rattle.plan.specs.Accepted.{JobAccepted, Accepted}
use Rattle.bounds.specs.declared.Judgement.{Judgement}
use Rattle.bounds.specs.declared.Judgement.TheVariants.{Kept}
use Rattle.bounds.specs.declared.Event.TheVariants.{Origin, Start, Finish}
use Rattle.bounds.specs.Events.{is_this, job_at, shift, earliest, latest, event_of, start_node, finish_node, nodes}
use Rattle.bounds.specs.Judgements.{judged}
use Rattle.bounds.specs.Tables.{Cell, off, upto, lesser_cell, Rows, at, judgement, is_contradiction, kept_cell, bounds, judged_set}
use Rattle.bounds.specs.Elimination.{start_cell, without_start, finish_cell, without_finish}
use Rattle.bounds.specs.BuildLaws.{at-build, by_node, event_of-start, event_of-finish, not-origin}
use Rattle.bounds.specs.TablesLaws.{JudgedCell, KeptCell, judged-kept, judged_set-back}
use Rattle.bounds.specs.Spans.{farthest_time}
use Rattle.bounds.specs.Flat.{weight_at, cell_at, rows_of, greatest_weight, WeightInRange}
use Rattle.bounds.specs.PutLaws.{cell_of-on}
use Rattle.bounds.specs.JudgementsLaws.{judged-least, judged-most, judged-origin, judged-from-origin, judged-to-origin}
use Rattle.bounds.specs.Held.{CellAtMost, JudgedTable}

-- ---- the times of an accepted plan

-- the earliest, and the latest, of an event of two windows
pub record EarlyInRange (t : ℤ) : Type 0 where
  pub least : pos 0 ≤ℤ t
  pub greatest : t ≤ℤ farthest_time

pub record LateInRange (t : ℤ) : Type 0 where
  pub least : neg_ℤ longest_running ≤ℤ t
  pub greatest : t ≤ℤ greatest_weight

job-at : (p : Plan) → Accepted p → (k : ℕ) → k < p.jobs + p.jobs → (b : Bool) → is_this p k ≡ b
    → JobAccepted (get_or p.job (cond b k (k - p.jobs)) no_job)
job-at p a k h true e = a.job-at k (ltb-true k p.jobs e)
job-at p a k h false e = a.job-at (k - p.jobs) (let low : p.jobs ≤ k = ltb-false k p.jobs e in omega arith)

pub job_at-accepted : (p : Plan) → Accepted p → (k : ℕ) → k < p.jobs + p.jobs → JobAccepted (job_at p k)
unfolding job_at
job_at-accepted p a k h = job-at p a k h (is_this p k) refl

pub record ShiftInRange (h : ℤ) : Type 0 where
  pub least : pos 0 ≤ℤ h
  pub greatest : h ≤ℤ longest_window

pub shift_in : (p : Plan) → Accepted p → (k : ℕ) → ShiftInRange (shift p k)
unfolding shift
shift_in p a k = by (is_this p k)
  where
    by : (b : Bool) → ShiftInRange (cond b (pos 0) p.window)
    by true = record { least = omega wholes; greatest = omega wholes }
    by false = let l = a.window-least in let m = a.window-most in record { least = omega wholes; greatest = omega wholes }

start-early : (r h : ℤ) → pos 0 ≤ℤ r → r ≤ℤ latest_deadline → ShiftInRange h → EarlyInRange (r +ℤ h)
start-early r h a b c = record { least = omega wholes; greatest = omega (wholes, split-add r h) }

finish-early : (r m h : ℤ) → pos 0 ≤ℤ r → r ≤ℤ latest_deadline → pos 0 ≤ℤ m → m ≤ℤ longest_running → ShiftInRange h → EarlyInRange ((r +ℤ m) +ℤ h)
finish-early r m h a b c d e = record { least = omega wholes; greatest = omega (wholes, split-add (r +ℤ m) h, split-add r m) }

start-late : (d m h : ℤ) → pos 0 ≤ℤ d → d ≤ℤ latest_deadline → pos 0 ≤ℤ m → m ≤ℤ longest_running → ShiftInRange h → LateInRange ((d -ℤ m) +ℤ h)
start-late d m h a b c e g = record { least = omega wholes; greatest = omega wholes }

finish-late : (d h : ℤ) → pos 0 ≤ℤ d → d ≤ℤ latest_deadline → ShiftInRange h → LateInRange (d +ℤ h)
finish-late d h a b c = record { least = omega wholes; greatest = omega wholes }

pub running-least : (j : Job) → JobAccepted j → pos 0 ≤ℤ j.max
running-least j a = let l = a.min-least in let m = a.min-most in omega wholes

pub running-most : (j : Job) → JobAccepted j → j.min ≤ℤ longest_running
running-most j a = let l = a.max-most in let m = a.min-most in omega wholes

module _ (p : Plan) (a : Accepted p) where
  start-earliest : (k : ℕ) → k < p.jobs + p.jobs → EarlyInRange (earliest p (Start k))
  unfolding earliest
  start-earliest k h = let j = job_at-accepted p a k h in start-early _ _ j.release-least j.release-most (shift_in p a k)

  finish-earliest : (k : ℕ) → k < p.jobs + p.jobs → EarlyInRange (earliest p (Finish k))
  unfolding earliest
  finish-earliest k h =
      let j = job_at-accepted p a k h in
      finish-early _ _ _ j.release-least j.release-most j.min-least (running-most (job_at p k) j) (shift_in p a k)

  start-latest : (k : ℕ) → k < p.jobs + p.jobs → LateInRange (latest p (Start k))
  unfolding latest
  start-latest k h =
      let j = job_at-accepted p a k h in
      start-late _ _ _ j.deadline-least j.deadline-most (running-least (job_at p k) j) j.max-most (shift_in p a k)

  finish-latest : (k : ℕ) → k < p.jobs + p.jobs → LateInRange (latest p (Finish k))
  unfolding latest
  finish-latest k h = let j = job_at-accepted p a k h in finish-late _ _ j.deadline-least j.deadline-most (shift_in p a k)

  pub earliest-in : (y : ℕ) → y < nodes (p.jobs + p.jobs) → EarlyInRange (earliest p (event_of y))
  unfolding event_of earliest
  earliest-in =
      by_node (λ y. y < nodes (p.jobs + p.jobs) → EarlyInRange (earliest p (event_of y))) (λ h. record { least = omega wholes; greatest = omega wholes })
      (λ k h. subst (λ e. EarlyInRange (earliest p e)) (sym (event_of-start k)) (start-earliest k (omega arith)))
      (λ k h. subst (λ e. EarlyInRange (earliest p e)) (sym (event_of-finish k)) (finish-earliest k (omega arith)))

  pub latest-in : (y : ℕ) → y < nodes (p.jobs + p.jobs) → LateInRange (latest p (event_of y))
  unfolding event_of latest
  latest-in =
      by_node (λ y. y < nodes (p.jobs + p.jobs) → LateInRange (latest p (event_of y))) (λ h. record { least = omega wholes; greatest = omega wholes })
      (λ k h. subst (λ e. LateInRange (latest p e)) (sym (event_of-start k)) (start-latest k (omega arith)))
      (λ k h. subst (λ e. LateInRange (latest p e)) (sym (event_of-finish k)) (finish-latest k (omega arith)))

-- ---- the weights of a fit table

origin-node : event_of 0 ≡ Origin
unfolding event_of
origin-node = refl

-- at most latest(z) - earliest(y), which is latest(z) from the origin and -earliest(y) to it
held-most : {c : Cell} {w a : ℤ} → c ≡ upto w → CellAtMost c a → w ≤ℤ a
held-most {c} {w} {a} e m = let h = m.held in let same : w ≡ m.weight = cc in subst (λ w. w ≤ℤ a) (sym same) m.most

module _ (p : Plan) (a : Accepted p) (k : ℕ) (t : Rows) (size : k ≤ nodes (p.jobs + p.jobs)) (fit : JudgedTable p k t) where
  pub least-weight : (y z : ℕ) (w : ℤ) → y < k → z < k → at t y z ≡ upto w → neg_ℤ greatest_weight ≤ℤ w
  least-weight y z w h l e =
      let low = judged-least p (event_of y) (event_of z) w (fit.kept y z w h l e) in
      let early = (earliest-in p a z (omega arith)).least in
      let late = (latest-in p a y (omega arith)).greatest in
      omega wholes

  pub most-weight : (y z : ℕ) (w : ℤ) → y < k → z < k → at t y z ≡ upto w → w ≤ℤ greatest_weight
  most-weight zero zero w h l e =
      absurd (judged-origin p w (subst₂ (λ a b. judged p a b w ≡ Kept) origin-node origin-node (fit.kept 0 0 w h l e)))
  most-weight zero (suc z) w h l e =
      let top = held-most e (fit.above (suc z) (omega arith) l) in
      let late = (latest-in p a (suc z) (omega arith)).greatest in
      omega wholes
  most-weight (suc y) zero w h l e =
      let top = held-most e (fit.below (suc y) (omega arith) h) in
      let early = (earliest-in p a (suc y) (omega arith)).least in
      omega (wholes, split-neg (earliest p (event_of (suc y))))
  most-weight (suc y) (suc z) w h l e =
      let top = judged-most p (event_of (suc y)) (event_of (suc z)) w (not-origin (suc y) (omega arith)) (not-origin (suc z) (omega arith))
      (fit.kept (suc y) (suc z) w h l e) in
      let early = (earliest-in p a (suc y) (omega arith)).least in
      let late = (latest-in p a (suc z) (omega arith)).greatest in
      omega wholes

module _ (p : Plan) (k : ℕ) (ws : List ℤ) (fit : JudgedTable p k (rows_of k ws)) where
  held : (y z : ℕ) → y < k → z < k → (w : ℤ) → cell_at ws y z ≡ upto w → at (rows_of k ws) y z ≡ upto w
  held y z h l w e = at-build k (cell_at ws) y z h l ∙ e

  pub judged-table-kept : (y z : ℕ) → y < k → z < k → KeptCell p y z (cell_at ws y z)
  judged-table-kept y z h l = record { kept = λ w e. fit.kept y z w h l (held y z h l w e) }

  pub judged-table-weights : Accepted p → k ≤ nodes (p.jobs + p.jobs) → (y z : ℕ) → y < k → z < k → WeightInRange (weight_at ws y z)
  judged-table-weights a size y z h l =
      record {
        least = λ e. least-weight p a k (rows_of k ws) size fit y z (weight_at ws y z) h l (held y z h l (weight_at ws y z) (cell_of-on (weight_at ws y z) e));
        greatest = λ e. most-weight p a k (rows_of k ws) size fit y z (weight_at ws y z) h l (held y z h l (weight_at ws y z) (cell_of-on (weight_at ws y z) e));
      }

-- ---- a judged set is fit

-- a bound of the lesser of two cells is at most one of the first
lesser-most : (w v a : ℤ) (b : Bool) → le_z w v ≡ b → w ≤ℤ a → CellAtMost (cond b (upto w) (upto v)) a
lesser-most w v a true e h = record { weight = w; held = refl; most = h }
lesser-most w v a false e h = record { weight = v; held = refl; most = omega whole }

upto-least : (w a : ℤ) (d : Cell) → w ≤ℤ a → CellAtMost (lesser_cell (upto w) d) a
unfolding lesser_cell
upto-least w a off h = record { weight = w; held = refl; most = h }
upto-least w a (upto v) h = lesser-most w v a (le_z w v) refl h

pub least-most : {c : Cell} (d : Cell) {a : ℤ} → CellAtMost c a → CellAtMost (lesser_cell c d) a
least-most d {a} m = subst (λ c. CellAtMost (lesser_cell c d) a) (sym m.held) (upto-least m.weight a d m.most)

-- what is left of a bound with the origin is that bound
kept-most : (j : Judgement) (c : Cell) (a : ℤ) → j ≡ Kept → CellAtMost c a → CellAtMost (kept_cell j c) a
kept-most j c a e m = subst (λ j. CellAtMost (kept_cell j c) a) (sym e) m

left-most : (p : Plan) (y z : ℕ) (c d : Cell) (a : ℤ) → ((w : ℤ) → is_contradiction (judged p (event_of y) (event_of z) w) ≡ false
    → judged p (event_of y) (event_of z) w ≡ Kept)
    → JudgedCell p y z c d → CellAtMost c a → CellAtMost d a
unfolding judgement
left-most p y z c d a never j m =
    let w = m.weight in
    let e : judgement p y z c ≡ judged p (event_of y) (event_of z) w = ap (judgement p y z) m.held in
    subst (λ d. CellAtMost d a) (sym j.left) (kept-most (judgement p y z c) c a (e ∙ never w (ap is_contradiction (sym e) ∙ j.sound)) m)

from-origin : (p : Plan) (y : ℕ) → 0 < y → (w : ℤ) → is_contradiction (judged p (event_of 0) (event_of y) w) ≡ false → judged p (event_of 0) (event_of y) w ≡ Kept
unfolding event_of
from-origin p y h w e = judged-from-origin p (event_of y) w (not-origin y h) e

to-origin : (p : Plan) (y : ℕ) → 0 < y → (w : ℤ) → is_contradiction (judged p (event_of y) (event_of 0) w) ≡ false → judged p (event_of y) (event_of 0) w ≡ Kept
unfolding event_of
to-origin p y h w e = judged-to-origin p (event_of y) w (not-origin y h) e

pub judged_set-judged-table : (p : Plan) (k : ℕ) (f : ℕ → ℕ → Cell) (u : Rows)
    → ((y : ℕ) → 0 < y → y < k → CellAtMost (f 0 y) (latest p (event_of y)))
    → ((y : ℕ) → 0 < y → y < k → CellAtMost (f y 0) (neg_ℤ (earliest p (event_of y))))
    → judged_set p k f ≡ bounds u → JudgedTable p k u
judged_set-judged-table p k f u above below e =
    let back : (y z : ℕ) → y < k → z < k → JudgedCell p y z (f y z) (at u y z) = judged_set-back p k f u e in
    record {
      kept = λ y z w h l q. (judged-kept p y z (back y z h l)).kept w q;
      above = λ y h l. left-most p 0 y _ _ _ (from-origin p y h) (back 0 y (omega arith) l) (above y h l);
      below = λ y h l. left-most p y 0 _ _ _ (to-origin p y h) (back y 0 l (omega arith)) (below y h l);
    }

pub without_start-judged-table : (p : Plan) (k : ℕ) (t u : Rows) → JudgedTable p (suc (start_node k)) t → without_start p k t ≡ bounds u
    → JudgedTable p (start_node k) u
unfolding start_cell
without_start-judged-table p k t u fit e =
    judged_set-judged-table p (start_node k) (start_cell k t) u (λ y h l. least-most _ (fit.above y h (omega arith)))
    (λ y h l. least-most _ (fit.below y h (omega arith))) e

pub without_finish-judged-table : (p : Plan) (k : ℕ) (t u : Rows) → JudgedTable p (suc (finish_node k)) t → without_finish p k t ≡ bounds u
    → JudgedTable p (finish_node k) u
unfolding finish_cell
without_finish-judged-table p k t u fit e =
    judged_set-judged-table p (finish_node k) (finish_cell p k t) u (λ y h l. least-most _ (fit.above y h (omega arith)))
    (λ y h l. least-most _ (fit.below y h (omega arith))) e
