-- `bounds::Table::drop_finish` meets its contract: the nodes are moved by -max and by min, which are differences of the times, and by `finish-is` that
-- eliminates the finish.
use Prim.Native.Nat.{ℕ, suc}
use mathlib.Core.Path.{◌≡◌, sym, ◌∙◌, ap, ap₂, subst₂}
use native.Mathlib.Omega.{arith}
use lib.IntN.{ℤ, neg_ℤ, ◌-ℤ◌}
use mathlib.Core.List.{List}
use lib.ListN.{length}
use mir.Syntax.{w32}
use mir.Val.{to_z, of_z}
use Rattle.plan.specs.declared.Plan.{Plan}
use Rattle.bounds.specs.Events.{start_node, finish_node, job_at}
use Rattle.bounds.specs.Spans.{time_of_node, TimesInRange}
use Rattle.bounds.specs.Flat.{set_in, MovesRows, moved_rows}
use Rattle.bounds.specs.FlatLaws.{moved_rows-length}
use Rattle.bounds.specs.Held.{TableHeld, TableHeldFor}
use Rattle.bounds.specs.TimesHeldLaws.{nodes-room, less-is, more-is, finish-moves, finish-is}
use Rattle.bounds.proofs.Gaps.{gap-fits, gap_back}
use Rattle.bounds.proofs.Table.drop_finish.Goals as goal

-- a time, and what lies between two times, as the code has them
abbrev told : ℤ → ℤ
told t = to_z w32 (of_z w32 t)

-- the times of the finish and of its start are in range, and what lies between them is -max and min
module _ (early late : List ℤ) (k : ℕ) (ws : List ℤ) where
  start-timed : TableHeld early late (suc (finish_node k)) ws → TimesInRange early late (start_node k)
  start-timed h = let g = h.stands in let room = nodes-room g.times-held.accepted in let last = g.room in g.times-held.timed (start_node k) (omega arith)

  finish-timed : TableHeld early late (suc (finish_node k)) ws → TimesInRange early late (finish_node k)
  finish-timed h = let g = h.stands in let room = nodes-room g.times-held.accepted in let last = g.room in g.times-held.timed (finish_node k) (omega arith)

  module _ (p : Plan) (g : TableHeldFor p early late (suc (finish_node k)) ws) where
    held : TableHeld early late (suc (finish_node k)) ws
    held = record { plan = p; stands = g }

    less-max : told (told (time_of_node late (start_node k)) -ℤ told (time_of_node late (finish_node k))) ≡ neg_ℤ (job_at p k).max
    less-max = gap_back (start-timed held).late-in (finish-timed held).late-in ∙ less-is p early late g.times-held k ws g.room g.fit

    more-min : told (told (time_of_node early (finish_node k)) -ℤ told (time_of_node early (start_node k))) ≡ (job_at p k).min
    more-min = gap_back (finish-timed held).early-in (start-timed held).early-in ∙ more-is p early late g.times-held k ws g.room g.fit

pub overflow_sub-less : goal.overflow_sub-less
overflow_sub-less c =
    let a = c.args in
    let start = start-timed a.times.now.early a.times.now.late a.k a.self.now.weights c.requires in
    let finish = finish-timed a.times.now.early a.times.now.late a.k a.self.now.weights c.requires in
    search gap-fits

pub overflow_sub-more : goal.overflow_sub-more
overflow_sub-more c =
    let a = c.args in
    let start = start-timed a.times.now.early a.times.now.late a.k a.self.now.weights c.requires in
    let finish = finish-timed a.times.now.early a.times.now.late a.k a.self.now.weights c.requires in
    search gap-fits

pub move_nodes-requires : goal.move_nodes-requires
move_nodes-requires c =
    let a = c.args in
    let p = c.requires.plan in
    let g = c.requires.stands in
    subst₂ (λ less more. MovesRows a.times.now.early a.times.now.late (start_node a.k) (finish_node a.k) less more a.self.now.weights)
    (sym (less-max a.times.now.early a.times.now.late a.k a.self.now.weights p g))
    (sym (more-min a.times.now.early a.times.now.late a.k a.self.now.weights p g))
    (finish-moves p a.times.now.early a.times.now.late g.times-held a.k a.self.now.weights g.room g.fit)

pub returns : goal.returns
returns c =
    let a = c.args in
    let r = c.move_nodes in record {
      weights_after = λ p g.
          ap (λ r. set_in (finish_node a.k) r.found r.weights)
          (r.ensures
          ∙ ap₂ (λ less more. moved_rows a.times.now.early a.times.now.late (start_node a.k) (finish_node a.k) less more a.self.now.weights)
          (less-max a.times.now.early a.times.now.late a.k a.self.now.weights p g)
          (more-min a.times.now.early a.times.now.late a.k a.self.now.weights p g))
          ∙ finish-is p a.times.now.early a.times.now.late g.times-held a.k a.self.now.weights g.room g.fit g.size;
      weights_len_unchanged = ap (λ r. length r.weights) r.ensures
          ∙ moved_rows-length a.times.now.early a.times.now.late (start_node a.k) (finish_node a.k) _ _ a.self.now.weights;
    }
