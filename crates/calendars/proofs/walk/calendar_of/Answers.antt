use Prim.Native.Nat.{ℕ, suc, ◌+◌, ◌-◌}
use mathlib.Core.Path.{◌≡◌, ◌∙◌, subst}
use native.Mathlib.Omega.{arith}
use Rattle.std.specs.Prelude.{is_err}
use Rattle.bounds.specs.Events.{start_node, finish_node, nodes}
use Rattle.bounds.specs.Flat.{rows_of}
use Rattle.bounds.specs.Held.{TableHeldFor}
use Rattle.calendars.specs.CalendarsLaws.{Walked, Walked-start, Walked-some, Walked-finish, Walked-last, Walked-more, Walked-end}
use Rattle.calendars.proofs.walk.calendar_of.Goals as goal
use Rattle.calendars.proofs.walk.calendar_of.Goals.{After-drop_finish}

-- at a turn: the walk so far, with the job that is eliminated next
some : (c : After-drop_finish)
    → Walked c.args.p (rows_of (nodes (c.args.p.jobs + c.args.p.jobs)) c.args.joined.now.weights) (suc (c.loop-i.i - 1)) c.loop-i.table.weights
    c.loop-i.c.terms c.loop-i.c.at_least c.loop-i.c.at_most
some c =
    let l = c.loop-i in
    Walked-some c.args.p c.requires.0.times-held.accepted _ l.i l.table.weights l.c.terms l.c.at_least l.c.at_most c.loop-i-test.true l.invariant.0

-- the table that holds its finish
finish-stands : (c : After-drop_finish)
    → TableHeldFor c.args.p c.args.times.now.early c.args.times.now.late (suc (finish_node (c.args.p.jobs + (c.loop-i.i - 1)))) c.loop-i.table.weights
finish-stands c =
    let l = c.loop-i in
    let places = (some c).places in
    record {
      times-held = c.requires.0.times-held;
      room = omega arith;
      size = l.invariant.1;
      fit = Walked-finish c.args.p c.requires.0.times-held.accepted _ (l.i - 1) l.table.weights l.c.terms l.c.at_least l.c.at_most (some c);
    }

-- and without it the table that holds its start
start-stands : (c : After-drop_finish)
    → TableHeldFor c.args.p c.args.times.now.early c.args.times.now.late (suc (start_node (c.args.p.jobs + (c.loop-i.i - 1)))) c.drop_finish.new.self.weights
start-stands c =
    let l = c.loop-i in
    let places = (some c).places in
    record {
      times-held = c.requires.0.times-held;
      room = omega arith;
      size = c.drop_finish.ensures.weights_len_unchanged ∙ l.invariant.1;
      fit = Walked-last c.args.p c.requires.0.times-held.accepted _ (l.i - 1) l.table.weights l.c.terms l.c.at_least l.c.at_most (some c)
          (is_err c.drop_finish.result) c.drop_finish.new.self.weights
          (c.drop_finish.ensures.weights_after c.args.p (finish-stands c));
    }

pub loop-i-init : goal.loop-i-init
loop-i-init c =
    let g = c.requires.0 in
    let none = c.empty_calendar-c in
    (Walked-start c.args.p g.times-held.accepted c.args.joined.now.weights none.result g.fit c.requires.1 (none.ensures c.args.p), g.size)

pub put_terms_of-requires : goal.put_terms_of-requires
put_terms_of-requires c =
    let d = (goal.at.put_terms_of-requires c).After-drop_finish in
    let places = (some d).places in
    (c.requires.0.times-held.accepted, omega arith, (start-stands d).fit)

pub drop_start-requires : goal.drop_start-requires
drop_start-requires c = record { plan = c.args.p; stands = start-stands (goal.at.drop_start-requires c).After-drop_finish }

pub loop-i-preserved : goal.loop-i-preserved
loop-i-preserved c =
    let d = (goal.at.loop-i-preserved c).After-drop_finish in
    let l = c.loop-i in
    let did = c.put_terms_of in
    let started = c.drop_start in (
      Walked-more c.args.p c.requires.0.times-held.accepted _ (l.i - 1) l.table.weights l.c.terms l.c.at_least l.c.at_most
          (some d) (is_err c.drop_finish.result) c.drop_finish.new.self.weights
          (c.drop_finish.ensures.weights_after c.args.p (finish-stands d))
          (is_err started.result)
          started.new.self.weights
          (started.ensures.weights_after c.args.p (start-stands d))
          did.result
          _
          _
          did.ensures.value
          did.ensures.least_after
          did.ensures.most_after,
      started.ensures.weights_len_unchanged ∙ c.drop_finish.ensures.weights_len_unchanged ∙ l.invariant.1,
    )

pub returns : goal.returns
returns c =
    let l = c.loop-i in
    let none : l.i ≡ 0 = omega arith in
    Walked-end c.args.p c.requires.0.times-held.accepted _ l.table.weights l.c.terms l.c.at_least l.c.at_most
    (subst (λ (n : ℕ). Walked c.args.p (rows_of (nodes (c.args.p.jobs + c.args.p.jobs)) c.args.joined.now.weights) n l.table.weights l.c.terms l.c.at_least
    l.c.at_most) none l.invariant.0)
