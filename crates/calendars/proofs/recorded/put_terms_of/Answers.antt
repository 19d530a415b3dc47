-- `put_terms_of` meets its contract: both sides are recorded, and by `terms_of-is` they are the terms of the definition.
use Rattle.std.proofs.Common.{◌≡◌, ℕ, ◌+◌, ◌*◌, ◌-ℤ◌, ℤ, ap, ap₂, sym, subst, ◌∙◌, to_z, of_z, w32, arith, SFits}
use lib.Seq.{sets}
use mir.Facts.{to_z-of_z}
use Rattle.whole.specs.Rules.{wholes}
use Rattle.whole.specs.SplitLaws.{told-fits}
use Rattle.events.specs.Bits.{most_events}
use Rattle.bounds.specs.Events.{start_node}
use Rattle.bounds.specs.Flat.{weight_at, cell_of, WeightInRange}
use Rattle.calendars.specs.declared.Side.TheVariants.{Below, Above}
use Rattle.calendars.specs.Recorded.{c_on}
use Rattle.calendars.specs.RecordedLaws.{weight_on-fits, origin-fits, cs_on-least, cs_on-most, terms_of-is}
use Rattle.calendars.proofs.recorded.put_terms_of.Goals as goal
use Rattle.calendars.proofs.recorded.put_terms_of.Goals.{After-weight, After-weight-2}

-- the start's node, as the code counts it
node : (k : ℕ) → 2 * k + 1 ≡ start_node k
node k = omega arith

-- the weights that were read are the origin's
to-origin : (c : After-weight) → to_z w32 (of_z w32 c.weight.result) ≡ weight_at c.args.table.now.weights (start_node (c.args.p.jobs + c.args.i)) 0
to-origin c =
    to_z-of_z (told-fits w32 c.weight.result c.weight.type_inv) ∙ c.weight.ensures
    ∙ ap (λ (s : ℕ). weight_at c.args.table.now.weights s 0) (node (c.args.p.jobs + c.args.i))

from-origin : (c : After-weight-2) → to_z w32 (of_z w32 c.weight-2.result) ≡ weight_at c.args.table.now.weights 0 (start_node (c.args.p.jobs + c.args.i))
from-origin c =
    to_z-of_z (told-fits w32 c.weight-2.result c.weight-2.type_inv) ∙ c.weight-2.ensures
    ∙ ap (λ (s : ℕ). weight_at c.args.table.now.weights 0 s) (node (c.args.p.jobs + c.args.i))

pub c-low-requires : goal.c-low-requires
c-low-requires c =
    let a = c.args in
    let q = c.requires in
    subst WeightInRange (sym (to-origin c)) (origin-fits a.p q.0 a.i q.1 a.table.now.weights q.2 _ 0 (omega arith) (omega arith))

pub c-high-requires : goal.c-high-requires
c-high-requires c =
    let a = c.args in
    let q = c.requires in
    subst WeightInRange (sym (from-origin c)) (origin-fits a.p q.0 a.i q.1 a.table.now.weights q.2 0 _ (omega arith) (omega arith))

pub put_side-requires : goal.put_side-requires
put_side-requires c =
    let most = c.requires.0.jobs-most in
    let job = c.requires.1 in
    (omega arith, omega arith, weight_on-fits c.args.p c.requires.0 c.args.i c.requires.1 c.args.table.now.weights c.requires.2 Below)

pub put_side-requires-2 : goal.put_side-requires-2
put_side-requires-2 c =
    let most = c.requires.0.jobs-most in
    let job = c.requires.1 in
    (omega arith, omega arith, weight_on-fits c.args.p c.requires.0 c.args.i c.requires.1 c.args.table.now.weights c.requires.2 Above)

pub returns-clause-value : goal.returns-clause-value
returns-clause-value c =
    let a = c.args in
    let q = c.requires in
    let window-least = q.0.window-least in
    let window-most = q.0.window-most in
    let window-fits : SFits w32 a.p.window = omega wholes in
    let window = to_z-of_z window-fits in
    let low = to_z-of_z (told-fits w32 c.c-low.result c.c-low.type_inv) ∙ c.c-low.ensures
    ∙ ap (λ (w : ℤ). c_on Below (cell_of w)) (to-origin (goal.at.returns-clause-value c).After-weight) in
    let high = to_z-of_z (told-fits w32 c.c-high.result c.c-high.type_inv) ∙ c.c-high.ensures
    ∙ ap (λ (w : ℤ). c_on Above (cell_of w)) (from-origin (goal.at.returns-clause-value c).After-weight-2) in
    terms_of-is a.p q.0 a.i q.1 a.table.now.weights q.2 c.own_time.result c.own_time-2.result c.put_side.result c.put_side-2.result
    (c.own_time.ensures ∙ ap₂ (λ (w v : ℤ). w -ℤ v) low window)
    (c.own_time-2.ensures ∙ ap₂ (λ (w v : ℤ). w -ℤ v) high window)
    c.put_side.ensures.0
    c.put_side-2.ensures.0

pub returns-clause-least_after : goal.returns-clause-least_after
returns-clause-least_after c =
    let a = c.args in
    c.put_side.ensures.1 ∙ ap (sets a.least.now (a.i * most_events)) (cs_on-least a.p c.requires.0 a.i c.requires.1 a.table.now.weights c.requires.2)

pub returns-clause-most_after : goal.returns-clause-most_after
returns-clause-most_after c =
    let a = c.args in
    c.put_side-2.ensures.1 ∙ ap (sets a.most.now (a.i * most_events)) (cs_on-most a.p c.requires.0 a.i c.requires.1 a.table.now.weights c.requires.2)
