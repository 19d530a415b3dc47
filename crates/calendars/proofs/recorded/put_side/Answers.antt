use Prim.Native.Nat.{ℕ, suc, ◌+◌}
use mathlib.Core.Path.{◌≡◌, sym, ap, subst, ◌∙◌}
use mathlib.Core.Bool.{Bool, not}
use native.Mathlib.Numerals.{add-one}
use lib.Dec.{eqb}
use lib.Seq.{sets}
use mir.Syntax.{w32}
use mir.Val.{to_z, of_z}
use mir.Facts.{to_z-of_z}
use Rattle.whole.specs.SplitLaws.{told-fits}
use Rattle.bounds.specs.Flat.{is_bound, WeightInRange}
use Rattle.bounds.specs.BuildLaws.{listed_nil}
use Rattle.bounds.specs.FlatLaws.{is_bound-read}
use Rattle.events.specs.Bits.{bits_of, event_set, with_if}
use Rattle.calendars.specs.Recorded.{weight_by, weight_on, is_on_side, c_on_side}
use Rattle.calendars.specs.RecordedLaws.{events_on-more, cs_on-more}
use Rattle.calendars.proofs.recorded.put_side.Goals as goal
use Rattle.calendars.proofs.recorded.put_side.Goals.{After-weight-w}

-- the weight that was read is that of event e
read : (c : After-weight-w)
    → to_z w32 (of_z w32 c.weight-w.result) ≡ weight_on c.args.side c.args.table.now.weights (suc c.args.count) c.loop-e.e
read c =
    let a = c.args in
    to_z-of_z (told-fits w32 c.weight-w.result c.weight-w.type_inv) ∙ c.weight-w.ensures
    ∙ ap (λ (s : ℕ). weight_by a.side a.table.now.weights s (c.loop-e.e + 1)) (add-one a.count)
    ∙ ap (weight_by a.side a.table.now.weights (suc a.count)) (add-one c.loop-e.e)

pub loop-e-init : goal.loop-e-init
loop-e-init c =
    let a = c.args in (
      c.empty-set.ensures ∙ ap event_set (listed_nil (is_on_side a.side a.table.now.weights a.count)),
      ap (sets a.cs.now a.row) (listed_nil (c_on_side a.side a.table.now.weights a.count)),
    )

pub c-requires : goal.c-requires
c-requires c = subst WeightInRange (sym (read c)) (c.requires.2 c.loop-e.e c.loop-e-test.true)

pub loop-e-preserved : goal.loop-e-preserved
loop-e-preserved c =
    let on : not (eqb (of_z w32 c.weight-w.result) 2147483647) ≡ is_bound (to_z w32 (of_z w32 c.weight-w.result)) =
    let fits = told-fits w32 c.weight-w.result c.weight-w.type_inv in is_bound-read fits ∙ ap is_bound (sym (to_z-of_z fits)) in
    let a = c.args in
    let l = c.loop-e in
    let w = c.weight-w.result in
    let did = c.c.result in
    let c-bits = to_z w32 (of_z w32 did) in
    let is = read (goal.at.loop-e-preserved c).After-weight-w in (
      events_on-more a.side a.table.now.weights a.count l.e (to_z w32 (of_z w32 w)) is (bits_of l.set) (bits_of c.with_if-set.result) l.invariant.0
          (c.with_if-set.ensures ∙ ap (λ (b : Bool). with_if b l.e (bits_of l.set)) on),
      cs_on-more a.side a.table.now.weights a.count l.e (to_z w32 (of_z w32 w)) is a.cs.now l.cs a.row c-bits l.invariant.1
          (to_z-of_z (told-fits w32 did c.c.type_inv) ∙ c.c.ensures),
    )
