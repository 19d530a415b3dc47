use Prim.Native.Nat.{◌+◌, ◌-◌}
use mathlib.Core.Path.{◌≡◌, sym, ap, ap₂, ◌∙◌}
use mathlib.Core.Bool.{not}
use native.Mathlib.Omega.{arith}
use lib.Dec.{eqb}
use mir.Syntax.{w32}
use mir.Val.{of_z}
use Rattle.whole.specs.SplitLaws.{told-fits}
use Rattle.events.specs.Bits.{with_first}
use Rattle.events.specs.BitsLaws.{event_set-nil}
use Rattle.bounds.specs.Flat.{weight_at, is_bounded}
use Rattle.bounds.specs.FlatLaws.{is_bound-read, bounded_from, bounded_from-room, bounded_from-end, bounded_from-more}
use Rattle.bounds.proofs.Table.bounded_nodes.Goals as goal

pub loop-z-init : goal.loop-z-init
loop-z-init c =
    let a = c.args in
    c.empty-set.ensures ∙ event_set-nil ∙ bounded_from-end a.self.now.weights a.s a.s (omega arith)

pub with_first-set-requires : goal.with_first-set-requires
with_first-set-requires c =
    let a = c.args in
    let l = c.loop-z in
    omega (arith, l.invariant, bounded_from-room a.self.now.weights a.s l.z (omega arith))

pub loop-z-preserved : goal.loop-z-preserved
loop-z-preserved c =
    let a = c.args in
    let l = c.loop-z in
    let z = l.z - 1 in
    let back : z + 1 ≡ l.z = omega arith in
    let on : not (eqb (of_z w32 (weight_at a.self.now.weights a.s z)) 2147483647) ≡ is_bounded a.self.now.weights a.s z
    = is_bound-read (told-fits w32 (weight_at a.self.now.weights a.s z) c.v-1.given) in
    c.with_first-set.ensures ∙ ap₂ with_first on (l.invariant ∙ ap (bounded_from a.self.now.weights a.s) (sym back))
    ∙ bounded_from-more a.self.now.weights a.s z (omega arith)
