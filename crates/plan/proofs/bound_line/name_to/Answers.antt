-- `name_to`: without a comma there is no name, and with one the name before it is read: `name_to-bare` and `name_to-read`.
use mathlib.Core.Path.{sym, ◌∙◌}
use Prim.Native.Nat.{◌-◌}
use native.Mathlib.Omega.{arith}
use lib.ListN.{length, take, drop, length-take, length-drop}
use Rattle.text.specs.LineLaws.{drop-rest}
use Rattle.plan.specs.BoundLaws.{name_to-bare, name_to-read}
use Rattle.plan.proofs.bound_line.name_to.Goals as goal

pub returns-then-s-i : goal.returns-then-s-i
returns-then-s-i c =
    let a = c.args in
    let l = a.line.now in
    sym (name_to-bare l a.at (take (length l - a.at) (drop a.at l)) c.len_to-i.result (drop-rest a.at l) c.len_to-i.ensures
    (simp (length-take, length-drop) (omega arith)))

pub returns-in_err-name : goal.returns-in_err-name
returns-in_err-name c =
    let a = c.args in
    let l = a.line.now in
    c.from_residual.ensures
    ∙ sym (name_to-read l a.at (take (length l - a.at) (drop a.at l)) c.len_to-i.result (drop-rest a.at l) c.len_to-i.ensures
    (simp (length-take, length-drop) (omega arith)) _ c.in_err-name.ensures)

pub returns : goal.returns
returns c =
    let a = c.args in
    let l = a.line.now in
    sym (name_to-read l a.at (take (length l - a.at) (drop a.at l)) c.len_to-i.result (drop-rest a.at l) c.len_to-i.ensures
    (simp (length-take, length-drop) (omega arith)) _ c.in_ok-name.ensures)
