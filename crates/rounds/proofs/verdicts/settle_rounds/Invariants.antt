-- `rounds::verdicts::settle_rounds` meets its contract. The loop's invariant: the rounds that are left give the whole outcome, and the carried table is fit.
-- A turn is one round, by the laws of `SettleLaws`.
use Prim.Native.Nat.{◌+◌, ◌-◌}
use mathlib.Core.Path.{◌≡◌}
use lib.ListN.{length}
use Rattle.bounds.specs.Events.{nodes}
use Rattle.bounds.specs.Flat.{rows_of, cells}
use Rattle.bounds.specs.Held.{JudgedTable}
use Rattle.rounds.specs.Rounds.{rounds_from, outcome}
use Rattle.rounds.proofs.verdicts.settle_rounds.Given as goal

abbrev pub invariant-loop-m : goal.invariant-loop-m
invariant-loop-m l =
    (outcome l.p ≡ rounds_from l.p (rows_of (nodes l.p.jobs) l.initial.carried.weights) l.m ((l.p.rounds + 1) - l.m) (rows_of (nodes l.p.jobs) l.carried.weights))
    × (JudgedTable l.p (nodes l.p.jobs) (rows_of (nodes l.p.jobs) l.carried.weights))
    × (length l.carried.weights ≡ cells)
    × (l.joined ≡ l.initial.joined)
