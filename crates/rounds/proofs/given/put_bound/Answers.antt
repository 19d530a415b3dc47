-- `rounds::given::put_bound` meets its contract: B's node is y, A's node is z.
use Prim.Native.Nat.{ℕ}
use mathlib.Core.Path.{◌∙◌, ap}
use lib.IntN.{pos}
use mir.Syntax.{w32}
use mir.Val.{SFits}
use mir.Facts.{to_z-of_z}
use Rattle.whole.specs.Rules.{wholes}
use Rattle.plan.specs.declared.Bound.{Bound}
use Rattle.plan.specs.Accepted.{BoundAccepted}
use Rattle.bounds.specs.Flat.{put_at}
use Rattle.rounds.specs.PutGivenLaws.{meant_is}
use Rattle.rounds.proofs.given.put_bound.Goals as goal

c-fits : {jobs : ℕ} {d : Bound} → BoundAccepted jobs d → SFits w32 d.c
c-fits a = let least = a.c-least in let most = a.c-most in omega wholes

pub returns : goal.returns
returns c =
    let a = c.args in
    let y = c.node_of-y in
    let z = c.node_of-z in
    λ p same.
    c.put.ensures
    ∙ ap (λ v. put_at a.times.now.early a.times.now.late y.result z.result v (pos 0) a.table.now.weights) (to_z-of_z (c-fits c.requires.2))
    ∙ meant_is p a.times.now.early a.times.now.late a.d y.result z.result a.table.now.weights (y.ensures.value p same) (z.ensures.value p same)
