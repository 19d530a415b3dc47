-- `rounds::verdicts::fails_alone` meets its contract: whether the elimination of the whole window is a contradiction.
use Prim.Native.Nat.{ℕ, ◌+◌}
use mathlib.Core.Path.{◌≡◌, sym, ◌∙◌, ap, subst}
use native.Mathlib.Omega.{arith}
use Rattle.std.specs.Result.{is_err}
use Rattle.bounds.specs.Events.{nodes}
use Rattle.bounds.specs.Elimination.{eliminated}
use Rattle.bounds.specs.Flat.{rows_of}
use Rattle.bounds.specs.Held.{TableHeldFor}
use Rattle.rounds.specs.SettleLaws.{alone-is}
use Rattle.rounds.proofs.verdicts.fails_alone.Goals as goal

-- all places from the first on
all-nodes : (n : ℕ) → nodes n ≡ nodes (0 + n)
all-nodes n = omega arith

pub returns : goal.returns
returns c =
    let all-table-held : TableHeldFor c.args.p c.args.times.now.early c.args.times.now.late (nodes (0 + c.args.p.jobs)) c.args.carried.now.weights = let a = c.args in
    subst (λ n. TableHeldFor a.p a.times.now.early a.times.now.late n a.carried.now.weights) (all-nodes a.p.jobs) c.requires in
    let a = c.args in
    let r = c.drop_places in
    c.is_err.ensures.value
    ∙ alone-is a.p (rows_of (nodes a.p.jobs) a.carried.now.weights) (nodes 0) (is_err r.result) r.new.self.weights
    (r.ensures.weights_after a.p all-table-held ∙ ap (λ n. eliminated a.p 0 a.p.jobs (rows_of n a.carried.now.weights)) (sym (all-nodes a.p.jobs)))
