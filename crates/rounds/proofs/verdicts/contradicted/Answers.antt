-- `rounds::verdicts::contradicted` meets its contract: the two cases of K.
use Rattle.bounds.specs.Events.{nodes}
use Rattle.bounds.specs.Flat.{rows_of}
use Rattle.rounds.specs.SettleLaws.{alone-fails, alone-holds}
use Rattle.rounds.proofs.verdicts.contradicted.Goals as goal

pub returns-then-fails_alone : goal.returns-then-fails_alone
returns-then-fails_alone c =
    let a = c.args in
    let r = c.fails_alone in
    alone-fails a.p (rows_of (nodes a.p.jobs) a.carried.now.weights) a.m r.result r.ensures c.if-fails_alone.true

pub returns : goal.returns
returns c =
    let a = c.args in
    let r = c.fails_alone in
    alone-holds a.p (rows_of (nodes a.p.jobs) a.carried.now.weights) a.m r.result r.ensures c.if-fails_alone.false
