-- `opening`: the job that the run waits for is the one whose turn it is.
use Rattle.std.proofs.Common.{arith, ℕ, ap, subst}
use Rattle.runs.specs.ValueLimits.{job_of_phase}
use Rattle.runs.specs.Offers.{turn_of}
use Rattle.runs.specs.Inside.{OfferInside}
use Rattle.runs.proofs.offers.opening.Goals as goal

pub offer_of-requires : goal.offer_of-requires
offer_of-requires c =
    let d = c.args.c.now in
    let waits = c.in-Waiting.is in
    subst (λ (i : ℕ). OfferInside (turn_of c.args.p.now d i) d.at_least d.at_most c.args.run.now c.in-Waiting.window c.in-Waiting.job)
    (ap job_of_phase waits) (c.requires.waiting _ _ waits (omega (arith, c.if-p-window.false)))
