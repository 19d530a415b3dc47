-- `offer_of`: each end is picked among the origin's bound and the terms in force.
use Rattle.std.proofs.Common.{rules, SFits, w32, to_z-of_z}
use Rattle.runs.specs.Offers.{greater, lesser, lower_terms, upper_terms, greatest, least}
use Rattle.runs.specs.EndLaws.{terms_inside}
use Rattle.runs.proofs.offers.offer_of.Goals as goal

pub end_of-from-requires-clause-terms_fit : goal.end_of-from-requires-clause-terms_fit
end_of-from-requires-clause-terms_fit c =
    rw (c.members-below.ensures, c.first_seen-first.ensures) (terms_inside _ _ _ _ _ _ (search rules) (search rules) c.requires.lower)

pub end_of-to-requires-clause-terms_fit : goal.end_of-to-requires-clause-terms_fit
end_of-to-requires-clause-terms_fit c =
    rw (c.members-above.ensures, c.first_seen-first.ensures) (terms_inside _ _ _ _ _ _ (search rules) (search rules) c.requires.upper)

pub returns : goal.returns
unfolding lower_terms upper_terms greatest least
returns c =
    let from = c.end_of-from.ensures greater (search rules) in
    let to = c.end_of-to.ensures lesser (search rules) in
    let window : SFits w32 c.args.p.now.window = search rules in
    rw
    (from, to, c.members-below.ensures, c.members-above.ensures, c.first_seen-first.ensures, c.on_run-earliest.ensures, c.on_run-latest.ensures, to_z-of_z window)
