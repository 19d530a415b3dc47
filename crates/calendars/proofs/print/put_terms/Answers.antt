use Rattle.std.proofs.Common.{rules, arith, ap, ◌≡◌, ◌∙◌, ◌+◌, ◌-◌, ℤ, pos, to_z, of_z, get_or, w32}
use Rattle.std.specs.Iterator.Adapters.{take_source, take_count}
use Rattle.events.specs.Bits.{bits_of, most_bits}
use Rattle.calendars.specs.CalendarTextLaws.{members-counted, TermsLeft-start, TermsLeft-below, TermsLeft-next, TermsLeft-end}
use Rattle.calendars.proofs.print.put_terms.Goals as goal

pub loop-e-init : goal.loop-e-init
loop-e-init c =
    let a = c.args in
    let begun = c.into_iter-e-iterator.ensures.into_iter_gives in
    let members = ap take_source begun ∙ c.take-e-items.ensures.source ∙ c.members.ensures in
    let ones = ap take_count begun ∙ c.take-e-items.ensures.count ∙ c.count.ensures in
    TermsLeft-start a.jobs a.key.now a.cs.now a.row a.count a.out.now a.at (bits_of a.set) members
    (rw (members, ones) (members-counted (bits_of a.set) 0 (a.count - 0) most_bits (omega (arith, c.requires.count_le_most_events))))

pub bounds-cs-row : goal.bounds-cs-row
bounds-cs-row c =
    let a = c.args in
    omega (arith, TermsLeft-below a.jobs a.key.now a.cs.now a.row a.count a.out.now a.at c.loop-e.invariant c.in-Some.ensures.steps.0)

pub overflow_add-row : goal.overflow_add-row
overflow_add-row c =
    let a = c.args in
    omega (arith, TermsLeft-below a.jobs a.key.now a.cs.now a.row a.count a.out.now a.at c.loop-e.invariant c.in-Some.ensures.steps.0)

pub offset_bounds-cs-row : goal.offset_bounds-cs-row
offset_bounds-cs-row c =
    let a = c.args in
    omega (arith, TermsLeft-below a.jobs a.key.now a.cs.now a.row a.count a.out.now a.at c.loop-e.invariant c.in-Some.ensures.steps.0)

pub loop-e-preserved : goal.loop-e-preserved
loop-e-preserved c =
    let a = c.args in
    let did = c.put_term-end.ensures in
    let z : ℤ = get_or a.cs.now (a.row + c.in-Some.e) (pos 0) in
    let same : to_z w32 (of_z w32 z) ≡ z = search rules in
    TermsLeft-next a.jobs a.key.now a.cs.now a.row a.count a.out.now a.at c.loop-e.invariant c.in-Some.ensures.steps.0 c.in-Some.ensures.steps.1 did.upper_bound
    (rw same at did.stored)

pub returns-clause-stored : goal.returns-clause-stored
returns-clause-stored c =
    let a = c.args in
    TermsLeft-end a.jobs a.key.now a.cs.now a.row a.count a.out.now a.at c.loop-e.invariant (λ h. (c.in-None.ensures.steps h).0)
