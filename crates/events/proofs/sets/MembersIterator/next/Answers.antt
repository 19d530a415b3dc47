-- `next`: the first member that is left, by `members-first`, or none is left, by `members-over`.
use Rattle.std.proofs.Common.{arith, ℕ, ◌≡◌, ◌∙◌, sym, ◌<◌, List, ◌∷◌, length}
use Rattle.events.specs.Bits.{bits_of}
use Rattle.events.specs.BitsLaws.{members-none, members-first, members-over}
use Rattle.events.proofs.sets.MembersIterator.next.Goals as goal

fewer : {k : ℕ} (s t : List ℕ) → s ≡ k ∷ t → length t < length s
fewer s t e = rw e (omega arith)

pub returns-then-self-clause-steps : goal.returns-then-self-clause-steps
returns-then-self-clause-steps c =
    let m = c.self.inside in
    let none = sym c.self.view_is ∙ members-none (bits_of m.set) m.from m.count c.if-self.true in (none, none)

pub returns-then-e-self-clause-steps : goal.returns-then-e-self-clause-steps
returns-then-e-self-clause-steps c =
    let m = c.self.inside in
    let none = sym c.self.view_is ∙ members-over (bits_of m.set) m.from m.count _ c.next-e.ensures c.if-e-self.true in (none, none)

pub returns-clause-steps : goal.returns-clause-steps
returns-clause-steps c =
    let m = c.self.inside in
    sym c.self.view_is ∙ members-first (bits_of m.set) m.from m.count _ c.next-e.ensures c.if-e-self.false c.self.invariant

pub returns-clause-goes : goal.returns-clause-goes
returns-clause-goes c =
    let m = c.self.inside in
    let first = sym c.self.view_is ∙ members-first (bits_of m.set) m.from m.count _ c.next-e.ensures c.if-e-self.false c.self.invariant in
    record { on = λ _. (_, _, fewer _ _ first); keeps = _; rests = λ _. _ }
