-- `is_wrong_pair`: one law a way, `is_wrong_numbered-next`, `-same`, `-given`; the derived `==` decides as the definitions do (`both_next-derived`,
-- `same_event-derived`).
use mathlib.Core.Path.{◌≡◌, refl, sym, ◌∙◌, ap}
use mathlib.Core.Bool.{Bool, ◌&&◌}
use lib.Dec.{eqb}
use borrow.Author.Tests.{eqb-true, eqb-false}
use denote.Enum.Bare.{sameb}
use Rattle.std.proofs.Math.Bool.{and_assoc}
use Rattle.plan.specs.contracts.Letter as letter
use Rattle.plan.specs.contracts.Kind as kind
use Rattle.plan.specs.declared.Letter.{Letter}
use Rattle.plan.specs.declared.Letter.TheVariants.{This, Next}
use Rattle.plan.specs.declared.Kind.{Kind}
use Rattle.plan.specs.declared.Kind.TheVariants.{Start, Finish}
use Rattle.plan.specs.declared.EventName.{EventName}
use Rattle.plan.specs.EventNames.{same_letter, same_kind, same_event, is_next, event_number}
use Rattle.plan.specs.Pairs.{is_in}
use Rattle.plan.specs.EventNameLaws.{same_event-number}
use Rattle.plan.specs.PairLaws.{is_in-any, is_wrong_numbered-next, is_wrong_numbered-same, is_wrong_numbered-given}
use Rattle.plan.proofs.pairs.is_wrong_pair.Goals as goal

same_letter-derived : (l m : Letter) → sameb letter.the_type l m ≡ same_letter l m
same_letter-derived This This = refl
same_letter-derived This Next = refl
same_letter-derived Next This = refl
same_letter-derived Next Next = refl

same_kind-derived : (k n : Kind) → sameb kind.the_type k n ≡ same_kind k n
same_kind-derived Start Start = refl
same_kind-derived Start Finish = refl
same_kind-derived Finish Start = refl
same_kind-derived Finish Finish = refl

same_event-derived : (d e : EventName) → sameb letter.the_type d.letter e.letter && (sameb kind.the_type d.kind e.kind && eqb d.job e.job) ≡ same_event d e
unfolding same_event
same_event-derived d e =
    rw (same_letter-derived d.letter e.letter, same_kind-derived d.kind e.kind)
    (sym (and_assoc (same_letter d.letter e.letter) (same_kind d.kind e.kind) (eqb d.job e.job)))

is_next-derived : (l : Letter) → sameb letter.the_type l Next ≡ is_next l
is_next-derived This = refl
is_next-derived Next = refl

both_next-derived : (l m : Letter) → sameb letter.the_type l Next && sameb letter.the_type m Next ≡ is_next l && is_next m
both_next-derived l m = rw (is_next-derived l, is_next-derived m)

same-number : (d e : EventName) {b : Bool} → b ≡ sameb letter.the_type d.letter e.letter && (sameb kind.the_type d.kind e.kind && eqb d.job e.job)
    → b ≡ eqb (event_number d) (event_number e)
same-number d e h = h ∙ same_event-derived d e ∙ same_event-number d e

pub returns-then-eq : goal.returns-then-eq
returns-then-eq c =
    let a = c.args in
    sym (is_wrong_numbered-next a.given.now a.a a.b (sym (c.eq.ensures ∙ both_next-derived a.a.letter a.b.letter) ∙ c.if-eq.true))

pub returns-then-eq-2 : goal.returns-then-eq-2
returns-then-eq-2 c =
    let a = c.args in
    c.if-eq-2.true
    ∙ sym (is_wrong_numbered-same a.given.now a.a a.b (sym (c.eq.ensures ∙ both_next-derived a.a.letter a.b.letter) ∙ c.if-eq.false)
    (eqb-true (event_number a.a) (event_number a.b) (sym (same-number a.a a.b c.eq-2.ensures) ∙ c.if-eq-2.true)))

pub returns-else-eq-2 : goal.returns-else-eq-2
returns-else-eq-2 c =
    let a = c.args in
    c.contains.ensures.value
    ∙ is_in-any c.pair_number.result a.given.now
    ∙ ap (λ x. is_in x a.given.now) c.pair_number.ensures
    ∙ sym (is_wrong_numbered-given a.given.now a.a a.b (sym (c.eq.ensures ∙ both_next-derived a.a.letter a.b.letter) ∙ c.if-eq.false)
    (eqb-false (event_number a.a) (event_number a.b) (sym (same-number a.a a.b c.eq-2.ensures) ∙ c.if-eq-2.false)))
