-- `rounds::given::place_of` meets its contract: each arm knows the letter.
use Prim.Native.Nat.{◌+◌, ◌-◌}
use mathlib.Core.Path.{sym, ap, ◌∙◌}
use native.Mathlib.Omega.{arith}
use Rattle.rounds.specs.Given.{place_of}
use Rattle.rounds.proofs.given.place_of.Goals as goal

pub returns-in-This : goal.returns-in-This
returns-in-This c =
    let a = c.args in
    let low = c.requires.1 in record { value = λ p e. sym (ap (λ l. place_of p l a.i) c.in-This.is); upper_bound = omega arith }

pub returns-in-Next : goal.returns-in-Next
returns-in-Next c =
    let a = c.args in
    let low = c.requires.1 in
    let few = c.requires.2 in record { value = λ p e. ap (λ n. n + (a.i - 1)) e ∙ sym (ap (λ l. place_of p l a.i) c.in-Next.is); upper_bound = omega arith }
