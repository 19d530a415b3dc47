-- `rounds::given::node_of` meets its contract: each arm knows the kind.
use native.Mathlib.Omega.{arith}
use Rattle.rounds.specs.GivenLaws.{named_start, named-finish}
use Rattle.rounds.proofs.given.node_of.Goals as goal

pub returns-in-Start : goal.returns-in-Start
returns-in-Start c =
    let a = c.args in
    let k = c.place_of-k in
    let small =
    k.ensures.upper_bound in record { value = λ p same. named_start p a.e k.result c.in-Start.is (k.ensures.value p same); upper_bound = omega arith }

pub returns-in-Finish : goal.returns-in-Finish
returns-in-Finish c =
    let a = c.args in
    let k = c.place_of-k in
    let small =
    k.ensures.upper_bound in record { value = λ p same. named-finish p a.e k.result c.in-Finish.is (k.ensures.value p same); upper_bound = omega arith }
