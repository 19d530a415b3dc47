-- The node of the event that a name means, by its kind.
use Rattle.std.specs.Prelude.{ℕ, ◌+◌, ◌*◌, ◌≡◌}
use Rattle.std.proofs.Common.{sym, ap, ◌∙◌}
use Rattle.plan.specs.declared.Kind.TheVariants as kind
use Rattle.plan.specs.declared.EventName.{EventName}
use Rattle.plan.specs.declared.Plan.{Plan}
use Rattle.bounds.specs.Events.{node_of}
use Rattle.rounds.specs.Given.{place_of, event_at, named}

pub named_start : (p : Plan) (e : EventName) (k : ℕ) → e.kind ≡ kind.Start → k ≡ place_of p e.letter e.job → 1 + 2 * k ≡ node_of (named p e)
unfolding node_of
named_start p e k h q = ap (λ k. 1 + 2 * k) q ∙ ap (λ d. node_of (event_at d (place_of p e.letter e.job))) (sym h)

pub named-finish : (p : Plan) (e : EventName) (k : ℕ) → e.kind ≡ kind.Finish → k ≡ place_of p e.letter e.job → 2 + 2 * k ≡ node_of (named p e)
unfolding node_of
named-finish p e k h q = ap (λ k. 2 + 2 * k) q ∙ ap (λ d. node_of (event_at d (place_of p e.letter e.job))) (sym h)
