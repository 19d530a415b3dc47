-- `len_to`: the place of the first b, or the length, is the length to b (`len_to-position`).
use Rattle.std.proofs.Common.{◌≡◌, rules, tests, length, eqb, ap, ◌∙◌}
use Rattle.std.proofs.lemmas.Iterator.{YieldsList-from_slice}
use Rattle.std.proofs.lemmas.Iterator.Search.{position_from_yields_List}
use Rattle.std.specs.Prelude.{unwrap_or}
use Rattle.std.specs.List.{position}
use Rattle.text.specs.LineLaws.{len_to-position}
use Rattle.text.proofs.line.len_to.Goals as goal

pub returns : goal.returns
returns c =
    let s = c.args.s.now in
    let found : c.position.result ≡ position (λ a. eqb a c.args.b) s =
    position_from_yields_List _ _ _ _ c.position.ensures.ran (YieldsList-from_slice s cc) (λ x b q k. search (rules, tests)) in
    c.unwrap_or.ensures ∙ ap (λ o. unwrap_or o (length s)) found ∙ len_to-position c.args.b s
