use Rattle.std.proofs.Common.{rules, ◌+◌, ◌∙◌, ap, sym, subst, ℤ, pos, get_or, SFits, w32}
use Rattle.clock.specs.declared.RunTime.{RunTime}
use Rattle.events.specs.BitsLaws.{EachOf}
use Rattle.runs.specs.Offers.{term_at}
use Rattle.runs.specs.Ends.{end_over}
use Rattle.runs.specs.EndLaws.{term-read}
use Rattle.runs.specs.Inside.{TermInside}
use Rattle.runs.proofs.ends.end_of.Goals as goal

pub loop-e-preserved : goal.loop-e-preserved
loop-e-preserved g c =
    let a = c.args in
    let l = c.loop-e in
    let steps = c.in-Some.ensures.steps in
    let term = term_at a.seen.now a.cs.now a.row in
    let f : SFits w32 (get_or a.cs.now (a.row + c.in-Some.e) (pos 0)) = search rules in
    let read = ap (λ (t : RunTime). t.0) c.add.ensures ∙ term-read a.seen.now a.cs.now a.row c.in-Some.e _ c.time_at.ensures f in (
      (subst (EachOf (TermInside a.seen.now a.cs.now a.row)) steps l.invariant.0).1,
      λ picked acts.
          l.invariant.1 picked acts
          ∙ ap (end_over picked term l.end.0) steps
          ∙ ap (λ (z : ℤ). end_over picked term z c.next.new.self) (sym (acts _ _ _ c.pick-end.ensures ∙ ap (picked l.end.0) read)),
    )
