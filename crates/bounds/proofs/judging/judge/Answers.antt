-- `bounds::judging::judge` meets its contract: each arm knows y and z, and answers by the clause of `judged_by` for them.
use mathlib.Core.Path.{◌≡◌, sym, ◌∙◌, ap}
use borrow.Author.Tests.{eq-eqb, ne_eqb}
use mir.Facts.{to_z-of_z}
use Rattle.std.proofs.Common.{rules}
use Rattle.bounds.specs.declared.Event.TheVariants.{Origin, Start, Finish}
use Rattle.bounds.specs.Spans.{judged_by}
use Rattle.bounds.specs.SpansLaws.{judged_by-same, judged_by-from, judged_by-to}
use Rattle.bounds.proofs.judging.judge.Goals as goal
use Rattle.bounds.proofs.judging.judge.Goals.{
  in_default-Origin-via-in-Start+in-Origin,
  in_default-Origin-via-in-Finish+in-Origin,
  in_default-via-in-Start-Finish+else-j-k,
  in_default-via-in-Start+in_default,
  in_default-via-in-Finish-Start+else-j-k-2,
  in_default-via-in-Finish+in_default,
}

pub returns-then-eq : goal.returns-then-eq
returns-then-eq c =
    let a = c.args in
    let same : a.y ≡ a.z = search rules in
    simp (to_z-of_z c.ranges.w) at c.at_least.ensures ∙ judged_by-same a.low a.high a.late a.early a.w a.y a.z same

pub returns-in-Start-Finish : goal.returns-in-Start-Finish
unfolding judged_by
returns-in-Start-Finish c =
    let m = c.in-Start-Finish in
    rw (m.is-0, m.is-1, eq-eqb _ _ c.if-j-k.true)
    (simp (to_z-of_z c.ranges.w, to_z-of_z c.ranges.late) at c.at_least-in-Start-Finish.ensures)

pub returns-in-Finish-Start : goal.returns-in-Finish-Start
unfolding judged_by
returns-in-Finish-Start c =
    let m = c.in-Finish-Start in
    rw (m.is-0, m.is-1, eq-eqb _ _ c.if-j-k-2.true)
    (simp (to_z-of_z c.ranges.w, to_z-of_z c.ranges.early) at c.at_least-in-Finish-Start.ensures)

pub returns-in-Origin-default : goal.returns-in-Origin-default
returns-in-Origin-default c =
    let a = c.args in
    let apart : a.y ≡ a.z → ⊥ = search rules in
    rw c.in-Origin-default.is-0
    (simp (to_z-of_z c.ranges.w, to_z-of_z c.ranges.low) at c.from_origin.ensures
    ∙ judged_by-from a.low a.high a.late a.early a.w a.z (λ e. apart (c.in-Origin-default.is-0 ∙ e)))

pub returns-in_default-Origin : goal.returns-in_default-Origin
returns-in_default-Origin c =
    let a = c.args in
    let apart : a.y ≡ a.z → ⊥ = search rules in
    let at-origin : a.z ≡ Origin
    = elim c.in_default-Origin.branch [
      | in_default-Origin-via-in-Start+in-Origin w ↦ w.in_default-Origin.is-1
      | in_default-Origin-via-in-Finish+in-Origin w ↦ w.in_default-Origin.is-1
    ] in
    rw at-origin
    (simp (to_z-of_z c.ranges.w, to_z-of_z c.ranges.low) at c.from_origin-in_default-Origin.ensures
    ∙ judged_by-to a.low a.high a.late a.early a.w a.y (λ e. apart (e ∙ sym at-origin)))

pub returns-in_default : goal.returns-in_default
unfolding judged_by
returns-in_default c =
    let a = c.args in
    let apart : a.y ≡ a.z → ⊥ = search rules in
    let answer = simp (to_z-of_z c.ranges.w, to_z-of_z c.ranges.low, to_z-of_z c.ranges.high) at c.apart.ensures in
    elim c.in_default.branch [
      | in_default-via-in-Start-Finish+else-j-k w ↦ let m = w.in-Start-Finish in rw (m.is-0, m.is-1, ne_eqb _ _ w.if-j-k.false) answer
      | in_default-via-in-Start+in_default w ↦
          let m = w.in_default in rw (m.is-0, m.is-1, ne_eqb _ _ (λ e. apart (m.is-0 ∙ ap Start e ∙ sym m.is-1))) answer
      | in_default-via-in-Finish-Start+else-j-k-2 w ↦ let m = w.in-Finish-Start in rw (m.is-0, m.is-1, ne_eqb _ _ w.if-j-k-2.false) answer
      | in_default-via-in-Finish+in_default w ↦
          let m = w.in_default in rw (m.is-0, m.is-1, ne_eqb _ _ (λ e. apart (m.is-0 ∙ ap Finish e ∙ sym m.is-1))) answer
    ]
