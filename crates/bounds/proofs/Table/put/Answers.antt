-- `bounds::Table::put` meets its contract: it goes as `put_at` goes, by the laws of `FlatLaws`.
use mathlib.Core.Path.{◌∙◌, sym, ap}
use mathlib.Core.Bool.{false}
use lib.ListN.{set}
use mir.Syntax.{w32}
use Rattle.whole.specs.SplitLaws.{told-fits}
use Rattle.bounds.specs.declared.Judgement.TheVariants.{Contradiction, LeftOut, Kept}
use Rattle.bounds.specs.Spans.{judged_at}
use Rattle.bounds.specs.Flat.{weight_at, place, flat}
use Rattle.bounds.specs.FlatLaws.{is-mark, no-mark, put_at-none, put_at-more, put_at-judged}
use Rattle.bounds.proofs.Sums.{sum_back, sum-test}
use Rattle.bounds.proofs.Table.put.Goals as goal

pub returns-then-v-eq-NO_BOUND : goal.returns-then-v-eq-NO_BOUND
returns-then-v-eq-NO_BOUND c =
    put_at-none c.args.times.now.early c.args.times.now.late c.args.y c.args.z c.args.v c.args.a c.args.self.now.weights
    (is-mark c.ranges.v c.if-v-eq-NO_BOUND.true)

pub returns-then-present-w : goal.returns-then-present-w
returns-then-present-w c =
    let on = no-mark c.ranges.v c.if-v-eq-NO_BOUND.false in
    let here = told-fits w32 (weight_at c.args.self.now.weights c.args.y c.args.z) c.present-1.given in
    let test = sum-test c.ranges.v c.ranges.a (c.requires.2 on) here c.if-present-w.true in
    put_at-more c.args.times.now.early c.args.times.now.late c.args.y c.args.z c.args.v c.args.a c.args.self.now.weights on test

pub returns-in-Contradiction : goal.returns-in-Contradiction
returns-in-Contradiction c =
    let on = no-mark c.ranges.v c.if-v-eq-NO_BOUND.false in
    let here = told-fits w32 (weight_at c.args.self.now.weights c.args.y c.args.z) c.present-1.given in
    let test = sum-test c.ranges.v c.ranges.a (c.requires.2 on) here c.if-present-w.false in
    let back = sum_back c.ranges.v c.ranges.a (c.requires.2 on) in
    put_at-judged c.args.times.now.early c.args.times.now.late c.args.y c.args.z c.args.v c.args.a c.args.self.now.weights Contradiction on test
    (ap (judged_at c.args.times.now.early c.args.times.now.late c.args.y c.args.z) (sym back) ∙ sym c.judge_nodes.ensures
    ∙ c.in-Contradiction.is)

pub returns-in-LeftOut : goal.returns-in-LeftOut
returns-in-LeftOut c =
    let on = no-mark c.ranges.v c.if-v-eq-NO_BOUND.false in
    let here = told-fits w32 (weight_at c.args.self.now.weights c.args.y c.args.z) c.present-1.given in
    let test = sum-test c.ranges.v c.ranges.a (c.requires.2 on) here c.if-present-w.false in
    let back = sum_back c.ranges.v c.ranges.a (c.requires.2 on) in
    put_at-judged c.args.times.now.early c.args.times.now.late c.args.y c.args.z c.args.v c.args.a c.args.self.now.weights LeftOut on test
    (ap (judged_at c.args.times.now.early c.args.times.now.late c.args.y c.args.z) (sym back) ∙ sym c.judge_nodes.ensures
    ∙ c.in-LeftOut.is)

pub returns-in-Kept : goal.returns-in-Kept
returns-in-Kept c =
    let on = no-mark c.ranges.v c.if-v-eq-NO_BOUND.false in
    let here = told-fits w32 (weight_at c.args.self.now.weights c.args.y c.args.z) c.present-1.given in
    let test = sum-test c.ranges.v c.ranges.a (c.requires.2 on) here c.if-present-w.false in
    let back = sum_back c.ranges.v c.ranges.a (c.requires.2 on) in
    ap (λ w. flat false (set c.args.self.now.weights (place c.args.y c.args.z) w)) back
    ∙ put_at-judged c.args.times.now.early c.args.times.now.late c.args.y c.args.z c.args.v c.args.a c.args.self.now.weights Kept on test
    (ap (judged_at c.args.times.now.early c.args.times.now.late c.args.y c.args.z) (sym back) ∙ sym c.judge_nodes.ensures
    ∙ c.in-Kept.is)
