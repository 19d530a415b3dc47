use Rattle.std.proofs.Common.{arith, refl, sym, ap, ◌∙◌, ◌+◌, ◌-◌, ◌/◌}
use Rattle.text.specs.Lent.{put, last_digits}
use Rattle.text.specs.DigitLaws.{digits-one, digits-short}
use Rattle.text.specs.LentLaws.{put-all_digits, put-last_digits, put-no_digits}
use Rattle.text.proofs.decimal.put_digits.Goals as goal

pub overflow_add-behind : goal.overflow_add-behind
overflow_add-behind c = omega (arith, digits-short c.args.n c.ranges.n.fits)

pub returns-then-n-lt10 : goal.returns-then-n-lt10
unfolding put
returns-then-n-lt10 c = rw (digits-one c.args.n (omega arith)) (record { place = refl; slice = c.store.ensures })

pub loop-place-init : goal.loop-place-init
loop-place-init c = put-all_digits c.args.out.now c.args.at _ c.args.n (ap (λ k. c.args.at + k) c.count_digits.ensures)

pub loop-place-preserved : goal.loop-place-preserved
loop-place-preserved c =
    let l = c.loop-place in
    l.invariant ∙ put-last_digits l.out c.args.at l.place l.left (omega arith) ∙ ap (λ o. put o c.args.at (last_digits (l.place - 1 - c.args.at) (l.left / 10))) (sym c.store-in-loop-place.ensures)

pub returns : goal.returns
returns c =
    let l = c.loop-place in
    record { place = ap (λ k. c.args.at + k) c.count_digits.ensures; slice = sym (l.invariant ∙ put-no_digits l.out c.args.at l.place l.left (omega arith)) }
