use Prim.Native.Nat.{ℕ, ◌+◌, ◌-◌}
use mathlib.Core.Path.{◌≡◌, refl, sym, ◌∙◌, ap, subst}
use native.Mathlib.Omega.{arith}
use lib.ListN.{length}
use mir.Syntax.{w32}
use mir.Val.{SFits, to_z, of_z}
use mir.Facts.{to_z-of_z}
use Rattle.std.specs.Result.{is_err}
use Rattle.whole.specs.Rules.{wholes}
use Rattle.plan.specs.declared.Plan.{Plan}
use Rattle.plan.specs.Accepted.{Accepted}
use Rattle.bounds.specs.Events.{nodes}
use Rattle.bounds.specs.Flat.{rows_of, flat}
use Rattle.rounds.specs.Rounds.{unsettled, rounds_from, outcome}
use Rattle.rounds.specs.Next.{Nexts, next_rows}
use Rattle.rounds.specs.Settling.{SettledOn}
use Rattle.rounds.specs.SettleLaws.{verdict-none, verdict-settled, verdict-unsettled, none-on, unsettled-on, rounds-end, own-judged-table, own-size, first_round, Carrying, carried-nexts, joined-none, joined-table-held, remains-none, remains-judged-table, round-later, round-settled, round-settled-on}
use Rattle.rounds.proofs.verdicts.settle_rounds.Goals as goal
use Rattle.rounds.proofs.verdicts.settle_rounds.Goals.{In-loop-m, After-put_next}

pub loop-m-init : goal.loop-m-init
loop-m-init c =
    let a = c.args in
    let own = a.carried.now.weights in
    let all : a.p.rounds ≡ a.p.rounds + 1 - 1 = omega arith in
    let c0 = rows_of (nodes a.p.jobs) own in (
      first_round a.p a.times.now.early a.times.now.late c.requires.0 own c.requires.1.own_put ∙ ap (λ n. rounds_from a.p c0 1 n c0) all,
      own-judged-table a.p a.times.now.early a.times.now.late c.requires.0 own c.requires.1.own_put,
      own-size a.p a.times.now.early a.times.now.late c.requires.0 own c.requires.1.own_put,
      refl,
    )

-- ---- what a turn begins with

carrying : (c : In-loop-m) → let a = c.args in
    let l = c.loop-m in
    Carrying a.p a.times.now.early a.times.now.late a.carried.now.weights a.joined.now.weights l.m ((a.p.rounds + 1) - l.m) l.carried.weights
carrying c =
    let l = c.loop-m in
    record { times-held = c.requires.0; based = c.requires.1; some = omega arith; before = l.invariant.0; fit = l.invariant.1; size = l.invariant.2 }

window-fits : (p : Plan) → Accepted p → SFits w32 p.window
window-fits p a = let l = a.window-least in let m = a.window-most in omega wholes

nexts : (c : In-loop-m) → let a = c.args in
    Nexts a.times.now.early a.times.now.late a.p.jobs (to_z w32 (of_z w32 a.p.window)) c.loop-m.carried.weights
nexts c =
    let a = c.args in
    subst (λ w. Nexts a.times.now.early a.times.now.late a.p.jobs w c.loop-m.carried.weights)
    (sym (to_z-of_z (window-fits a.p c.requires.0.accepted)))
    (carried-nexts (carrying c))

-- ---- the carried set is put on the next window

pub put_next-requires : goal.put_next-requires
put_next-requires c = nexts (goal.at.put_next-requires c).In-loop-m

put_is : (c : After-put_next) → let a = c.args in
    let l = c.loop-m in
    flat (is_err c.put_next.result) c.put_next.new.table.weights
    ≡ next_rows a.times.now.early a.times.now.late a.p.jobs a.p.window l.carried.weights a.joined.now.weights
put_is c =
    let a = c.args in
    let l = c.loop-m in
    c.put_next.ensures
    ∙ ap (λ w. next_rows a.times.now.early a.times.now.late a.p.jobs w l.carried.weights l.joined.weights) (to_z-of_z (window-fits a.p c.requires.0.accepted))
    ∙ ap (λ t. next_rows a.times.now.early a.times.now.late a.p.jobs a.p.window l.carried.weights t.weights) l.invariant.3

pub returns-then-is_err : goal.returns-then-is_err
returns-then-is_err c =
    let p = c.args.p in
    let h = goal.at.returns-then-is_err c in
    let none = joined-none (carrying h.In-loop-m) _ _ (put_is h.After-put_next) (sym c.if-is_err.ensures.value) in record {
      value = c.contradicted.ensures ∙ verdict-none p _ none;
      settled_on = none-on p _ _ none;
      joined_len = ap (λ t. length t.weights) c.loop-m.invariant.3 ∙ c.requires.2;
    }

-- ---- and the next window's events are eliminated

pub drop_places-requires : goal.drop_places-requires
drop_places-requires c =
    let h = goal.at.drop_places-requires c in
    record { plan = c.args.p; stands = joined-table-held (carrying h.In-loop-m) _ _ (put_is h.After-put_next) (sym c.if-is_err.ensures.value) }

pub returns-then-is_err-2 : goal.returns-then-is_err-2
returns-then-is_err-2 c =
    let p = c.args.p in
    let h = goal.at.returns-then-is_err-2 c in
    let turn = carrying h.In-loop-m in
    let joins = put_is h.After-put_next in
    let joined = sym c.if-is_err.ensures.value in
    let remains = c.drop_places.ensures.weights_after p (joined-table-held turn _ _ joins joined) in
    let none = remains-none turn _ _ joins joined _ _ remains (sym c.if-is_err-2.ensures.value) in record {
      value = c.contradicted-then-is_err-2.ensures ∙ verdict-none p _ none;
      settled_on = none-on p _ _ none;
      joined_len = ap (λ t. length t.weights) c.loop-m.invariant.3 ∙ c.requires.2;
    }

-- ---- 'C(m) = C(m-1)'

pub put_next-requires-then-same_rows : goal.put_next-requires-then-same_rows
put_next-requires-then-same_rows c = nexts (goal.at.put_next-requires-then-same_rows c).In-loop-m

pub returns-then-same_rows : goal.returns-then-same_rows
returns-then-same_rows c =
    let p = c.args.p in
    let h = goal.at.returns-then-same_rows c in
    let turn = carrying h.In-loop-m in
    let joins = put_is h.After-put_next in
    let joined = sym c.if-is_err.ensures.value in
    let held = joined-table-held turn _ _ joins joined in
    let remains = c.drop_places.ensures.weights_after p held in
    let left = sym c.if-is_err-2.ensures.value in
    let same = sym c.same_rows.ensures ∙ c.if-same_rows.true in
    let anew : c.put_next-then-same_rows.new.table.weights ≡ c.put_next.new.table.weights
    = ap (λ f. f.weights) (c.put_next-then-same_rows.ensures ∙ sym c.put_next.ensures) in record {
      value = verdict-settled p c.loop-m.m _ (round-settled turn _ _ joins joined _ _ remains left same);
      settled_on = subst (λ us. SettledOn p (rows_of (nodes (p.jobs + p.jobs)) us)) (sym anew)
          (round-settled-on turn _ _ joins joined _ _ remains left same);
      joined_len = ap length anew ∙ held.size;
    }

one_less : (n m : ℕ) → (n + 1) - m - 1 ≡ (n + 1) - (m + 1)
one_less n m = omega arith

pub loop-m-preserved : goal.loop-m-preserved
loop-m-preserved c =
    let p = c.args.p in
    let h = goal.at.loop-m-preserved c in
    let turn = carrying h.In-loop-m in
    let joins = put_is h.After-put_next in
    let joined = sym c.if-is_err.ensures.value in
    let held = joined-table-held turn _ _ joins joined in
    let remains = c.drop_places.ensures.weights_after p held in
    let left = sym c.if-is_err-2.ensures.value in (
      round-later turn _ _ joins joined _ _ remains left (sym c.same_rows.ensures ∙ c.if-same_rows.false)
          ∙ ap (λ rest. rounds_from p (rows_of (nodes p.jobs) c.args.carried.now.weights) (c.loop-m.m + 1) rest
          (rows_of (nodes p.jobs) c.drop_places.new.self.weights))
          (one_less p.rounds c.loop-m.m),
      remains-judged-table turn _ _ joins joined _ _ remains left,
      c.drop_places.ensures.weights_len_unchanged ∙ held.size,
      c.loop-m.invariant.3,
    )

pub returns-else-same_rows : goal.returns-else-same_rows
returns-else-same_rows c =
    let p = c.args.p in
    let h = goal.at.returns-else-same_rows c in
    let turn = carrying h.In-loop-m in
    let joins = put_is h.After-put_next in
    let joined = sym c.if-is_err.ensures.value in
    let remains = c.drop_places.ensures.weights_after p (joined-table-held turn _ _ joins joined) in
    let left = sym c.if-is_err-2.ensures.value in
    let none : outcome p ≡ unsettled
    = round-later turn _ _ joins joined _ _ remains left (sym c.same_rows.ensures ∙ c.if-same_rows.false)
    ∙ rounds-end p (rows_of (nodes p.jobs) c.args.carried.now.weights) (c.loop-m.m + 1) _ (rows_of (nodes p.jobs) c.drop_places.new.self.weights)
    (omega arith) in record {
      value = verdict-unsettled p none;
      settled_on = unsettled-on p _ none;
      joined_len = ap (λ t. length t.weights) c.loop-m.invariant.3 ∙ c.requires.2;
    }
