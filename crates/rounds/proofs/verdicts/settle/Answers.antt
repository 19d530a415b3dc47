-- `rounds::verdicts::settle` meets its contract: C(0), the bounds between windows, and then the rounds.
use mathlib.Core.Path.{◌≡◌, refl, sym, ◌∙◌, ap}
use mathlib.Core.Bool.{false}
use native.Mathlib.Omega.{arith}
use lib.ListN.{length, length-replicate}
use Rattle.std.specs.Result.{is_err}
use Rattle.bounds.specs.Flat.{flat, put_bounds, no_bound_mark, no_bounds, cells}
use Rattle.bounds.specs.FlatLaws.{put_bounds-length}
use Rattle.rounds.specs.Given.{own_bounds, between_bounds}
use Rattle.rounds.specs.JoinedLaws.{own-none}
use Rattle.rounds.specs.SettleLaws.{verdict-none, none-on, first-none, own-table-held, between_none}
use Rattle.rounds.proofs.verdicts.settle.Goals as goal
use Rattle.rounds.proofs.verdicts.settle.Goals.{After-put_own, After-put_between}

own-is : (c : After-put_own) → let a = c.args in
    flat (is_err c.put_own.result) c.put_own.new.table.weights ≡ put_bounds a.times.now.early a.times.now.late (own_bounds a.p) no_bounds
own-is c = let a = c.args in c.put_own.ensures ∙ ap (put_bounds a.times.now.early a.times.now.late (own_bounds a.p)) c.requires.1

own-length : (c : After-put_own) → length c.put_own.new.table.weights ≡ cells
own-length c =
    let a = c.args in
    ap (λ r. length r.weights) (own-is c) ∙ put_bounds-length a.times.now.early a.times.now.late (own_bounds a.p) no_bounds
    ∙ length-replicate cells no_bound_mark

own-put : (c : After-put_own) → is_err c.put_own.result ≡ false → let a = c.args in
    flat false c.put_own.new.table.weights ≡ put_bounds a.times.now.early a.times.now.late (own_bounds a.p) no_bounds
own-put c none = ap (λ r. flat r c.put_own.new.table.weights) (sym none) ∙ own-is c

pub returns-then-is_err : goal.returns-then-is_err
returns-then-is_err c =
    let a = c.args in
    let own = (goal.at.returns-then-is_err c).After-put_own in
    let none = first-none a.p (own-none a.p a.times.now.early a.times.now.late c.requires.0 _ _ (own-is own) (sym c.if-is_err.ensures.value)) in record {
      value = verdict-none a.p 1 none;
      settled_on = none-on a.p 1 _ none;
      joined_len = own-length own;
    }

between-length : (own : After-put_own) (c : After-put_between) → length own.put_own.new.table.weights ≡ length c.put_own.new.table.weights
    → length c.put_between.new.table.weights ≡ cells
between-length own c same =
    let a = c.args in
    ap (λ r. length r.weights) c.put_between.ensures
    ∙ put_bounds-length a.times.now.early a.times.now.late (between_bounds a.p) c.put_own.new.table.weights
    ∙ sym same ∙ own-length own

pub contradicted-requires : goal.contradicted-requires
contradicted-requires c =
    let a = c.args in
    let own = (goal.at.contradicted-requires c).After-put_own in (
      own-table-held a.p a.times.now.early a.times.now.late c.requires.0 _ (own-put own (sym c.if-is_err.ensures.value)),
      omega arith,
    )

pub returns-then-is_err-2 : goal.returns-then-is_err-2
returns-then-is_err-2 c =
    let a = c.args in
    let h = goal.at.returns-then-is_err-2 c in
    let none =
    between_none a.p a.times.now.early a.times.now.late c.requires.0 _ (own-put h.After-put_own (sym c.if-is_err.ensures.value)) _ _ c.put_between.ensures
    (sym c.if-is_err-2.ensures.value) in record {
      value = c.contradicted.ensures ∙ verdict-none a.p _ none;
      settled_on = none-on a.p _ _ none;
      joined_len = between-length h.After-put_own h.After-put_between refl;
    }

pub settle_rounds-requires : goal.settle_rounds-requires
settle_rounds-requires c =
    let h = goal.at.settle_rounds-requires c in (
      c.requires.0,
      record {
        own_put = own-put h.After-put_own (sym c.if-is_err.ensures.value);
        base-put = ap (λ f. flat f c.put_between.new.table.weights) c.if-is_err-2.ensures.value ∙ c.put_between.ensures;
      },
      between-length h.After-put_own h.After-put_between refl,
    )

pub returns : goal.returns
returns c =
    let told = c.settle_rounds.ensures in
    record { value = told.value; settled_on = told.settled_on; joined_len = told.joined_len }
