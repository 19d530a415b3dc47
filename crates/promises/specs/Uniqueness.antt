-- No two answers meet one promise. Most crates say it of their own operations, in `Unique`; here it is said of those of `clock`, `bounds` and `rounds`. What
-- a set of bounds leaves open is said in docs/PROMISES.md.
use Rattle.std.specs.Prelude.{ℕ, ◌≡◌, refl, Bool, List, ℤ, Result, Ok, Err, is_err}
use Rattle.std.proofs.Common.{ap}
use Rattle.whole.specs.Clash.{clash}
use Rattle.text.specs.Unique.{only}
use Rattle.clock.specs.declared.WindowTime.{WindowTime}
use Rattle.clock.specs.declared.RunTime.{RunTime}
use Rattle.clock.specs.Clock.{on_run, is_earlier, is_between, moved_by}
use Rattle.plan.specs.declared.Plan.{Plan}
use Rattle.bounds.specs.declared.Contradiction.{Contradiction}
use Rattle.bounds.specs.declared.Event.{Event}
use Rattle.bounds.specs.Events.{event_of}
use Rattle.bounds.specs.Flat.{Flat, flat, put_at, no_bounds}
use Rattle.rounds.specs.declared.Verdict.{Verdict}
use Rattle.lines.specs.declared.Refusal.{Refusal}
use Rattle.rounds.specs.Rounds.{verdict, verdict_told}

-- ---- clock

pub on-run-unique : (window : ℤ) (j : ℕ) (t : WindowTime) {r q : RunTime} → r ≡ on_run window j t → q ≡ on_run window j t → r ≡ q
on-run-unique window j t = only

pub is-earlier-unique : (t u : RunTime) {r q : Bool} → r ≡ is_earlier t u → q ≡ is_earlier t u → r ≡ q
is-earlier-unique t u = only

pub is-between-unique : (from to t : RunTime) {r q : Bool} → r ≡ is_between from to t → q ≡ is_between from to t → r ≡ q
is-between-unique from to t = only

pub moved-by-unique : (t : RunTime) (c : ℤ) {r q : RunTime} → r ≡ moved_by t c → q ≡ moved_by t c → r ≡ q
moved-by-unique t c = only

-- ---- bounds

pub of-unique : (node : ℕ) {r q : Event} → r ≡ event_of node → q ≡ event_of node → r ≡ q
of-unique node = only

pub empty-unique : {ws us : List ℤ} → ws ≡ no_bounds → us ≡ no_bounds → ws ≡ us
empty-unique = only

-- whether there is a contradiction, and every weight of the array
-- an answer is a contradiction or not
same-answer : (b c : Result Unit Contradiction) → is_err b ≡ is_err c → b ≡ c
same-answer (Ok u) (Ok v) e = refl
same-answer (Ok u) (Err y) e = clash (cc)
same-answer (Err x) (Ok v) e = clash (cc)
same-answer (Err x) (Err y) e = refl

pub put-unique : (early late : List ℤ) (y z : ℕ) (v a : ℤ) (ws : List ℤ) {b c : Result Unit Contradiction} {us xs : List ℤ}
    → flat (is_err b) us ≡ put_at early late y z v a ws → flat (is_err c) xs ≡ put_at early late y z v a ws
    → (b ≡ c) × (us ≡ xs)
put-unique early late y z v a ws {b} {c} e f =
    let s = only e f in
    (same-answer b c (ap (λ (r : Flat). r.found) s), ap (λ (r : Flat). r.weights) s)

-- ---- rounds

pub settle-unique : (p : Plan) {r q : Verdict} → r ≡ verdict p → q ≡ verdict p → r ≡ q
settle-unique p = only

pub tell-verdict-unique : (v : Verdict) {r q : Result ℕ Refusal} → r ≡ verdict_told v → q ≡ verdict_told v → r ≡ q
tell-verdict-unique v = only
