-- An array that is filled from the front: what is filled has its times, and the rest is 0.
use Rattle.std.specs.Prelude.{ℕ, ◌+◌, ◌≤◌, ◌<◌, ◌≡◌, refl, Bool, true, false, List, ltb, ℤ, pos, length, set, replicate}
use Rattle.std.proofs.Common.{sym, ap, subst, ◌∙◌, ⊎_elim, arith, length-set, get_or-set_same, get_or-set_other, ltb-true, ltb-false}
use Rattle.std.proofs.lemmas.List.{length-replicate, get_or-replicate}
use Rattle.whole.specs.Rules.{wholes}
use Rattle.plan.specs.declared.Plan.{Plan}
use Rattle.plan.specs.Accepted.{Accepted}
use Rattle.bounds.specs.declared.Event.{Event}
use Rattle.bounds.specs.declared.Event.TheVariants.{Origin, Start, Finish}
use Rattle.bounds.specs.Events.{earliest, latest, event_of, start_node, finish_node, nodes, most_nodes}
use Rattle.bounds.specs.BuildLaws.{event_of-start, event_of-finish}
use Rattle.bounds.specs.Spans.{time_of_node, InRange}
use Rattle.bounds.specs.Held.{TimesHeld}
use Rattle.bounds.specs.JudgedTableLaws.{earliest-in, latest-in}
use Rattle.bounds.specs.StartLaws.{less-or-same}

-- the first n nodes have their times
pub record Filled (t : Event → ℤ) (n : ℕ) (ts : List ℤ) : Type 0 where
  pub len : length ts ≡ most_nodes
  pub done : (y : ℕ) → y < n → time_of_node ts y ≡ t (event_of y)
  pub rest : (y : ℕ) → n ≤ y → y < most_nodes → time_of_node ts y ≡ pos 0

filled_more : (t : Event → ℤ) (n : ℕ) (ts : List ℤ) (a : ℤ) → n < most_nodes → a ≡ t (event_of n) → Filled t n ts → Filled t (n + 1) (set ts n a)
filled_more t n ts a h e f =
    record {
      len = length-set ts n a ∙ f.len;
      done = λ y l.
          ⊎_elim (λ q. get_or-set_other ts n y a (pos 0) (λ g. omega arith) ∙ f.done y q)
          (λ q. subst (λ y. time_of_node (set ts n a) y ≡ t (event_of y)) (sym q) (get_or-set_same ts n a (pos 0) (omega (arith, f.len)) ∙ e))
          (less-or-same y n l);
      rest = λ y l m. get_or-set_other ts n y a (pos 0) (λ g. omega arith) ∙ f.rest y (omega arith) m;
    }

-- the origin has 0 already
pub filled-origin : (t : Event → ℤ) → t Origin ≡ pos 0 → Filled t (nodes 0) (replicate most_nodes (pos 0))
unfolding event_of
filled-origin t e =
    record {
      len = length-replicate most_nodes (pos 0);
      done = λ y h.
          let first : y ≡ 0 = omega arith in
          subst (λ y. time_of_node (replicate most_nodes (pos 0)) y ≡ t (event_of y)) (sym first)
          (get_or-replicate most_nodes 0 (pos 0) (pos 0) (omega arith) ∙ sym e);
      rest = λ y h l. get_or-replicate most_nodes y (pos 0) (pos 0) l;
    }

-- and a place has its start and its finish
pub filled-place : (t : Event → ℤ) (k : ℕ) (ts : List ℤ) (a b : ℤ) → finish_node k < most_nodes → a ≡ t (Start k) → b ≡ t (Finish k) → Filled t (nodes k) ts
    → Filled t (nodes (k + 1)) (set (set ts (start_node k) a) (finish_node k) b)
filled-place t k ts a b h d e f =
    let next : start_node k + 1 ≡ finish_node k = omega arith in
    let last : finish_node k + 1 ≡ nodes (k + 1) = omega arith in
    subst (λ n. Filled t n (set (set ts (start_node k) a) (finish_node k) b)) last
    (filled_more t (finish_node k) (set ts (start_node k) a) b h (e ∙ ap t (sym (event_of-finish k)))
    (subst (λ n. Filled t n (set ts (start_node k) a)) next
    (filled_more t (start_node k) ts a (omega arith) (d ∙ ap t (sym (event_of-start k))) f)))

-- ---- both arrays

module _ (t : Event → ℤ) (n : ℕ) (ts : List ℤ) (f : Filled t n ts) (known : (y : ℕ) → y < n → InRange (t (event_of y))) where
  filled_in : (y : ℕ) → y < most_nodes → InRange (time_of_node ts y)
  filled_in y h = by (ltb y n) refl
    where
      by : (b : Bool) → ltb y n ≡ b → InRange (time_of_node ts y)
      by true q = let low = ltb-true y n q in subst InRange (sym (f.done y low)) (known y low)
      by false q = subst InRange (sym (f.rest y (ltb-false y n q) h)) (record { least = omega wholes; greatest = omega wholes })

module _ (p : Plan) (a : Accepted p) (early late : List ℤ)
    (e : Filled (earliest p) (nodes (p.jobs + p.jobs)) early) (l : Filled (latest p) (nodes (p.jobs + p.jobs)) late) where
  early-known : (y : ℕ) → y < nodes (p.jobs + p.jobs) → InRange (earliest p (event_of y))
  early-known y h = let r = earliest-in p a y h in let low = r.least in let high = r.greatest in record { least = omega wholes; greatest = omega wholes }

  late-known : (y : ℕ) → y < nodes (p.jobs + p.jobs) → InRange (latest p (event_of y))
  late-known y h = let r = latest-in p a y h in let low = r.least in let high = r.greatest in record { least = omega wholes; greatest = omega wholes }

  pub filled-times-held : TimesHeld p early late
  filled-times-held =
      record {
        accepted = a;
        times = record { earliest-at = λ y h. e.done y h; latest-at = λ y h. l.done y h };
        timed = λ y h. record { node = h; early-in = filled_in _ _ early e early-known y h; late-in = filled_in _ _ late l late-known y h };
      }
