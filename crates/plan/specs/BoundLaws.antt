-- The laws of a bound line as the code takes it apart. A name up to its comma (`name_to-bare`, `name_to-read`), at a place in the line (`name_to-fits`); the
-- two names and the number are the line's parts (`names_in-parts`); the judgement, test by test (`judged_bound-range`, `-pair`, `-value`); a c that was read is
-- an i32 (`c-fits`); and the line, way by way (`bound_of-bare`, `-value`, `-fault`).
use Rattle.std.specs.Prelude.{◌≡◌, Bool, true, false, not, cond, ◌&&◌, take, ℤ, Option, Some, None, Ok, Err}
use Rattle.std.proofs.Math.Path.{refl, ap}
use Rattle.std.proofs.Common.{sym, ◌∙◌, subst, arith, lt-ltb, le-ltb, ltb-true, drop-drop, add_assoc}
use mathlib.Core.List.{List}
use Rattle.std.proofs.Math.Option as math
use Prim.Native.Nat.{ℕ, ◌+◌, ◌≤◌, ◌<◌}
use Rattle.std.proofs.Math.ListN.{length, drop, length-drop}
use mir.Syntax.{w32}
use mir.Val.{SFits}
use Rattle.whole.specs.Clash.{clash}
use Rattle.whole.specs.Rules.{whole}
use Rattle.whole.specs.Widths.{i32-fits}
use Rattle.text.specs.Bytes.{bytes}
use Rattle.text.specs.Lines.{comma, len_to, before, has, after, after_key, has_key}
use Rattle.text.specs.LineLaws.{has_key-true, has_key-false, has_key-fits}
use Rattle.text.specs.NumberLaws.{decimal-form, decimal-back, number_in-value}
use Rattle.text.specs.Numbers.{within, is_number, number_value, number_in, number_within, decimal}
use Rattle.text.specs.declared.NumberFault.{NumberFault}
use Rattle.text.specs.declared.NumberFault.TheVariants as number_fault
use Rattle.lines.specs.declared.Fault.TheVariants as fault
use Rattle.lines.specs.Refusals.{line_lacks}
use Rattle.plan.specs.declared.EventName.{EventName}
use Rattle.plan.specs.declared.Bound.{Bound}
use Rattle.plan.specs.Limits.{least_c, greatest_c}
use Rattle.plan.specs.EventNames.{event_name}
use Rattle.plan.specs.PlanLines.{BoundParts, parts_of, bound_parts, is_job, judged_bound, bound_of}
use Rattle.plan.specs.BoundNames.{part_named, name_to, then_number, then_second, names_in}

-- ---- a name up to its comma

module _ (l : List ℕ) (at : ℕ) where
  -- s is the rest of the line, and i the length to its comma
  pub name_to-bare : (s : List ℕ) (i : ℕ) → s ≡ drop at l → i ≡ len_to comma s → length s ≤ i → name_to l at ≡ None
  unfolding name_to
  name_to-bare s i p q h =
      rw (← p) (rw (le-ltb (len_to comma s) (length s) (omega arith)))

  pub name_to-read : (s : List ℕ) (i : ℕ) → s ≡ drop at l → i ≡ len_to comma s → i < length s → (r : Option EventName) → r ≡ event_name (take i s)
      → name_to l at ≡ part_named (at + i + 1) r
  unfolding name_to
  name_to-read s i p q h r e =
      rw (← p) (rw (lt-ltb (len_to comma s) (length s) (omega arith), e, ← q))

  pub name_to-fits : at ≤ length l → {e : EventName} {k : ℕ} → name_to l at ≡ Some (e, k) → k ≤ length l
  unfolding name_to
  name_to-fits h {e} {k} d = by-comma (has comma (drop at l)) refl d
    where
      by_name : (o : Option EventName) → len_to comma (drop at l) < length (drop at l) → part_named (at + len_to comma (drop at l) + 1) o ≡ Some (e, k)
          → k ≤ length l
      by_name None g d = clash (cc)
      by_name (Some f) g d =
          let q : ◌≡◌ {A = EventName × ℕ} (f, at + len_to comma (drop at l) + 1) (e, k) = cc in
          omega (arith, length-drop at l, ap (λ (x : EventName × ℕ). x.1) q)

      by-comma : (b : Bool) → has comma (drop at l) ≡ b
          → cond b (part_named (at + len_to comma (drop at l) + 1) (event_name (before comma (drop at l)))) None ≡ Some (e, k) → k ≤ length l
      by-comma true g d = by_name (event_name (before comma (drop at l))) (ltb-true (len_to comma (drop at l)) (length (drop at l)) g) d
      by-comma false g d = clash (cc)

-- ---- the line's parts

abbrev pub parts_from : List ℕ → Option (EventName × EventName × ℕ) → Option BoundParts
parts_from l None = None
parts_from l (Some (a, b, at)) = parts_of (Some a) (Some b) (drop at l)

after-drop : (l : List ℕ) (at : ℕ) → after comma (drop at l) ≡ drop (at + len_to comma (drop at l) + 1) l
after-drop l at = drop-drop (len_to comma (drop at l) + 1) at l ∙ ap (λ n. drop n l) (sym (add_assoc at (len_to comma (drop at l)) 1))

-- the second name, after the first one
second_parts : (l : List ℕ) (k : ℕ) (a : EventName)
    → cond (has comma (drop k l)) (parts_of (Some a) (event_name (before comma (drop k l))) (after comma (drop k l))) None ≡ parts_from l
    (then_number a (name_to l k))
unfolding name_to
second_parts l k a = by-comma (has comma (drop k l)) (event_name (before comma (drop k l)))
  where
    by-comma : (t : Bool) (o : Option EventName)
        → cond t (parts_of (Some a) o (after comma (drop k l))) None ≡ parts_from l
        (then_number a (cond t (part_named (k + len_to comma (drop k l) + 1) o) None))
    by-comma true None = refl
    by-comma true (Some b) = ap (λ c. parts_of (Some a) (Some b) c) (after-drop l k)
    by-comma false o = refl

first-parts : (l : List ℕ) (k : ℕ) → bound_parts (math.some (drop k l)) ≡ parts_from l (then_second l (name_to l k))
unfolding name_to bound_parts
first-parts l k = by-comma (has comma (drop k l)) (event_name (before comma (drop k l)))
  where
    none-parts : (t : Bool) → ◌≡◌ {A = Option BoundParts} (cond t None None) None
    none-parts true = refl
    none-parts false = refl

    by-comma : (t : Bool) (o : Option EventName)
        → cond (t && has comma (after comma (drop k l))) (parts_of o (event_name (before comma (after comma (drop k l))))
        (after comma (after comma (drop k l)))) None
        ≡ parts_from l (then_second l (cond t (part_named (k + len_to comma (drop k l) + 1) o) None))
    by-comma true None = none-parts (has comma (after comma (drop k l)))
    by-comma true (Some a) = rw (after-drop l k) (second_parts l (k + len_to comma (drop k l) + 1) a)
    by-comma false o = refl

names_in-parts : (l : List ℕ) → bound_parts (after_key (bytes "bound=") l) ≡ parts_from l (names_in l)
unfolding names_in bytes bound_parts
names_in-parts l = by_key (has_key (bytes "bound=") l) refl
  where
    by_key : (b : Bool) → has_key (bytes "bound=") l ≡ b
        → bound_parts (after_key (bytes "bound=") l) ≡ parts_from l (cond b (then_second l (name_to l 6)) None)
    by_key true h = ap bound_parts (has_key-true (bytes "bound=") l h) ∙ first-parts l 6
    by_key false h = ap bound_parts (has_key-false (bytes "bound=") l h)

pub names_in-other : (l : List ℕ) → has_key (bytes "bound=") l ≡ false → names_in l ≡ None
unfolding names_in
names_in-other l h = rw h

pub names_in-key : (l : List ℕ) → has_key (bytes "bound=") l ≡ true → names_in l ≡ then_second l (name_to l 6)
unfolding names_in
names_in-key l h = rw h

-- ---- the judgement

module _ (jobs : ℕ) (is_wrong : EventName → EventName → Bool) (d : Bound) where
  pub judged_bound-range : is_job jobs d.a.job && is_job jobs d.b.job && within least_c greatest_c d.c ≡ false
      → judged_bound jobs is_wrong d ≡ Err fault.Range
  judged_bound-range h = rw h

  pub judged_bound-pair : is_job jobs d.a.job && is_job jobs d.b.job && within least_c greatest_c d.c ≡ true → is_wrong d.a d.b ≡ true
      → judged_bound jobs is_wrong d ≡ Err fault.Pair
  judged_bound-pair h w = rw (h, w)

  pub judged_bound-value : is_job jobs d.a.job && is_job jobs d.b.job && within least_c greatest_c d.c ≡ true → is_wrong d.a d.b ≡ false
      → judged_bound jobs is_wrong d ≡ Ok d
  judged_bound-value h w = rw (h, w)

-- ---- the line, way by way

pub c-fits : (s : List ℕ) {z : ℤ} → Ok z ≡ number_in least_c greatest_c s → SFits w32 z
c-fits s {z} e = let q = (number_in-value least_c greatest_c z s (sym e)).0 in i32-fits z (omega (whole, q.least)) (omega (whole, q.greatest))

pub names_in-fits : (l : List ℕ) {a b : EventName} {at : ℕ} → names_in l ≡ Some (a, b, at) → at ≤ length l
unfolding names_in bytes
names_in-fits l {a} {b} {at} e = by_key (has_key (bytes "bound=") l) refl e
  where
    by-second : (x : EventName) (k : ℕ) → k ≤ length l → (m : Option (EventName × ℕ)) → name_to l k ≡ m → then_number x m ≡ Some (a, b, at) → at ≤ length l
    by-second x k h (Some (y, i)) p d = let q : ◌≡◌ {A = EventName × EventName × ℕ} (x, y, i) (a, b, at) = cc in
        subst (λ (n : ℕ). n ≤ length l) (ap (λ (z : EventName × EventName × ℕ). z.2) q) (name_to-fits l k h p)
    by-second x k h None p d = clash (cc)

    by_first : 6 ≤ length l → (m : Option (EventName × ℕ)) → name_to l 6 ≡ m → then_second l m ≡ Some (a, b, at) → at ≤ length l
    by_first h (Some (x, k)) p d = by-second x k (name_to-fits l 6 h p) (name_to l k) refl d
    by_first h None p d = clash (cc)

    by_key : (t : Bool) → has_key (bytes "bound=") l ≡ t → cond t (then_second l (name_to l 6)) None ≡ Some (a, b, at) → at ≤ length l
    by_key true h d = by_first (has_key-fits (bytes "bound=") l h) (name_to l 6) refl d
    by_key false h d = clash (cc)

module _ (jobs : ℕ) (is_wrong : EventName → EventName → Bool) (l : List ℕ) where
  pub bound_of-bare : names_in l ≡ None → bound_of jobs is_wrong (bound_parts (after_key (bytes "bound=") l)) ≡ Err fault.Form
  unfolding bound_of
  bound_of-bare e = ap (bound_of jobs is_wrong) (names_in-parts l ∙ ap (parts_from l) e)

  module _ {a b : EventName} {at : ℕ} (e : names_in l ≡ Some (a, b, at)) where
    pub bound_of-value : {s : List ℕ} {z : ℤ} → s ≡ drop at l → Ok z ≡ number_in least_c greatest_c s
        → bound_of jobs is_wrong (bound_parts (after_key (bytes "bound=") l)) ≡ judged_bound jobs is_wrong (record { a = a; b = b; c = z })
    unfolding bound_of
    bound_of-value {s} {z} rest e' =
        let d : number_in least_c greatest_c (drop at l) ≡ Ok z = ap (number_in least_c greatest_c) (sym rest) ∙ sym e' in
        let w = (number_in-value least_c greatest_c z (drop at l) d).1 in
        ap (bound_of jobs is_wrong) (names_in-parts l ∙ ap (parts_from l) e ∙ ap (parts_of (Some a) (Some b)) w ∙ formed)
        ∙ ap (λ (c : ℤ). judged_bound jobs is_wrong (record { a = a; b = b; c = c })) (decimal-back z)
      where
        formed : parts_of (Some a) (Some b) (decimal z) ≡ Some (record { a = a; b = b; c = decimal z })
        formed = rw (decimal-form z)

    pub bound_of-fault : {s : List ℕ} {f : NumberFault} → s ≡ drop at l → Err f ≡ number_in least_c greatest_c s
        → bound_of jobs is_wrong (bound_parts (after_key (bytes "bound=") l)) ≡ Err (line_lacks f)
    unfolding bound_of number_in
    bound_of-fault {s} {f} rest e' =
        ap (bound_of jobs is_wrong) (names_in-parts l ∙ ap (parts_from l) e)
        ∙ by_form (is_number (drop at l)) refl (ap (number_in least_c greatest_c) (sym rest) ∙ sym e')
      where
        c : List ℕ
        c = drop at l

        none_in : (x y : Bool) → not (x && y && false) ≡ true
        none_in true true = refl
        none_in true false = refl
        none_in false y = refl

        by-range : (t : Bool) → within least_c greatest_c (number_value c) ≡ t
            → cond t (Ok (number_value c)) (Err number_fault.Range) ≡ Err f
            → judged_bound jobs is_wrong (record { a = a; b = b; c = number_value c }) ≡ Err (line_lacks f)
        by-range true h g = clash (cc)
        by-range false h g = rw (h, none_in (is_job jobs a.job) (is_job jobs b.job))
            (ap (λ (f : NumberFault). Err (line_lacks f)) {x = number_fault.Range} {y = f} (cc))

        by_form : (t : Bool) → is_number c ≡ t → cond t (number_within least_c greatest_c (number_value c)) (Err number_fault.Form) ≡ Err f
            → bound_of jobs is_wrong (cond t (Some (record { a = a; b = b; c = c })) None) ≡ Err (line_lacks f)
        by_form true h g = by-range (within least_c greatest_c (number_value c)) refl g
        by_form false h g = ap (λ (f : NumberFault). Err (line_lacks f)) {x = number_fault.Form} {y = f} (cc)
