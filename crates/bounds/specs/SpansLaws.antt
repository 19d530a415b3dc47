-- The judgement from two arrays: it is the judgement by the four differences that they give, and where they hold a plan's times it is the
-- plan's judgement. A time in range fits an i32 (`in_range-fits`).
use Rattle.std.specs.Prelude.{ℕ, ◌<◌, ◌≡◌, refl, Bool, true, false, cond, List, eqb, ℤ, pos, neg_ℤ, ◌+ℤ◌, ◌-ℤ◌}
use Rattle.std.proofs.Common.{sym, ◌∙◌, ap, ap₂, subst, eqb-true, SFits}
use borrow.Author.Tests.{eq-eqb}
use Rattle.std.specs.Int.{w32}
use Rattle.whole.specs.SplitLaws.{split-add, split-sub, split-neg}
use Rattle.whole.specs.Order.{neg-sub}
use Rattle.whole.specs.Rules.{wholes}
use Rattle.plan.specs.declared.Plan.{Plan}
use Rattle.bounds.specs.declared.Event.{Event}
use Rattle.bounds.specs.declared.Event.TheVariants.{Origin, Start, Finish}
use Rattle.bounds.specs.declared.Judgement.{Judgement}
use Rattle.bounds.specs.Events.{earliest, latest, event_of, job_at, shift}
use Rattle.bounds.specs.Judgements.{judged, at_least, from_origin}
use Rattle.bounds.specs.Spans.{judged_by, judged_at, time_of_node, Times, InRange}

pub in_range-fits : {t : ℤ} → InRange t → SFits w32 t
in_range-fits h = omega wholes

pub judged_at-by : (early late : List ℤ) (y z : ℕ) (w : ℤ) {low high later sooner : ℤ} {a b : Event}
    → low ≡ time_of_node early z -ℤ time_of_node late y
    → high ≡ time_of_node late z -ℤ time_of_node early y
    → later ≡ time_of_node late z -ℤ time_of_node late y
    → sooner ≡ time_of_node early z -ℤ time_of_node early y
    → a ≡ event_of y
    → b ≡ event_of z
    → judged_by low high later sooner a b w ≡ judged_at early late y z w
unfolding judged_at
judged_at-by early late y z w e1 e2 e3 e4 e5 e6 = rw (e1, e2, e3, e4, e5, e6)

-- ---- y = z; and only one of them is the origin

module _ (low high late early w : ℤ) where
  self : (y : Event) → at_least (pos 0) w ≡ judged_by low high late early y y w
  unfolding judged_by
  self Origin = refl
  self (Start j) = rw (eq-eqb j j refl) refl
  self (Finish j) = rw (eq-eqb j j refl) refl

  pub judged_by-same : (y z : Event) → y ≡ z → at_least (pos 0) w ≡ judged_by low high late early y z w
  judged_by-same y z e = subst (λ z. at_least (pos 0) w ≡ judged_by low high late early y z w) e (self y)

  pub judged_by-from : (z : Event) → (Origin ≡ z → ⊥) → from_origin low w ≡ judged_by low high late early Origin z w
  unfolding judged_by
  judged_by-from Origin n = absurd (n refl)
  judged_by-from (Start k) n = refl
  judged_by-from (Finish k) n = refl

  pub judged_by-to : (y : Event) → (y ≡ Origin → ⊥) → from_origin low w ≡ judged_by low high late early y Origin w
  unfolding judged_by
  judged_by-to Origin n = absurd (n refl)
  judged_by-to (Start j) n = refl
  judged_by-to (Finish j) n = refl

-- ---- the plan's judgement

-- what lies between a job's latest start and its latest finish is max, and between its earliest ones it is min
late-is-max : (d m h : ℤ) → (d +ℤ h) -ℤ ((d -ℤ m) +ℤ h) ≡ m
late-is-max d m h = omega (wholes, split-add d h, split-add (d -ℤ m) h, split-sub d m)

early-is-min : (r m h : ℤ) → (r +ℤ h) -ℤ ((r +ℤ m) +ℤ h) ≡ neg_ℤ m
early-is-min r m h = omega (wholes, split-add r h, split-add (r +ℤ m) h, split-add r m, split-neg m)

latest-finish : (p : Plan) (k : ℕ) → latest p (Finish k) -ℤ latest p (Start k) ≡ (job_at p k).max
unfolding latest
latest-finish p k = late-is-max (job_at p k).deadline (job_at p k).max (shift p k)

earliest-start : (p : Plan) (k : ℕ) → earliest p (Start k) -ℤ earliest p (Finish k) ≡ neg_ℤ (job_at p k).min
unfolding earliest
earliest-start p k = early-is-min (job_at p k).release (job_at p k).min (shift p k)

pub latest-start : (p : Plan) (k : ℕ) → latest p (Start k) -ℤ latest p (Finish k) ≡ neg_ℤ (job_at p k).max
latest-start p k = sym (neg-sub (latest p (Finish k)) (latest p (Start k))) ∙ ap neg_ℤ (latest-finish p k)

pub earliest-finish : (p : Plan) (k : ℕ) → earliest p (Finish k) -ℤ earliest p (Start k) ≡ (job_at p k).min
earliest-finish p k = sym (neg-sub (earliest p (Start k)) (earliest p (Finish k))) ∙ ap neg_ℤ (earliest-start p k) ∙ neg-neg (job_at p k).min
  where
    neg-neg : (z : ℤ) → neg_ℤ (neg_ℤ z) ≡ z
    neg-neg z = omega (wholes, split-neg (neg_ℤ z), split-neg z)

-- one job, or two
same-job : (j k : ℕ) (b : Bool) → eqb j k ≡ b → (l m w : ℤ) (d : Judgement) → (j ≡ k → l ≡ m) → cond b (at_least l w) d ≡ cond b (at_least m w) d
same-job j k true e l m w d h = ap (λ l. at_least l w) (h (eqb-true j k e))
same-job j k false e l m w d h = refl

judged_by-is : (p : Plan) (a b : Event) (w : ℤ)
    → judged_by (earliest p b -ℤ latest p a) (latest p b -ℤ earliest p a) (latest p b -ℤ latest p a) (earliest p b -ℤ earliest p a) a b w
    ≡ judged p a b w
unfolding judged_by judged
judged_by-is p Origin Origin w = refl
judged_by-is p Origin (Start k) w = refl
judged_by-is p Origin (Finish k) w = refl
judged_by-is p (Start j) Origin w = refl
judged_by-is p (Start j) (Start k) w = refl
judged_by-is p (Start j) (Finish k) w =
    same-job j k (eqb j k) refl _ _ w _ (λ e. ap (λ i. latest p (Finish k) -ℤ latest p (Start i)) e ∙ latest-finish p k)
judged_by-is p (Finish j) Origin w = refl
judged_by-is p (Finish j) (Start k) w =
    same-job j k (eqb j k) refl _ _ w _ (λ e. ap (λ i. earliest p (Start k) -ℤ earliest p (Finish i)) e ∙ earliest-start p k)
judged_by-is p (Finish j) (Finish k) w = refl

pub judged_at-is : (p : Plan) (k : ℕ) (early late : List ℤ) → Times p k early late → (y z : ℕ) → y < k → z < k → (w : ℤ)
    → judged_at early late y z w ≡ judged p (event_of y) (event_of z) w
judged_at-is p k early late t y z a b w =
    sym
    (judged_at-by early late y z w
    (sym (ap₂ ◌-ℤ◌ (t.earliest-at z b) (t.latest-at y a)))
    (sym (ap₂ ◌-ℤ◌ (t.latest-at z b) (t.earliest-at y a)))
    (sym (ap₂ ◌-ℤ◌ (t.latest-at z b) (t.latest-at y a)))
    (sym (ap₂ ◌-ℤ◌ (t.earliest-at z b) (t.earliest-at y a)))
    refl
    refl)
    ∙ judged_by-is p (event_of y) (event_of z) w
