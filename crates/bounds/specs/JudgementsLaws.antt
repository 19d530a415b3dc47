-- What a judgement says about a weight. A bound that is kept is at least earliest(z) - latest(y), and, where neither event is the origin, at most
-- latest(z) - earliest(y). A bound with the origin is kept unless it is a contradiction. A bound of an event with itself, or of a job's start with
-- its finish, is never kept. What is left out stays left out where it is greater, and what is a contradiction stays one where it is less.
use Rattle.std.specs.Prelude.{ℕ, ◌≡◌, refl, Bool, true, false, cond, eqb, ℤ, pos, neg_ℤ, ◌-ℤ◌, ◌≤ℤ◌}
use Rattle.std.specs.Int.Signed.{lt_z, le_z}
use Rattle.std.proofs.Common.{eq-eqb}
use Rattle.whole.specs.Clash.{clash}
use Rattle.whole.specs.Rules.{whole}
use Rattle.plan.specs.declared.Plan.{Plan}
use Rattle.bounds.specs.declared.Event.{Event}
use Rattle.bounds.specs.declared.Event.TheVariants.{Origin, Start, Finish}
use Rattle.bounds.specs.declared.Judgement.{Judgement}
use Rattle.bounds.specs.declared.Judgement.TheVariants.{Contradiction, LeftOut, Kept}
use Rattle.bounds.specs.Events.{job_at, earliest, latest}
use Rattle.bounds.specs.Judgements.{judged, at_least, from_origin, apart}
use Rattle.bounds.specs.Tables.{is_contradiction}

-- ---- by a test

at_least-kept : (limit w : ℤ) → at_least limit w ≡ Kept → ⊥
at_least-kept limit w h = by (lt_z w limit) h
  where
    by : (b : Bool) → cond b Contradiction LeftOut ≡ Kept → ⊥
    by true h = clash (cc)
    by false h = clash (cc)

from_origin-kept : (low w : ℤ) → from_origin low w ≡ Kept → low ≤ℤ w
from_origin-kept low w h = by (lt_z w low) refl h
  where
    by : (b : Bool) → lt_z w low ≡ b → cond b Contradiction Kept ≡ Kept → low ≤ℤ w
    by true e h = clash (cc)
    by false e h = omega whole

from_origin-sound : (low w : ℤ) → is_contradiction (from_origin low w) ≡ false → from_origin low w ≡ Kept
from_origin-sound low w h = by (lt_z w low) h
  where
    by : (b : Bool) → is_contradiction (cond b Contradiction Kept) ≡ false → cond b Contradiction Kept ≡ Kept
    by true h = clash (cc)
    by false h = refl

apart-kept : (low high w : ℤ) → apart low high w ≡ Kept → (low ≤ℤ w) × (w ≤ℤ high)
apart-kept low high w h = by (lt_z w low) refl (le_z high w) refl h
  where
    by : (b : Bool) → lt_z w low ≡ b → (c : Bool) → le_z high w ≡ c → cond b Contradiction (cond c LeftOut Kept) ≡ Kept → (low ≤ℤ w) × (w ≤ℤ high)
    by true e c q h = clash (cc)
    by false e true q h = clash (cc)
    by false e false q h = (omega whole, omega whole)

-- one event, one job, or two of them
or_apart : (b : Bool) (limit low high w : ℤ) → cond b (at_least limit w) (apart low high w) ≡ Kept → (low ≤ℤ w) × (w ≤ℤ high)
or_apart true limit low high w h = absurd (at_least-kept limit w h)
or_apart false limit low high w h = apart-kept low high w h

-- ---- by what the events are

pub judged-least : (p : Plan) (a b : Event) (w : ℤ) → judged p a b w ≡ Kept → (earliest p b -ℤ latest p a) ≤ℤ w
unfolding judged
judged-least p Origin Origin w h = absurd (at_least-kept (pos 0) w h)
judged-least p Origin (Start k) w h = from_origin-kept _ w h
judged-least p Origin (Finish k) w h = from_origin-kept _ w h
judged-least p (Start j) Origin w h = from_origin-kept _ w h
judged-least p (Start j) (Start k) w h = (or_apart (eqb j k) _ _ (latest p (Start k) -ℤ earliest p (Start j)) w h).0
judged-least p (Start j) (Finish k) w h = (or_apart (eqb j k) _ _ (latest p (Finish k) -ℤ earliest p (Start j)) w h).0
judged-least p (Finish j) Origin w h = from_origin-kept _ w h
judged-least p (Finish j) (Start k) w h = (or_apart (eqb j k) _ _ (latest p (Start k) -ℤ earliest p (Finish j)) w h).0
judged-least p (Finish j) (Finish k) w h = (or_apart (eqb j k) _ _ (latest p (Finish k) -ℤ earliest p (Finish j)) w h).0

pub judged-most : (p : Plan) (a b : Event) (w : ℤ) → (a ≡ Origin → ⊥) → (b ≡ Origin → ⊥) → judged p a b w ≡ Kept → w ≤ℤ (latest p b -ℤ earliest p a)
unfolding judged
judged-most p Origin b w m n h = absurd (m refl)
judged-most p (Start j) Origin w m n h = absurd (n refl)
judged-most p (Start j) (Start k) w m n h = (or_apart (eqb j k) _ _ _ w h).1
judged-most p (Start j) (Finish k) w m n h = (or_apart (eqb j k) _ _ _ w h).1
judged-most p (Finish j) Origin w m n h = absurd (n refl)
judged-most p (Finish j) (Start k) w m n h = (or_apart (eqb j k) _ _ _ w h).1
judged-most p (Finish j) (Finish k) w m n h = (or_apart (eqb j k) _ _ _ w h).1

pub judged-origin : (p : Plan) (w : ℤ) → judged p Origin Origin w ≡ Kept → ⊥
unfolding judged
judged-origin p w h = at_least-kept (pos 0) w h

pub judged-from-origin : (p : Plan) (e : Event) (w : ℤ) → (e ≡ Origin → ⊥) → is_contradiction (judged p Origin e w) ≡ false → judged p Origin e w ≡ Kept
unfolding judged
judged-from-origin p Origin w n h = absurd (n refl)
judged-from-origin p (Start k) w n h = from_origin-sound _ w h
judged-from-origin p (Finish k) w n h = from_origin-sound _ w h

pub judged-to-origin : (p : Plan) (e : Event) (w : ℤ) → (e ≡ Origin → ⊥) → is_contradiction (judged p e Origin w) ≡ false → judged p e Origin w ≡ Kept
unfolding judged
judged-to-origin p Origin w n h = absurd (n refl)
judged-to-origin p (Start k) w n h = from_origin-sound _ w h
judged-to-origin p (Finish k) w n h = from_origin-sound _ w h

pub judged-running : (p : Plan) (k : ℕ) (w : ℤ) → judged p (Start k) (Finish k) w ≡ Kept → ⊥
unfolding judged
judged-running p k w h = at_least-kept (job_at p k).max w (rw (eq-eqb k k refl) at h)

pub judged-reverse : (p : Plan) (k : ℕ) (w : ℤ) → judged p (Finish k) (Start k) w ≡ Kept → ⊥
unfolding judged
judged-reverse p k w h = at_least-kept (neg_ℤ (job_at p k).min) w (rw (eq-eqb k k refl) at h)

-- ---- greater and less

-- the judgements of one pair: contradictions below, then what is kept, then what is left out
record Rising (j : ℤ → Judgement) : Type 0 where
  left : (w v : ℤ) → w ≤ℤ v → j w ≡ LeftOut → j v ≡ LeftOut
  none : (w v : ℤ) → v ≤ℤ w → j w ≡ Contradiction → j v ≡ Contradiction

at_least-rising : (limit : ℤ) → Rising (at_least limit)
at_least-rising limit = record {
  left = λ w v h e. l w v h (lt_z w limit) refl (lt_z v limit) refl e;
  none = λ w v h e. n w v h (lt_z w limit) refl (lt_z v limit) refl e;
}
  where
    l : (w v : ℤ) → w ≤ℤ v → (b : Bool) → lt_z w limit ≡ b → (c : Bool) → lt_z v limit ≡ c → cond b Contradiction LeftOut ≡ LeftOut
        → cond c Contradiction LeftOut ≡ LeftOut
    l w v h true e c q g = clash (cc)
    l w v h false e true q g = absurd (omega whole)
    l w v h false e false q g = refl

    n : (w v : ℤ) → v ≤ℤ w → (b : Bool) → lt_z w limit ≡ b → (c : Bool) → lt_z v limit ≡ c → cond b Contradiction LeftOut ≡ Contradiction
        → cond c Contradiction LeftOut ≡ Contradiction
    n w v h true e true q g = refl
    n w v h true e false q g = absurd (omega whole)
    n w v h false e c q g = clash (cc)

from_origin-rising : (low : ℤ) → Rising (from_origin low)
from_origin-rising low = record { left = λ w v h e. absurd (l (lt_z w low) e); none = λ w v h e. n w v h (lt_z w low) refl (lt_z v low) refl e }
  where
    l : (b : Bool) → cond b Contradiction Kept ≡ LeftOut → ⊥
    l true g = clash (cc)
    l false g = clash (cc)

    n : (w v : ℤ) → v ≤ℤ w → (b : Bool) → lt_z w low ≡ b → (c : Bool) → lt_z v low ≡ c → cond b Contradiction Kept ≡ Contradiction
        → cond c Contradiction Kept ≡ Contradiction
    n w v h true e true q g = refl
    n w v h true e false q g = absurd (omega whole)
    n w v h false e c q g = clash (cc)

apart-rising : (low high : ℤ) → Rising (apart low high)
apart-rising low high =
    record {
      left = λ w v h e. l w v h (lt_z w low) refl (le_z high w) refl (lt_z v low) refl (le_z high v) refl e;
      none = λ w v h e. n w v h (lt_z w low) refl (le_z high w) (lt_z v low) refl (le_z high v) e;
    }
  where
    l : (w v : ℤ) → w ≤ℤ v → (b : Bool) → lt_z w low ≡ b → (c : Bool) → le_z high w ≡ c → (d : Bool) → lt_z v low ≡ d → (k : Bool) → le_z high v ≡ k
        → cond b Contradiction (cond c LeftOut Kept) ≡ LeftOut → cond d Contradiction (cond k LeftOut Kept) ≡ LeftOut
    l w v h true e c q d r k s g = clash (cc)
    l w v h false e false q d r k s g = clash (cc)
    l w v h false e true q true r k s g = absurd (omega whole)
    l w v h false e true q false r true s g = refl
    l w v h false e true q false r false s g = absurd (omega whole)

    n : (w v : ℤ) → v ≤ℤ w → (b : Bool) → lt_z w low ≡ b → (c : Bool) → (d : Bool) → lt_z v low ≡ d → (k : Bool)
        → cond b Contradiction (cond c LeftOut Kept) ≡ Contradiction → cond d Contradiction (cond k LeftOut Kept) ≡ Contradiction
    n w v h true e c true q k g = refl
    n w v h true e c false q k g = absurd (omega whole)
    n w v h false e true d q k g = clash (cc)
    n w v h false e false d q k g = clash (cc)

either-rising : (b : Bool) (f g : ℤ → Judgement) → Rising f → Rising g → Rising (λ w. cond b (f w) (g w))
either-rising true f g r s = r
either-rising false f g r s = s

rising : (p : Plan) (a b : Event) → Rising (judged p a b)
unfolding judged
rising p Origin Origin = at_least-rising (pos 0)
rising p Origin (Start k) = from_origin-rising _
rising p Origin (Finish k) = from_origin-rising _
rising p (Start j) Origin = from_origin-rising _
rising p (Start j) (Start k) = either-rising (eqb j k) _ _ (at_least-rising (pos 0))
    (apart-rising (earliest p (Start k) -ℤ latest p (Start j)) (latest p (Start k) -ℤ earliest p (Start j)))
rising p (Start j) (Finish k) = either-rising (eqb j k) _ _ (at_least-rising (job_at p k).max)
    (apart-rising (earliest p (Finish k) -ℤ latest p (Start j)) (latest p (Finish k) -ℤ earliest p (Start j)))
rising p (Finish j) Origin = from_origin-rising _
rising p (Finish j) (Start k) = either-rising (eqb j k) _ _ (at_least-rising (neg_ℤ (job_at p k).min))
    (apart-rising (earliest p (Start k) -ℤ latest p (Finish j)) (latest p (Start k) -ℤ earliest p (Finish j)))
rising p (Finish j) (Finish k) = either-rising (eqb j k) _ _ (at_least-rising (pos 0))
    (apart-rising (earliest p (Finish k) -ℤ latest p (Finish j)) (latest p (Finish k) -ℤ earliest p (Finish j)))

pub judged-left-out : (p : Plan) (a b : Event) (w v : ℤ) → w ≤ℤ v → judged p a b w ≡ LeftOut → judged p a b v ≡ LeftOut
judged-left-out p a b = (rising p a b).left

pub judged-none : (p : Plan) (a b : Event) (w v : ℤ) → v ≤ℤ w → judged p a b w ≡ Contradiction → judged p a b v ≡ Contradiction
judged-none p a b = (rising p a b).none
