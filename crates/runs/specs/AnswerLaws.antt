-- What follows from an answer for its step. An offer is for the job that the run waits for, in a window of the plan (`opening-opens`); a start that is answered
-- was on offer and at a time (`answer-started`); a finish that is answered is the step's, of the job that runs, inside its times (`answer-final`). Of the
-- refusals only the opening gives 11 (`answer-empty`). And the other way: while an opening is open, an ask is answered by its offer and a start is taken
-- exactly if it is on offer (`ask-offered`, `start-taken`, `start-refused`, `start-auto`); a finish is final exactly inside its times (`finish-inside`,
-- `finish-outside`).
use Rattle.std.specs.Prelude.{ℕ, ◌≤◌, ◌≡◌, Bool, ◌&&◌, List, ltb, ℤ, ◌+ℤ◌, ◌≤ℤ◌, Result, Ok, Err}
use Rattle.std.proofs.Math.Path.{refl, ap}
use Rattle.std.proofs.Common.{sym, subst, ◌∙◌, arith, ltb-false}
use Rattle.std.proofs.Math.Bool.{true, false, cond}
use Rattle.std.specs.Int.Signed.{lt_z, le_z}
use Rattle.whole.specs.Clash.{clash}
use Rattle.whole.specs.Rules.{wholes}
use Rattle.text.specs.Numbers.{within}
use Rattle.clock.specs.declared.RunTime.{RunTime}
use Rattle.plan.specs.declared.Job.{Job}
use Rattle.lines.specs.declared.Refusal.{Refusal}
use Rattle.lines.specs.declared.Refusal.TheVariants as refusal
use Rattle.lines.specs.Refusals.{outside_limits}
use Rattle.runs.specs.declared.Phase.{Phase}
use Rattle.runs.specs.declared.Phase.TheVariants.{Waiting, Running}
use Rattle.runs.specs.declared.Run.{Run}
use Rattle.runs.specs.declared.Offer.{Offer}
use Rattle.runs.specs.declared.Opening.{Opening}
use Rattle.runs.specs.declared.Choice.{Choice}
use Rattle.runs.specs.declared.Choice.TheVariants.{At, Auto}
use Rattle.runs.specs.declared.Step.{Step}
use Rattle.runs.specs.declared.Step.TheVariants.{Ask, Start, Finish}
use Rattle.runs.specs.declared.Answer.TheVariants.{Offered, Started, Final, Refused}
use Rattle.runs.specs.ValueLimits.{is_time}
use Rattle.runs.specs.Offers.{Turn, offer_at, opening_of, opened, opening_at}
use Rattle.runs.specs.Steps.{asked, started, finished, answer_at, is_step}

-- ---- between two ends

within-yes : (lo hi z : ℤ) → lo ≤ℤ z → z ≤ℤ hi → within lo hi z ≡ true
within-yes lo hi z a b = go (le_z lo z) (le_z z hi) refl refl
  where
    go : (x y : Bool) → le_z lo z ≡ x → le_z z hi ≡ y → x && y ≡ true
    go true true e g = refl
    go true false e g = absurd (omega wholes)
    go false y e g = absurd (omega wholes)

within-no : (lo hi z : ℤ) → (lo ≤ℤ z → z ≤ℤ hi → ⊥) → within lo hi z ≡ false
within-no lo hi z f = go (le_z lo z) (le_z z hi) refl refl
  where
    go : (x y : Bool) → le_z lo z ≡ x → le_z z hi ≡ y → x && y ≡ false
    go true true e g = absurd (f (omega wholes) (omega wholes))
    go true false e g = refl
    go false y e g = refl

within-is : (lo hi z : ℤ) → within lo hi z ≡ true → (lo ≤ℤ z) × (z ≤ℤ hi)
within-is lo hi z h = go (le_z lo z) (le_z z hi) refl refl h
  where
    go : (x y : Bool) → le_z lo z ≡ x → le_z z hi ≡ y → x && y ≡ true → (lo ≤ℤ z) × (z ≤ℤ hi)
    go true true e g h = (omega wholes, omega wholes)
    go true false e g h = clash (cc)
    go false y e g h = clash (cc)

-- ---- openings

module _ (d : Turn) (cs ds : List ℤ) (r : Run) where
  -- an opening in some phase: for the job that the run waits for, in a window of the plan, with its offer, which is not empty
  pub record OpenFor (j i : ℕ) (o : Offer) (f : Phase) : Type 0 where
    pub waits : f ≡ Waiting j i
    pub lasts : j ≤ d.last
    pub offer : offer_at d cs ds r j i ≡ o
    pub some : o.from.0 ≤ℤ o.to.0

  opened-opens : (j i : ℕ) (o : Offer) (k l : ℕ) (u : Offer) → k ≤ d.last → offer_at d cs ds r k l ≡ u → (b : Bool) → lt_z u.to.0 u.from.0 ≡ b
      → cond b (Err refusal.EmptyOffer) (Ok (opening_of k l u)) ≡ Ok (opening_of j i o) → OpenFor j i o (Waiting k l)
  opened-opens j i o k l u h is true e x = clash (cc)
  opened-opens j i o k l u h is false e x =
      let q : opening_of k l u ≡ opening_of j i o = cc in
      let w = ap (λ at. at.window) q in
      let v = ap (λ at. at.job) q in
      let same = ap (λ at. at.offer) q in
      record {
        waits = ap (λ k. Waiting k l) w ∙ ap (Waiting j) v;
        lasts = omega arith;
        offer = sym (ap (λ (k : ℕ). offer_at d cs ds r k i) w) ∙ sym (ap (offer_at d cs ds r k) v) ∙ is ∙ same;
        some = subst (λ (o : Offer). o.from.0 ≤ℤ o.to.0) same (omega wholes);
      }

  window-opens : (j i : ℕ) (o : Offer) (k l : ℕ) (b : Bool) → ltb d.last k ≡ b
      → cond b (Err refusal.Over) (opened k l (offer_at d cs ds r k l)) ≡ Ok (opening_of j i o) → OpenFor j i o (Waiting k l)
  window-opens j i o k l true e x = clash (cc)
  window-opens j i o k l false e x = opened-opens j i o k l (offer_at d cs ds r k l) (ltb-false d.last k e) refl _ refl x

  opening-opens : (j i : ℕ) (o : Offer) (f : Phase) → opening_at d cs ds r f ≡ Ok (opening_of j i o) → OpenFor j i o f
  unfolding opening_at
  opening-opens j i o (Waiting k l) x = window-opens j i o k l (ltb d.last k) refl x
  opening-opens j i o (Running k l t) x = clash (cc)

  -- ---- a start that is answered

  pub record StartTaken (st : Step) (j i : ℕ) (t : RunTime) : Type 0 where
    pub offer : Offer
    pub opens : OpenFor j i offer r.phase
    pub least : offer.from.0 ≤ℤ t.0
    pub most : t.0 ≤ℤ offer.to.0
    pub timed : is_step st ≡ true → is_time t ≡ true

  at-taken : (u t : RunTime) (a b j i : ℕ) (o : Offer) → OpenFor a b o r.phase → (x : Bool) → within o.from.0 o.to.0 u.0 ≡ x
      → cond x (Started a b u) (Refused refusal.OutsideOffer) ≡ Started j i t → StartTaken (Start (At u)) j i t
  at-taken u t a b j i o q true e y =
      let w = within-is o.from.0 o.to.0 u.0 e in
      let z : u ≡ t = cc in
      let m : a ≡ j = cc in
      let n : b ≡ i = cc in
      record {
        offer = o;
        opens = subst (λ (j : ℕ). OpenFor j i o r.phase) m (subst (λ (i : ℕ). OpenFor a i o r.phase) n q);
        least = subst (λ (t : RunTime). o.from.0 ≤ℤ t.0) z w.0;
        most = subst (λ (t : RunTime). t.0 ≤ℤ o.to.0) z w.1;
        timed = λ h. subst (λ (t : RunTime). is_time t ≡ true) z h;
      }
  at-taken u t a b j i o q false e y = clash (cc)

  auto-taken : (t : RunTime) (a b j i : ℕ) (o : Offer) → OpenFor a b o r.phase → (x : Bool) → is_time o.from ≡ x
      → cond x (Started a b o.from) (Refused outside_limits) ≡ Started j i t → StartTaken (Start Auto) j i t
  auto-taken t a b j i o q true e y =
      let z : o.from ≡ t = cc in
      let m : a ≡ j = cc in
      let n : b ≡ i = cc in
      let some = q.some in
      record {
        offer = o;
        opens = subst (λ (j : ℕ). OpenFor j i o r.phase) m (subst (λ (i : ℕ). OpenFor a i o r.phase) n q);
        least = subst (λ (t : RunTime). o.from.0 ≤ℤ t.0) z (omega wholes);
        most = subst (λ (t : RunTime). t.0 ≤ℤ o.to.0) z some;
        timed = λ h. subst (λ (t : RunTime). is_time t ≡ true) z e;
      }
  auto-taken t a b j i o q false e y = clash (cc)

  start-answered : (choice : Choice) (at : Result Opening Refusal) → opening_at d cs ds r r.phase ≡ at → (j i : ℕ) (t : RunTime) → started choice at ≡ Started j i t
      → StartTaken (Start choice) j i t
  unfolding started
  start-answered (At u) (Ok at) x j i t e = at-taken u t at.window at.job j i at.offer (opening-opens at.window at.job at.offer r.phase x) _ refl e
  start-answered Auto (Ok at) x j i t e = auto-taken t at.window at.job j i at.offer (opening-opens at.window at.job at.offer r.phase x) _ refl e
  start-answered choice (Err y) x j i t e = clash (cc)

  asked-other : (at : Result Opening Refusal) (j i : ℕ) (t : RunTime) → asked at ≡ Started j i t → ⊥
  unfolding asked
  asked-other (Ok at) j i t e = clash (cc)
  asked-other (Err x) j i t e = clash (cc)

  finished-other : (job : Job) (u : RunTime) (f : Phase) (j i : ℕ) (t : RunTime) → finished job u f ≡ Started j i t → ⊥
  unfolding finished
  finished-other job u (Waiting a b) j i t e = clash (cc)
  finished-other job u (Running a b s) j i t e = go (within (s.0 +ℤ job.min) (s.0 +ℤ job.max) u.0) e
    where
      go : (x : Bool) → cond x (Final a b u) (Refused refusal.OutsideTimes) ≡ Started j i t → ⊥
      go true e = clash (cc)
      go false e = clash (cc)

  pub answer-started : (st : Step) (j i : ℕ) (t : RunTime) → answer_at d cs ds r st ≡ Started j i t → StartTaken st j i t
  unfolding answer_at
  answer-started Ask j i t e = absurd (asked-other (opening_at d cs ds r r.phase) j i t e)
  answer-started (Start choice) j i t e = start-answered choice (opening_at d cs ds r r.phase) refl j i t e
  answer-started (Finish u) j i t e = absurd (finished-other d.job u r.phase j i t e)

  -- ---- a finish that is answered

  pub record FinishTaken (st : Step) (j i : ℕ) (t : RunTime) : Type 0 where
    pub since : RunTime
    pub runs : r.phase ≡ Running j i since
    pub step : st ≡ Finish t
    pub least : (since.0 +ℤ d.job.min) ≤ℤ t.0
    pub most : t.0 ≤ℤ (since.0 +ℤ d.job.max)

  since-ended : (u t s : RunTime) (a b j i : ℕ) → r.phase ≡ Running a b s → (x : Bool) → within (s.0 +ℤ d.job.min) (s.0 +ℤ d.job.max) u.0 ≡ x
      → cond x (Final a b u) (Refused refusal.OutsideTimes) ≡ Final j i t → FinishTaken (Finish u) j i t
  since-ended u t s a b j i h true e y =
      let w = within-is _ _ u.0 e in
      let z : u ≡ t = cc in
      record {
        since = s;
        runs = cc;
        step = ap Finish z;
        least = subst (λ (t : RunTime). (s.0 +ℤ d.job.min) ≤ℤ t.0) z w.0;
        most = subst (λ (t : RunTime). t.0 ≤ℤ (s.0 +ℤ d.job.max)) z w.1;
      }
  since-ended u t s a b j i h false e y = clash (cc)

  finish-answered : (u : RunTime) (f : Phase) → r.phase ≡ f → (j i : ℕ) (t : RunTime) → finished d.job u f ≡ Final j i t → FinishTaken (Finish u) j i t
  unfolding finished
  finish-answered u (Waiting a b) h j i t e = clash (cc)
  finish-answered u (Running a b s) h j i t e = since-ended u t s a b j i h _ refl e

  asked-not : (at : Result Opening Refusal) (j i : ℕ) (t : RunTime) → asked at ≡ Final j i t → ⊥
  unfolding asked
  asked-not (Ok at) j i t e = clash (cc)
  asked-not (Err x) j i t e = clash (cc)

  started-not : (choice : Choice) (at : Result Opening Refusal) (j i : ℕ) (t : RunTime) → started choice at ≡ Final j i t → ⊥
  unfolding started
  started-not (At u) (Ok at) j i t e = go (within at.offer.from.0 at.offer.to.0 u.0) e
    where
      go : (x : Bool) → cond x (Started at.window at.job u) (Refused refusal.OutsideOffer) ≡ Final j i t → ⊥
      go true e = clash (cc)
      go false e = clash (cc)
  started-not Auto (Ok at) j i t e = go (is_time at.offer.from) e
    where
      go : (x : Bool) → cond x (Started at.window at.job at.offer.from) (Refused outside_limits) ≡ Final j i t → ⊥
      go true e = clash (cc)
      go false e = clash (cc)
  started-not choice (Err x) j i t e = clash (cc)

  pub answer-final : (st : Step) (j i : ℕ) (t : RunTime) → answer_at d cs ds r st ≡ Final j i t → FinishTaken st j i t
  unfolding answer_at
  answer-final Ask j i t e = absurd (asked-not (opening_at d cs ds r r.phase) j i t e)
  answer-final (Start choice) j i t e = absurd (started-not choice (opening_at d cs ds r r.phase) j i t e)
  answer-final (Finish u) j i t e = finish-answered u r.phase refl j i t e

  -- ---- where 11 comes from

  asked-empty : (at : Result Opening Refusal) → asked at ≡ Refused refusal.EmptyOffer → at ≡ Err refusal.EmptyOffer
  unfolding asked
  asked-empty (Ok at) e = clash (cc)
  asked-empty (Err x) e = cc

  -- neither a start nor another refusal
  not-empty : (a b : ℕ) (t : RunTime) (x : Bool) (q : Refusal) → cond x (Started a b t) (Refused q) ≡ Refused refusal.EmptyOffer → q ≡ refusal.EmptyOffer
  not-empty a b t true q e = clash (cc)
  not-empty a b t false q e = cc

  started-empty : (choice : Choice) (at : Result Opening Refusal) → started choice at ≡ Refused refusal.EmptyOffer → at ≡ Err refusal.EmptyOffer
  unfolding started
  started-empty (At t) (Ok at) e = let q = not-empty at.window at.job t (within at.offer.from.0 at.offer.to.0 t.0) refusal.OutsideOffer e in clash (cc)
  started-empty Auto (Ok at) e = let q = not-empty at.window at.job at.offer.from (is_time at.offer.from) outside_limits e in clash (cc)
  started-empty choice (Err x) e = cc

  finished-empty : (job : Job) (t : RunTime) (f : Phase) → finished job t f ≡ Refused refusal.EmptyOffer → ⊥
  unfolding finished
  finished-empty job t (Waiting j i) e = clash (cc)
  finished-empty job t (Running j i s) e = go (within (s.0 +ℤ job.min) (s.0 +ℤ job.max) t.0) e
    where
      go : (x : Bool) → cond x (Final j i t) (Refused refusal.OutsideTimes) ≡ Refused refusal.EmptyOffer → ⊥
      go true e = clash (cc)
      go false e = clash (cc)

  pub answer-empty : (st : Step) → answer_at d cs ds r st ≡ Refused refusal.EmptyOffer → opening_at d cs ds r r.phase ≡ Err refusal.EmptyOffer
  unfolding answer_at
  answer-empty Ask e = asked-empty _ e
  answer-empty (Start choice) e = started-empty choice _ e
  answer-empty (Finish t) e = absurd (finished-empty d.job t r.phase e)

  -- ---- while an opening is open

  module _ (j i : ℕ) (o : Offer) (opens : opening_at d cs ds r r.phase ≡ Ok (opening_of j i o)) where
    pub ask-offered : answer_at d cs ds r Ask ≡ Offered o
    unfolding answer_at asked
    ask-offered = ap asked opens

    pub start-taken : (t : RunTime) → o.from.0 ≤ℤ t.0 → t.0 ≤ℤ o.to.0 → answer_at d cs ds r (Start (At t)) ≡ Started j i t
    unfolding answer_at started
    start-taken t a b =
        ap (started (At t)) opens
        ∙ ap (λ (x : Bool). cond x (Started j i t) (Refused refusal.OutsideOffer)) (within-yes o.from.0 o.to.0 t.0 a b)

    pub start-refused : (t : RunTime) → (o.from.0 ≤ℤ t.0 → t.0 ≤ℤ o.to.0 → ⊥) → answer_at d cs ds r (Start (At t)) ≡ Refused refusal.OutsideOffer
    unfolding answer_at started
    start-refused t off =
        ap (started (At t)) opens
        ∙ ap (λ (x : Bool). cond x (Started j i t) (Refused refusal.OutsideOffer)) (within-no o.from.0 o.to.0 t.0 off)

    pub start-auto : is_time o.from ≡ true → answer_at d cs ds r (Start Auto) ≡ Started j i o.from
    unfolding answer_at started
    start-auto h = ap (started Auto) opens ∙ ap (λ (x : Bool). cond x (Started j i o.from) (Refused outside_limits)) h

  -- ---- a finish

  module _ (j i : ℕ) (s : RunTime) (runs : r.phase ≡ Running j i s) (t : RunTime) where
    pub finish-inside : (s.0 +ℤ d.job.min) ≤ℤ t.0 → t.0 ≤ℤ (s.0 +ℤ d.job.max) → answer_at d cs ds r (Finish t) ≡ Final j i t
    unfolding answer_at finished
    finish-inside a b =
        ap (finished d.job t) runs ∙ ap (λ (x : Bool). cond x (Final j i t) (Refused refusal.OutsideTimes)) (within-yes _ _ t.0 a b)

    pub finish-outside : ((s.0 +ℤ d.job.min) ≤ℤ t.0 → t.0 ≤ℤ (s.0 +ℤ d.job.max) → ⊥) → answer_at d cs ds r (Finish t) ≡ Refused refusal.OutsideTimes
    unfolding answer_at finished
    finish-outside off =
        ap (finished d.job t) runs ∙ ap (λ (x : Bool). cond x (Final j i t) (Refused refusal.OutsideTimes)) (within-no _ _ t.0 off)
