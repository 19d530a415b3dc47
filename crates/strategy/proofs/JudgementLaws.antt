-- The judgement of a bound, read as a fact about times. A bound that is left out is kept by all times in range. A contradiction is kept by
-- none in range, if every job runs as long as it can, or if every job runs as short: for the start and the finish of one job it takes one of
-- these (in P13 the made f - s <= 6 is kept by a short run), and for every other pair either will do.
use Rattle.std.specs.Prelude.{ℕ, ◌≡◌, Bool, true, false, cond, eqb, ℤ, pos, neg_ℤ, ◌-ℤ◌, ◌≤ℤ◌, ◌<ℤ◌}
use Rattle.std.proofs.Math.Path.{refl}
use Rattle.std.specs.Int.Signed.{lt_z, le_z}
use Rattle.std.proofs.Common.{eqb-true}
use Rattle.whole.specs.Clash.{clash}
use Rattle.whole.specs.SplitLaws.{split-neg}
use Rattle.whole.specs.Rules.{wholes}
use Rattle.plan.specs.declared.Plan.{Plan}
use Rattle.bounds.specs.declared.Event.{Event}
use Rattle.bounds.specs.declared.Event.TheVariants.{Origin, Start, Finish}
use Rattle.bounds.specs.declared.Judgement.TheVariants.{Contradiction, LeftOut, Kept}
use Rattle.bounds.specs.Events.{job_at, earliest, latest}
use Rattle.bounds.specs.Judgements.{judged, judged_same, judged_running, judged_reverse, judged_origin, judged_apart, at_least}
use Rattle.strategy.specs.Histories.{History}
use Rattle.strategy.specs.Strategies.{ran_in}
use Rattle.strategy.proofs.Keeping.{when, RunsWithin, EventInRange, long_or_short}

-- ---- the tests

test-left : (limit w : ℤ) (b : Bool) → lt_z w limit ≡ b → cond b Contradiction LeftOut ≡ LeftOut → limit ≤ℤ w
test-left limit w true e h = clash (cc)
test-left limit w false e h = omega wholes

at_least-left : (limit w : ℤ) → at_least limit w ≡ LeftOut → limit ≤ℤ w
at_least-left limit w h = test-left limit w (lt_z w limit) refl h

test-never : (limit w : ℤ) (b : Bool) → lt_z w limit ≡ b → cond b Contradiction LeftOut ≡ Contradiction → w <ℤ limit
test-never limit w true e h = omega wholes
test-never limit w false e h = clash (cc)

at_least-never : (limit w : ℤ) → at_least limit w ≡ Contradiction → w <ℤ limit
at_least-never limit w h = test-never limit w (lt_z w limit) refl h

origin-left : (b : Bool) → cond b Contradiction Kept ≡ LeftOut → ⊥
origin-left true h = clash (cc)
origin-left false h = clash (cc)

judged_origin-left : (p : Plan) (y z : Event) (w : ℤ) → judged_origin p y z w ≡ LeftOut → ⊥
judged_origin-left p y z w h = origin-left (lt_z w (earliest p z -ℤ latest p y)) h

origin-never : (limit w : ℤ) (b : Bool) → lt_z w limit ≡ b → cond b Contradiction Kept ≡ Contradiction → w <ℤ limit
origin-never limit w true e h = omega wholes
origin-never limit w false e h = clash (cc)

apart-left : (least most w : ℤ) (b c : Bool) → lt_z w least ≡ b → le_z most w ≡ c → cond b Contradiction (cond c LeftOut Kept) ≡ LeftOut → most ≤ℤ w
apart-left least most w true c e d h = clash (cc)
apart-left least most w false true e d h = omega wholes
apart-left least most w false false e d h = clash (cc)

apart-never : (least most w : ℤ) (b c : Bool) → lt_z w least ≡ b → le_z most w ≡ c → cond b Contradiction (cond c LeftOut Kept) ≡ Contradiction → w <ℤ least
apart-never least most w true c e d h = omega wholes
apart-never least most w false true e d h = clash (cc)
apart-never least most w false false e d h = clash (cc)

-- ---- an event that fits: in range, and a finish after a running time between min and max

abbrev pub Fits : Plan → History → Event → Type 0
Fits p u Origin = Unit {0}
Fits p u (Start k) = EventInRange p u (Start k)
Fits p u (Finish k) = EventInRange p u (Finish k) × RunsWithin (job_at p k) (ran_in u k)

fits-range : (p : Plan) (u : History) (e : Event) → Fits p u e → EventInRange p u e
unfolding earliest latest
fits-range p u Origin h = record { early = omega wholes; late = omega wholes }
fits-range p u (Start k) h = h
fits-range p u (Finish k) h = h.0

-- and its running time is the longest, or the shortest
abbrev pub FitsAt : Plan → Bool → History → Event → Type 0
FitsAt p long u Origin = Unit {0}
FitsAt p long u (Start k) = EventInRange p u (Start k)
FitsAt p long u (Finish k) = EventInRange p u (Finish k) × ((ran_in u k).finish -ℤ (ran_in u k).start ≡ long_or_short long (job_at p k))

fits_at-range : (p : Plan) (long : Bool) (u : History) (e : Event) → FitsAt p long u e → EventInRange p u e
unfolding earliest latest
fits_at-range p long u Origin h = record { early = omega wholes; late = omega wholes }
fits_at-range p long u (Start k) h = h
fits_at-range p long u (Finish k) h = h.0

-- ---- left out

module _ (p : Plan) (u : History) where
  left-apart : (y z : Event) (w : ℤ) → judged_apart p y z w ≡ LeftOut → Fits p u y → Fits p u z → (when u z -ℤ when u y) ≤ℤ w
  left-apart y z w h a b =
      let most : (latest p z -ℤ earliest p y) ≤ℤ w = apart-left (earliest p z -ℤ latest p y) (latest p z -ℤ earliest p y) w _ _ refl refl h in
      let ry = fits-range p u y a in
      let rz = fits-range p u z b in
      omega wholes

  left-same : (e : Event) (w : ℤ) → judged_same w ≡ LeftOut → (when u e -ℤ when u e) ≤ℤ w
  left-same e w h = let r = at_least-left (pos 0) w h in omega wholes

  left-running : (j k : ℕ) (w : ℤ) (b : Bool) → eqb j k ≡ b
      → cond b (judged_running p k w) (judged_apart p (Start j) (Finish k) w) ≡ LeftOut
      → Fits p u (Start j) → Fits p u (Finish k) → ((ran_in u k).finish -ℤ (ran_in u j).start) ≤ℤ w
  left-running j k w true e h a b =
      let r = at_least-left (job_at p k).max w h in
      let m = b.1.most in
      rw (eqb-true j k e) (omega wholes)
  left-running j k w false e h a b = left-apart (Start j) (Finish k) w h a b

  left-reverse : (j k : ℕ) (w : ℤ) (b : Bool) → eqb j k ≡ b
      → cond b (judged_reverse p k w) (judged_apart p (Finish j) (Start k) w) ≡ LeftOut
      → Fits p u (Finish j) → Fits p u (Start k) → ((ran_in u k).start -ℤ (ran_in u j).finish) ≤ℤ w
  left-reverse j k w true e h a b =
      let r = at_least-left (neg_ℤ (job_at p k).min) w h in
      let m : (job_at p k).min ≤ℤ ((ran_in u k).finish -ℤ (ran_in u k).start) = rw (← (eqb-true j k e)) a.1.least in
      rw (eqb-true j k e) (omega (wholes, split-neg (job_at p k).min))
  left-reverse j k w false e h a b = left-apart (Finish j) (Start k) w h a b

  left-starts : (j k : ℕ) (w : ℤ) (b : Bool) → eqb j k ≡ b
      → cond b (judged_same w) (judged_apart p (Start j) (Start k) w) ≡ LeftOut
      → Fits p u (Start j) → Fits p u (Start k) → ((ran_in u k).start -ℤ (ran_in u j).start) ≤ℤ w
  left-starts j k w true e h a b = rw (eqb-true j k e) (left-same (Start k) w h)
  left-starts j k w false e h a b = left-apart (Start j) (Start k) w h a b

  left-finishes : (j k : ℕ) (w : ℤ) (b : Bool) → eqb j k ≡ b
      → cond b (judged_same w) (judged_apart p (Finish j) (Finish k) w) ≡ LeftOut
      → Fits p u (Finish j) → Fits p u (Finish k) → ((ran_in u k).finish -ℤ (ran_in u j).finish) ≤ℤ w
  left-finishes j k w true e h a b = rw (eqb-true j k e) (left-same (Finish k) w h)
  left-finishes j k w false e h a b = left-apart (Finish j) (Finish k) w h a b

  pub judged-left : (y z : Event) (w : ℤ) → judged p y z w ≡ LeftOut → Fits p u y → Fits p u z → (when u z -ℤ when u y) ≤ℤ w
  unfolding judged
  judged-left Origin Origin w h a b = left-same Origin w h
  judged-left Origin (Start k) w h a b = absurd (judged_origin-left p Origin (Start k) w h)
  judged-left Origin (Finish k) w h a b = absurd (judged_origin-left p Origin (Finish k) w h)
  judged-left (Start j) Origin w h a b = absurd (judged_origin-left p (Start j) Origin w h)
  judged-left (Start j) (Start k) w h a b = left-starts j k w (eqb j k) refl h a b
  judged-left (Start j) (Finish k) w h a b = left-running j k w (eqb j k) refl h a b
  judged-left (Finish j) Origin w h a b = absurd (judged_origin-left p (Finish j) Origin w h)
  judged-left (Finish j) (Start k) w h a b = left-reverse j k w (eqb j k) refl h a b
  judged-left (Finish j) (Finish k) w h a b = left-finishes j k w (eqb j k) refl h a b

-- ---- contradictions

-- no times in range keep z - y <= w, where every job runs as long as it can, or where every job runs as short
abbrev Never : Plan → Event → Event → ℤ → Type 0
Never p y z w = (long : Bool) × ((u : History) → FitsAt p long u y → FitsAt p long u z → (when u z -ℤ when u y) ≤ℤ w → ⊥)

module _ (p : Plan) where
  never-far : (y z : Event) (w : ℤ) → w <ℤ (earliest p z -ℤ latest p y) → Never p y z w
  never-far y z w h =
      (true, λ u a b k. let ry = fits_at-range p true u y a in let rz = fits_at-range p true u z b in omega wholes)

  never-same : (e : Event) (w : ℤ) → judged_same w ≡ Contradiction → Never p e e w
  never-same e w h = (true, λ u a b k. let r = at_least-never (pos 0) w h in omega wholes)

  never-origin : (y z : Event) (w : ℤ) → judged_origin p y z w ≡ Contradiction → Never p y z w
  never-origin y z w h = never-far y z w (origin-never _ w _ refl h)

  never-apart : (y z : Event) (w : ℤ) → judged_apart p y z w ≡ Contradiction → Never p y z w
  never-apart y z w h = never-far y z w (apart-never _ (latest p z -ℤ earliest p y) w _ _ refl refl h)

  never-running : (j k : ℕ) (w : ℤ) (b : Bool) → eqb j k ≡ b
      → cond b (judged_running p k w) (judged_apart p (Start j) (Finish k) w) ≡ Contradiction → Never p (Start j) (Finish k) w
  never-running j k w true e h =
      rw (eqb-true j k e)
      (true, λ u a b d. let r = at_least-never (job_at p k).max w h in let m = b.1 in omega wholes)
  never-running j k w false e h = never-apart (Start j) (Finish k) w h

  never-reverse : (j k : ℕ) (w : ℤ) (b : Bool) → eqb j k ≡ b
      → cond b (judged_reverse p k w) (judged_apart p (Finish j) (Start k) w) ≡ Contradiction → Never p (Finish j) (Start k) w
  never-reverse j k w true e h =
      rw (eqb-true j k e)
      (false, λ u a b d. let r = at_least-never (neg_ℤ (job_at p k).min) w h in let m = a.1 in omega (wholes, split-neg (job_at p k).min))
  never-reverse j k w false e h = never-apart (Finish j) (Start k) w h

  never-starts : (j k : ℕ) (w : ℤ) (b : Bool) → eqb j k ≡ b
      → cond b (judged_same w) (judged_apart p (Start j) (Start k) w) ≡ Contradiction → Never p (Start j) (Start k) w
  never-starts j k w true e h = rw (eqb-true j k e) (never-same (Start k) w h)
  never-starts j k w false e h = never-apart (Start j) (Start k) w h

  never-finishes : (j k : ℕ) (w : ℤ) (b : Bool) → eqb j k ≡ b
      → cond b (judged_same w) (judged_apart p (Finish j) (Finish k) w) ≡ Contradiction → Never p (Finish j) (Finish k) w
  never-finishes j k w true e h = rw (eqb-true j k e) (never-same (Finish k) w h)
  never-finishes j k w false e h = never-apart (Finish j) (Finish k) w h

  pub judged-never : (y z : Event) (w : ℤ) → judged p y z w ≡ Contradiction → Never p y z w
  unfolding judged
  judged-never Origin Origin w h = never-same Origin w h
  judged-never Origin (Start k) w h = never-origin Origin (Start k) w h
  judged-never Origin (Finish k) w h = never-origin Origin (Finish k) w h
  judged-never (Start j) Origin w h = never-origin (Start j) Origin w h
  judged-never (Start j) (Start k) w h = never-starts j k w (eqb j k) refl h
  judged-never (Start j) (Finish k) w h = never-running j k w (eqb j k) refl h
  judged-never (Finish j) Origin w h = never-origin (Finish j) Origin w h
  judged-never (Finish j) (Start k) w h = never-reverse j k w (eqb j k) refl h
  judged-never (Finish j) (Finish k) w h = never-finishes j k w (eqb j k) refl h
