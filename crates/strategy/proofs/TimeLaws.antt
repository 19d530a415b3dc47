-- A start after which there is a strategy lies between the release and the deadline of its job, on its window's clock (`start-released`, `start-in_time`); so
-- in a window up to `last` it is in the range of T (`start-time`).
use Rattle.std.specs.Prelude.{ℕ, suc, ◌+◌, ◌*◌, ◌≤◌, ◌<◌, ◌≡◌, refl, Bool, true, false, ◌&&◌, [], ◌∷◌, ◌++◌, ℤ, pos, negsuc, ◌+ℤ◌, ◌-ℤ◌, ◌*ℤ◌, ◌≤ℤ◌, length}
use Rattle.std.proofs.Common.{subst, ap, ◌∙◌, arith, mul-zero}
use Rattle.std.specs.Int.Signed.{le_z}
use Rattle.whole.specs.Split.{Within, dn}
use Rattle.whole.specs.SplitLaws.{split-mul}
use Rattle.whole.specs.Order.{mul-within}
use Rattle.whole.specs.Rules.{wholes}
use Rattle.whole.specs.Shape.{any, ◌⊕◌, ◌⊖◌, le}
use Rattle.whole.specs.ShapeLaws.{reads}
use Rattle.plan.specs.declared.Plan.{Plan}
use Rattle.plan.specs.Limits.{latest_deadline}
use Rattle.plan.specs.Accepted.{Accepted}
use Rattle.text.specs.Numbers.{within}
use Rattle.runs.specs.ValueLimits.{last_time}
use Rattle.strategy.specs.Histories.{Ran, History, ran_for, turn, on_window, seen_from}
use Rattle.strategy.specs.Strategies.{ran_in, KeptIn, StrategyAfter}
use Rattle.strategy.proofs.HistoryLaws.{length_more, ran-new, turn-min-max}
use Rattle.strategy.proofs.SeenLaws.{length_seen, ran-seen}
use Rattle.strategy.proofs.AcceptedLaws.{turn-accepted}
use Rattle.strategy.proofs.RoundLaws.{strategy-kept}

module _ (p : Plan) (good : Accepted p) (h : History) (j i g : ℕ) (size : length h ≡ j * p.jobs + i) (job : i < p.jobs) (t : ℤ)
    (s : StrategyAfter p h t g) where
  -- the shortest run
  abbrev shortest : ℤ
  shortest = (turn p (length h)).min

  abbrev ran : Ran
  ran = record { start = t; finish = t +ℤ shortest }

  kept : KeptIn p (seen_from p j (h ++ (ran ∷ [])))
  kept = strategy-kept p good g (ran_for h t shortest) (s shortest (omega wholes) (turn-min-max p good (length h))) j

  there : i < length (seen_from p j (h ++ (ran ∷ [])))
  there = omega (arith, length_seen p j (h ++ (ran ∷ [])), length_more h ran)

  ran-is : ran_in (seen_from p j (h ++ (ran ∷ []))) i ≡ on_window (pos j *ℤ p.window) ran
  ran-is =
      ran-seen p j (h ++ (ran ∷ [])) i (omega (arith, length_more h ran))
      ∙ ap (on_window (pos j *ℤ p.window)) (ran-new h ran (j * p.jobs + i) size)

  start-released : (turn p i).release ≤ℤ (t -ℤ pos j *ℤ p.window)
  start-released = subst (λ r. (turn p i).release ≤ℤ r.start) ran-is (kept.released i job there)

  start-in_time : ((t +ℤ shortest) -ℤ pos j *ℤ p.window) ≤ℤ (turn p i).deadline
  start-in_time = subst (λ r. r.finish ≤ℤ (turn p i).deadline) ran-is (kept.in_time i job there)

in-range : (t : ℤ) → pos 0 ≤ℤ t → t ≤ℤ last_time → within (pos 0) last_time t ≡ true
in-range t a b = by (le_z (pos 0) t) refl (le_z t last_time) refl
  where
    by : (x : Bool) → le_z (pos 0) t ≡ x → (y : Bool) → le_z t last_time ≡ y → x && y ≡ true
    by true e true f = refl
    by true e false f = absurd (omega wholes)
    by false e y f = absurd (omega wholes)

none_below : (w : ℤ) → pos 1 ≤ℤ w → dn w ≡ 0
none_below (pos n) h = refl
none_below (negsuc n) h = absurd (omega wholes)

-- a time on the run's clock, from one on the clock of a window that begins at b
not-before : (t b r : ℤ) → r ≤ℤ (t -ℤ b) → pos 0 ≤ℤ r → pos 0 ≤ℤ b → pos 0 ≤ℤ t
not-before t b r h n m = omega wholes

not_after : (t b e d : ℤ) → ((t +ℤ e) -ℤ b) ≤ℤ d → pos 0 ≤ℤ e → d ≤ℤ latest_deadline → Within (1000000000 * 86400000) b → t ≤ℤ last_time
not_after t b e d h n m w = omega (reads le (any ⊕ any ⊖ any) any, wholes)

module _ (p : Plan) (good : Accepted p) where
  begins-within : (j : ℕ) → suc j ≤ p.last → Within (1000000000 * 86400000) (pos j *ℤ p.window)
  begins-within j lasts =
      let l = good.last-most in
      let few : Within 1000000000 (pos j) = omega wholes in
      let wide : Within 86400000 p.window = omega (wholes, good.window-least, good.window-most) in
      mul-within few wide

  begins-least : (j : ℕ) → pos 0 ≤ℤ (pos j *ℤ p.window)
  begins-least j =
      let m = split-mul j p.window in
      let zero : dn (pos j *ℤ p.window) ≡ 0 = m.1 ∙ ap (λ k. j * k) (none_below p.window good.window-least) ∙ mul-zero j in
      omega (wholes, zero)

  pub start-time : (h : History) (j i g : ℕ) → length h ≡ j * p.jobs + i → i < p.jobs → suc j ≤ p.last → (t : ℤ) → StrategyAfter p h t g
      → within (pos 0) last_time t ≡ true
  start-time h j i g size job lasts t s =
      let low = start-released p good h j i g size job t s in
      let high = start-in_time p good h j i g size job t s in
      let q = turn-accepted p good i in
      let e = turn-accepted p good (length h) in
      in-range t
      (not-before t (pos j *ℤ p.window) (turn p i).release low q.release-least (begins-least j))
      (not_after t (pos j *ℤ p.window) (turn p (length h)).min (turn p i).deadline high e.min-least q.deadline-most (begins-within j lasts))
