-- Reached runs. Such a run shows its history, and from it the game can still be won (`state`); so its offer is never empty, and t is on offer exactly if
-- after a start at t strategies exist to the end of this window and of every later one.
use Rattle.std.specs.Prelude.{ℕ, zero, suc, ◌+◌, ◌*◌, ◌-◌, ◌≤◌, ◌≡◌, refl, ◌↔◌, ◌⊎◌, true, [], ◌∷◌, ◌++◌, ℤ, ◌+ℤ◌, ◌-ℤ◌, ◌≤ℤ◌, length, get_or, Ok, Err}
use Rattle.std.proofs.Common.{sym, ap, ap₂, ◌∙◌, inl, inr, arith}
use Rattle.std.proofs.Math.Path.{subst}
use Rattle.whole.specs.Clash.{clash}
use Rattle.whole.specs.Rules.{wholes}
use Rattle.clock.specs.declared.RunTime.{RunTime}
use Rattle.plan.specs.declared.Plan.{Plan}
use Rattle.lines.specs.declared.Refusal.TheVariants as refusal
use Rattle.plan.specs.PlanLines.{no_job}
use Rattle.bounds.specs.Tables.{Rows}
use Rattle.rounds.specs.Rounds.{settled, outcome}
use Rattle.calendars.specs.Calendars.{calendar}
use Rattle.runs.specs.declared.Phase.TheVariants.{Waiting, Running}
use Rattle.runs.specs.declared.Run.{Run}
use Rattle.runs.specs.declared.Offer.{Offer}
use Rattle.runs.specs.declared.Choice.TheVariants.{At, Auto}
use Rattle.runs.specs.declared.Step.{Step}
use Rattle.runs.specs.declared.Step.TheVariants.{Ask, Start, Finish}
use Rattle.runs.specs.declared.Answer.TheVariants.{Offered, Started, Final, Refused}
use Rattle.runs.specs.ValueLimits.{is_time}
use Rattle.runs.specs.Offers.{offer_of, opening, opening_of}
use Rattle.runs.specs.Steps.{new_run, running_since, closed_since, stepped, OnOffer, InTimes}
use Rattle.runs.specs.StepEffectLaws.{opening-open, waiting-not-empty, running-not-empty, started-running, finish-final, finish-refused, final-inside}
use Rattle.runs.specs.AnswerLaws.{answer-empty, ask-offered, start-taken, start-refused, start-auto}
use Rattle.strategy.specs.Histories.{Ran, History, ran_for, turn}
use Rattle.strategy.specs.Strategies.{Kept, StrategyAfter}
use Rattle.strategy.specs.Reaching.{AtTurn, with_finish, history_after, Reached, begun, more, StepEffect, nothing, start-on-offer, finish-inside-times}
use Rattle.strategy.proofs.ReachingLaws.{turn-job, step-effect}
use Rattle.plan.specs.Accepted.{Accepted}
use Rattle.strategy.proofs.TimeLaws.{start-time}
use Rattle.strategy.proofs.KeptLaws.{always-kept}
use Rattle.strategy.proofs.VerdictLaws.{IsSettled, settled_is}
use Rattle.strategy.proofs.GameLaws.{
  Settling,
  settling,
  Winnable,
  winnable-begin,
  WinnableAfter,
  winnable-more,
  Winning,
  winning-strategies,
  strategies-winning,
}
use Rattle.strategy.proofs.RunLaws.{ShowsHistory}
use Rattle.strategy.proofs.WinningLaws.{offer-winning, winning-offer, offer-some}
use Rattle.strategy.proofs.ShowsLaws.{goes_on, next-begins}

module _ (p : Plan) (good : Accepted p) (m : ℕ) (c : Rows) (s : IsSettled p good m c) (f : Settling p good m c s) where
  -- it waits for the start of job i + 1 of window j + 1
  pub record Waits (r : Run) (h : History) : Type 0 where
    pub j : ℕ
    pub i : ℕ
    pub g : ℕ
    pub phase : r.phase ≡ Waiting (suc j) (suc i)
    pub winnable : Winnable p good m c s f h j i (suc g)
    pub shows : ShowsHistory p r h j i

  -- it runs that job since a time from which the game can be won
  pub record Runs (r : Run) (h : History) : Type 0 where
    pub j : ℕ
    pub i : ℕ
    pub g : ℕ
    pub since : RunTime
    pub phase : r.phase ≡ Running (suc j) (suc i) since
    pub winnable : Winnable p good m c s f h j i (suc g)
    pub shows : ShowsHistory p r h j i
    pub winning : Winning p good m c s f h j g since.0

  begun-waits : Waits new_run []
  begun-waits =
      record {
        j = 0;
        i = 0;
        g = p.jobs - 1;
        phase = refl;
        winnable = subst (Winnable p good m c s f [] 0 0) (let a = good.jobs-least in let e : p.jobs ≡ suc (p.jobs - 1) = omega arith in e)
            (winnable-begin p good m c s f);
        shows = record { places = refl; present = λ k l. absurd (omega arith); previous = refl };
      }

  shows-running : (r : Run) (h : History) (j i a b : ℕ) (t : RunTime) → ShowsHistory p r h j i → ShowsHistory p (running_since r a b t) h j i
  shows-running r h zero i a b t sh = record { places = sh.places; present = sh.present; previous = sh.previous }
  shows-running r h (suc j) i a b t sh = record { places = sh.places; present = sh.present; previous = sh.previous }

  started-runs : (r : Run) (h : History) (w : Waits r h) (j i : ℕ) (t : RunTime) → r.phase ≡ Waiting j i → OnOffer (offer_of p (calendar p c) r j i) t.0
      → Runs (running_since r j i t) h
  started-runs r h w j i t e on =
      let x = w.phase in
      let same-window : suc w.j ≡ j = cc in
      let same-job : suc w.i ≡ i = cc in
      record {
        j = w.j;
        i = w.i;
        g = w.g;
        since = t;
        phase = ap₂ (λ a b. Running a b t) (sym same-window) (sym same-job);
        winnable = w.winnable;
        shows = shows-running r h w.j w.i j i t w.shows;
        winning =
            offer-winning p good m c s f r h w.i w.g w.j w.winnable w.shows t.0
            (subst (λ o. OnOffer o t.0) (sym (ap₂ (offer_of p (calendar p c) r) same-window same-job)) on);
      }

  turn-of-winnable : (h : History) (j i g : ℕ) → Winnable p good m c s f h j i (suc g) → AtTurn p h (suc j) (suc i)
  turn-of-winnable h j i g w =
      record {
        window = omega arith;
        job-least = omega arith;
        job-most = omega (arith, w.ig);
        finished = w.size ∙ ap₂ (λ (a b : ℕ). a * p.jobs + b) (let e : j ≡ suc j - 1 = omega arith in e) (let e : i ≡ suc i - 1 = omega arith in e);
      }

  module _ (r : Run) (h : History) (j i : ℕ) (since finish : RunTime) (sh : ShowsHistory p r h j i) where
    abbrev ran : Ran
    ran = record { start = since.0; finish = finish.0 }

    abbrev after : Run
    after = closed_since p.jobs r (suc j) (suc i) since finish

    moves-on : (g : ℕ) (w : Winnable p good m c s f h j i (suc g)) → WinnableAfter p good m c s f j i g (h ++ (ran ∷ [])) → Waits after (h ++ (ran ∷ []))
    moves-on zero w next =
        let a = w.ig in
        let b = next-begins p r h j i sh good.jobs-most (omega arith) w.size since finish (omega arith) in
        record {
          j = suc j;
          i = 0;
          g = p.jobs - 1;
          phase = b.0;
          winnable = subst (Winnable p good m c s f (h ++ (ran ∷ [])) (suc j) 0)
              (let k = good.jobs-least in let e : p.jobs ≡ suc (p.jobs - 1) = omega arith in e) next;
          shows = b.1;
        }
    moves-on (suc g) w next =
        let a = w.ig in
        let b = goes_on p r h j i sh good.jobs-most (omega arith) w.size since finish (omega arith) in
        record { j = j; i = suc i; g = g; phase = b.0; winnable = next; shows = b.1 }

  finish-is : (a b : ℤ) → a +ℤ (b -ℤ a) ≡ b
  finish-is a b = omega wholes

  finished-waits : (r : Run) (h : History) (w : Runs r h) (j i : ℕ) (since t : RunTime) → r.phase ≡ Running j i since
      → InTimes (get_or p.job (i - 1) no_job) since.0 t.0
      → Waits (closed_since p.jobs r j i since t) (h ++ (record { start = since.0; finish = t.0 } ∷ []))
  finished-waits r h w j i since t e inside =
      let x = w.phase in
      let same-window : suc w.j ≡ j = cc in
      let same-job : suc w.i ≡ i = cc in
      let same_start : w.since ≡ since = cc in
      let n = turn-job p h _ _ (turn-of-winnable h w.j w.i w.g w.winnable) ∙ ap (λ i. get_or p.job (i - 1) no_job) same-job in
      let ran = t.0 -ℤ since.0 in
      let lo = inside.least in
      let hi = inside.most in
      let lo' : (turn p (length h)).min ≤ℤ (t.0 -ℤ since.0) = rw n (omega wholes) in
      let hi' : (t.0 -ℤ since.0) ≤ℤ (turn p (length h)).max = rw n (omega wholes) in
      let wins = subst (λ s. Winning p good m c _ f h w.j w.g s.0) same_start w.winning in
      let next = winnable-more p good m c s f h w.j w.i w.g w.winnable since.0 ran lo' hi' (wins ran lo' hi') in
      subst (λ j. Waits (closed_since p.jobs r j i since t) (h ++ (record { start = since.0; finish = t.0 } ∷ []))) same-window
      (subst (λ i. Waits (closed_since p.jobs r (suc w.j) i since t) (h ++ (record { start = since.0; finish = t.0 } ∷ []))) same-job
      (moves-on r h w.j w.i since t w.shows w.g w.winnable
      (subst (λ z. WinnableAfter p good m c s f w.j w.i w.g (h ++ (record { start = since.0; finish = z } ∷ [])))
      (finish-is since.0 t.0) next)))

  not-both : (r : Run) (a b d e : ℕ) (t : RunTime) → r.phase ≡ Waiting a b → r.phase ≡ Running d e t → ⊥
  not-both r a b d e t x y = clash (cc)

  after-step : {r r' : Run} {h h' : History} → StepEffect p (calendar p c) r h r' h' → Waits r h ⊎ Runs r h → Waits r' h' ⊎ Runs r' h'
  after-step nothing w = w
  after-step {r = r} {h = h} (start-on-offer j i t e l on) (inl w) = inr (started-runs r h w j i t e on)
  after-step {r = r} (start-on-offer j i t e l on) (inr w) = absurd (not-both r j i _ _ _ e w.phase)
  after-step {r = r} (finish-inside-times j i since t e inside) (inl w) = absurd (not-both r _ _ j i since w.phase e)
  after-step {r = r} {h = h} (finish-inside-times j i since t e inside) (inr w) = inl (finished-waits r h w j i since t e inside)

  pub state : {r : Run} {h : History} → Reached p (calendar p c) r h → Waits r h ⊎ Runs r h
  state begun = inl begun-waits
  state (more {r = r} {h = h} before st) = after-step (step-effect p (calendar p c) r h st) (state before)

-- ---- the offers of such a run

module _ (p : Plan) (good : Accepted p) (m : ℕ) (c : Rows) (accepted : outcome p ≡ settled m c) where
  abbrev s : IsSettled p good m c
  s = settled_is p good m c accepted

  abbrev f : Settling p good m c s
  f = settling p good m c s

  module _ (r : Run) (h : History) (reached : Reached p (calendar p c) r h) where
    run-held : Waits p good m c s f r h ⊎ Runs p good m c s f r h → Kept p h
    run-held (inl w) = always-kept p h w.winnable.held
    run-held (inr w) = always-kept p h w.winnable.held

    pub reached-kept : Kept p h
    reached-kept = run-held (state p good m c s f reached)

    -- whose turn it is
    turn-from : (j i g J I : ℕ) → suc j ≡ J → suc i ≡ I → Winnable p good m c s f h j i (suc g) → AtTurn p h J I
    turn-from j i g J I a b w = subst (AtTurn p h J) b (subst (λ j. AtTurn p h j (suc i)) a (turn-of-winnable p good m c s f h j i g w))

    waiting-turn : (J I : ℕ) → r.phase ≡ Waiting J I → Waits p good m c s f r h ⊎ Runs p good m c s f r h → AtTurn p h J I
    waiting-turn J I e (inl w) = let d = w.phase in turn-from w.j w.i w.g J I (cc) (cc) w.winnable
    waiting-turn J I e (inr w) = let d = w.phase in clash (cc)

    running-turn : (J I : ℕ) (t : RunTime) → r.phase ≡ Running J I t → Waits p good m c s f r h ⊎ Runs p good m c s f r h → AtTurn p h J I
    running-turn J I t e (inl w) = let d = w.phase in clash (cc)
    running-turn J I t e (inr w) = let d = w.phase in turn-from w.j w.i w.g J I (cc) (cc) w.winnable

    pub reached-waiting : (J I : ℕ) → r.phase ≡ Waiting J I → AtTurn p h J I
    reached-waiting J I e = waiting-turn J I e (state p good m c s f reached)

    pub reached-running : (J I : ℕ) (t : RunTime) → r.phase ≡ Running J I t → AtTurn p h J I
    reached-running J I t e = running-turn J I t e (state p good m c s f reached)

    module _ (J I : ℕ) (phase : r.phase ≡ Waiting J I) where
      abbrev offered : Offer
      offered = offer_of p (calendar p c) r J I

      -- where the run waits, as its history has it
      pub record Turn : Type 0 where
        pub waits : Waits p good m c s f r h
        pub window : suc waits.j ≡ J
        pub job : suc waits.i ≡ I

      turn-of : Waits p good m c s f r h ⊎ Runs p good m c s f r h → Turn
      turn-of (inl w) = let e = w.phase in record { waits = w; window = cc; job = cc }
      turn-of (inr w) = let e = w.phase in clash (cc)

      at_turn : Turn
      at_turn = turn-of (state p good m c s f reached)

      offer-at : (t : Turn) → offer_of p (calendar p c) r (suc t.waits.j) (suc t.waits.i) ≡ offered
      offer-at t = ap₂ (offer_of p (calendar p c) r) t.window t.job

      pub reached-some : offered.from.0 ≤ℤ offered.to.0
      reached-some =
          let t = at_turn in
          let w = t.waits in
          subst (λ o. o.from.0 ≤ℤ o.to.0) (offer-at t) (offer-some p good m c s f r h w.i w.g w.j w.winnable w.shows)

      left_is : (t : Turn) → t.waits.g ≡ p.jobs - I
      left_is t = let a = t.waits.winnable.ig in let b = t.job in omega arith

      pub reached-offer : (t : ℤ) → OnOffer offered t ↔ ((k : ℕ) → StrategyAfter p h t ((p.jobs - I) + k * p.jobs))
      reached-offer t =
          let n = at_turn in
          let w = n.waits in (
            λ o k.
                subst (λ g. StrategyAfter p h t (g + k * p.jobs)) (left_is n)
                (winning-strategies p good m c s f h w.j w.i w.g w.winnable t
                (offer-winning p good m c s f r h w.i w.g w.j w.winnable w.shows t (subst (λ o. OnOffer o t) (sym (offer-at n)) o)) k),
            λ q.
                subst (λ o. OnOffer o t) (offer-at n)
                (winning-offer p good m c s f r h w.i w.g w.j w.winnable w.shows t
                (strategies-winning p good m c s f h w.j w.i w.g w.winnable t
                (λ k. subst (λ g. StrategyAfter p h t (g + k * p.jobs)) (sym (left_is n)) (q k)))),
          )

    -- 11 is never given
    never-empty : Waits p good m c s f r h ⊎ Runs p good m c s f r h → opening p (calendar p c) r ≡ Err refusal.EmptyOffer → ⊥
    never-empty (inl w) e =
        waiting-not-empty p (calendar p c) r (suc w.j) (suc w.i) w.phase (reached-some (suc w.j) (suc w.i) w.phase) e
    never-empty (inr w) e = running-not-empty p (calendar p c) r (suc w.j) (suc w.i) w.since w.phase e

    pub reached-never-11 : (st : Step) → (stepped p (calendar p c) r st).answer ≡ Refused refusal.EmptyOffer → ⊥
    reached-never-11 st e = never-empty (state p good m c s f reached) (answer-empty _ _ _ r st e)

    -- while the run lasts it is open: an ask is answered by it, and a start is taken exactly if it is on offer
    module _ (J I : ℕ) (phase : r.phase ≡ Waiting J I) (lasts : J ≤ p.last) where
      reached-open : opening p (calendar p c) r ≡ Ok (opening_of J I (offer_of p (calendar p c) r J I))
      reached-open = opening-open p (calendar p c) r J I phase (reached-some J I phase) lasts

      -- what is on offer is in the range of T
      pub reached-in-range : (t : RunTime) → OnOffer (offer_of p (calendar p c) r J I) t.0 → is_time t ≡ true
      reached-in-range t on =
          let n = at_turn J I phase in
          let w = n.waits.winnable in
          start-time p good h n.waits.j n.waits.i _ w.size (let g = w.ig in omega arith) (subst (λ j. j ≤ p.last) (sym n.window) lasts) t.0
          ((reached-offer J I phase t.0).0 on 0)

      -- and so is the lower end, so `start=auto` takes it
      reached-time : is_time (offer_of p (calendar p c) r J I).from ≡ true
      reached-time =
          let o = offer_of p (calendar p c) r J I in
          reached-in-range o.from (record { least = le-self o.from.0; most = reached-some J I phase })
        where
          le-self : (t : ℤ) → t ≤ℤ t
          le-self t = omega wholes

      pub reached-auto : (stepped p (calendar p c) r (Start Auto)).answer ≡ Started J I (offer_of p (calendar p c) r J I).from
      reached-auto = start-auto _ _ _ r J I _ reached-open reached-time

      pub reached-ask : (stepped p (calendar p c) r Ask).answer ≡ Offered (offer_of p (calendar p c) r J I)
      reached-ask = ask-offered _ _ _ r J I _ reached-open

      module _ (t : RunTime) where
        pub reached-taken : OnOffer (offer_of p (calendar p c) r J I) t.0 → (stepped p (calendar p c) r (Start (At t))).answer ≡ Started J I t
        reached-taken on = start-taken _ _ _ r J I _ reached-open t on.least on.most

        pub reached-refused : (OnOffer (offer_of p (calendar p c) r J I) t.0 → ⊥)
            → (stepped p (calendar p c) r (Start (At t))).answer ≡ Refused refusal.OutsideOffer
        reached-refused off = start-refused _ _ _ r J I _ reached-open t (λ a b. off (record { least = a; most = b }))

    -- a finish is final exactly inside its times
    module _ (J I : ℕ) (since : RunTime) (phase : r.phase ≡ Running J I since) (t : RunTime) where
      job_is : turn p (length h) ≡ get_or p.job (I - 1) no_job
      job_is = turn-job p h J I (reached-running J I since phase)

      pub reached-final : InTimes (turn p (length h)) since.0 t.0 ↔ ((stepped p (calendar p c) r (Finish t)).answer ≡ Final J I t)
      reached-final = (
        λ i. finish-final p (calendar p c) r J I since phase t (subst (λ x. InTimes x since.0 t.0) job_is i),
        λ e. subst (λ x. InTimes x since.0 t.0) (sym job_is) (final-inside p (calendar p c) r J I since phase t e),
      )

      pub reached-outside : (InTimes (turn p (length h)) since.0 t.0 → ⊥) → (stepped p (calendar p c) r (Finish t)).answer ≡ Refused refusal.OutsideTimes
      reached-outside o =
          finish-refused p (calendar p c) r J I since phase t (λ i. o (subst (λ x. InTimes x since.0 t.0) (sym job_is) i))

  -- ---- a start on offer and a running time between min and max lead on

  module _ (r : Run) (h : History) (reached : Reached p (calendar p c) r h) (J I : ℕ) (phase : r.phase ≡ Waiting J I) (lasts : J ≤ p.last)
      (t : RunTime) (on : OnOffer (offer_of p (calendar p c) r J I) t.0) where
    abbrev begins : Run
    begins = (stepped p (calendar p c) r (Start (At t))).run

    taken : (stepped p (calendar p c) r (Start (At t))).answer ≡ Started J I t
    taken = reached-taken r h reached J I phase lasts t on

    begins-reached : Reached p (calendar p c) begins h
    unfolding history_after
    begins-reached = subst (λ a. Reached p (calendar p c) begins (history_after r a h)) taken (more reached (Start (At t)))

    begins-running : begins.phase ≡ Running J I t
    begins-running = started-running p (calendar p c) r (At t) J I t taken

    pub reached-on : (e : ℤ) → (turn p (length h)).min ≤ℤ e → e ≤ℤ (turn p (length h)).max → (r' : Run) × Reached p (calendar p c) r' (ran_for h t.0 e)
    unfolding history_after with_finish
    reached-on e lo hi =
        let u : RunTime = record { 0 = t.0 +ℤ e } in
        let inside : InTimes (turn p (length h)) t.0 (t.0 +ℤ e) = record { least = omega wholes; most = omega wholes } in
        let final = (reached-final begins h begins-reached J I t begins-running u).0 inside in
        let ends = (stepped p (calendar p c) begins (Finish u)).run in (
          ends,
          subst (λ f. Reached p (calendar p c) ends (with_finish f u h)) begins-running
              (subst (λ a. Reached p (calendar p c) ends (history_after begins a h)) final (more begins-reached (Finish u))),
        )
