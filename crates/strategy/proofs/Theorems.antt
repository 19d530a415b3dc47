-- Demand 3 as theorems. Of an accepted plan; its outcome, its calendar and its runs are document 01's, and what they are held against is `Strategies` alone.
-- Each proof cites where the work was done.
use Rattle.std.specs.Prelude.{Bool, true, ℕ, suc, ◌+◌, ◌*◌, ◌-◌, ◌≤◌, ◌<◌, ◌≡◌, refl, ◌↔◌, List, ℤ, ◌+ℤ◌, ◌≤ℤ◌, length}
use Rattle.std.proofs.Common.{arith}
use Rattle.clock.specs.declared.RunTime.{RunTime}
use Rattle.plan.specs.declared.Plan.{Plan}
use Rattle.plan.specs.Accepted.{Accepted}
use Rattle.lines.specs.declared.Refusal.TheVariants as refusal
use Rattle.bounds.specs.Events.{job_at, start_node, finish_node, nodes}
use Rattle.bounds.specs.Tables.{Cell, off, upto, Rows, at, contradiction, bounds, judged_set}
use Rattle.bounds.specs.Elimination.{finish_cell, start_cell}
use Rattle.rounds.specs.declared.Verdict.TheVariants.{Settled, NoStrategy}
use Rattle.rounds.specs.Rounds.{settled, outcome, verdict}
use Rattle.calendars.specs.declared.Calendar.{Calendar}
use Rattle.calendars.specs.Calendars.{calendar}
use Rattle.runs.specs.declared.Phase.TheVariants.{Waiting, Running}
use Rattle.runs.specs.declared.Run.{Run}
use Rattle.runs.specs.declared.Choice.{Choice}
use Rattle.runs.specs.declared.Choice.TheVariants.{At, Auto}
use Rattle.runs.specs.declared.Step.{Step}
use Rattle.runs.specs.declared.Step.TheVariants.{Ask, Start, Finish}
use Rattle.runs.specs.declared.Answer.TheVariants.{Offered, Started, Final, Refused}
use Rattle.runs.specs.ValueLimits.{is_time}
use Rattle.runs.specs.Offers.{offer_of}
use Rattle.runs.specs.Steps.{new_run, stepped, OnOffer, InTimes, after_steps}
use Rattle.runs.specs.StepEffectLaws.{started-running, final-next, final-over}
use Rattle.strategy.specs.Histories.{History, ran_for, turn, seen_from}
use Rattle.strategy.specs.Strategies.{Kept, Forced, Strategy, StrategyAfter, StrategyFor, StrategyForAll}
use Rattle.strategy.specs.Reaching.{AtTurn, history_after, Reached, ReachedWith, StepEffect}
use Rattle.strategy.proofs.Keeping.{Keeps, RunsInside, LongOrShort, OriginBounded, NodesSeen}
use Rattle.strategy.proofs.SetLaws.{judged-iff, judged-none}
use Rattle.strategy.proofs.EliminationLaws.{KeepsAt, set_at, finish-iff, start-iff}
use Rattle.strategy.proofs.KeptLaws.{LeavesRoom}
use Rattle.strategy.proofs.RoundLaws.{C, strategy-kept, strategy-keeps, keeps-strategy}
use Rattle.strategy.proofs.VerdictLaws.{settled_is, settled-from-then, settled-strategy, settled-outcome, none_is, none-outcome}
use Rattle.strategy.proofs.GameLaws.{fewer-windows}
use Rattle.strategy.proofs.ReachedLaws.{
  reached-kept,
  reached-some,
  reached-offer,
  reached-never-11,
  reached-waiting,
  reached-running,
  reached-ask,
  reached-taken,
  reached-in-range,
  reached-refused,
  reached-auto,
  reached-on,
  reached-final,
  reached-outside,
}
use Rattle.strategy.proofs.ReachingLaws as reaching-laws

-- ---- what a strategy is, as equations

-- None to go: every bound is kept.
pub strategy-nil : (p : Plan) (h : History) → Strategy p h 0 ≡ Kept p h
unfolding Forced
strategy-nil p h = refl

-- One more: there is a start, after which, whatever the running time, there is a strategy for the others.
pub strategy-more : (p : Plan) (h : History) (g : ℕ) → Strategy p h (suc g) ≡ ((t : ℤ) × StrategyAfter p h t g)
unfolding Forced
strategy-more p h g = refl

-- ---- elimination

-- Judgement. Times keep a judged set exactly if they keep the set before; range is no premise, since the set's bounds to and from the origin say it.
pub judgement-law : (p : Plan) (k : ℕ) (f : ℕ → ℕ → Cell) → OriginBounded p k f → (t : Rows) → judged_set p k f ≡ bounds t
    → (u : History) → NodesSeen p k u → RunsInside p u → Keeps k f u ↔ Keeps k (at t) u
judgement-law p k f a t e u s old = judged-iff p k f a t e u s old

-- A contradiction is kept by no times, if every job runs as long as it can, or if every job runs as short.
pub contradiction-law : (p : Plan) (k : ℕ) (f : ℕ → ℕ → Cell) → OriginBounded p k f → judged_set p k f ≡ contradiction
    → (long : Bool) × ((u : History) → NodesSeen p k u → LongOrShort p long u → Keeps k f u → ⊥)
contradiction-law p k f a e = judged-none p k f a e

-- 002's Lemma 1: times keep the cells without a finish exactly if with every running time after the start they keep the table.
pub finish-eliminated : (p : Plan) (k : ℕ) (t : Rows) (X : ℕ → ℤ) → at t (finish_node k) (finish_node k) ≡ off → (job_at p k).min ≤ℤ (job_at p k).max
    → KeepsAt (finish_node k) (finish_cell p k t) X
    ↔ ((e : ℤ) → (job_at p k).min ≤ℤ e → e ≤ℤ (job_at p k).max → KeepsAt (suc (finish_node k)) (at t) (set_at X (finish_node k) (X (start_node k) +ℤ e)))
finish-eliminated p k t X corner mm = finish-iff p k t X corner mm

-- 002's Lemma 2: times keep the cells without a start exactly if with some time for the start they keep the table.
pub start-eliminated : (k : ℕ) (t : Rows) (X : ℕ → ℤ) → at t (start_node k) (start_node k) ≡ off → (w : ℤ) → at t (start_node k) 0 ≡ upto w
    → KeepsAt (start_node k) (start_cell k t) X ↔ ((s : ℤ) × KeepsAt (suc (start_node k)) (at t) (set_at X (start_node k) s))
start-eliminated k t X corner w there = start-iff k t X corner w there

module _ (p : Plan) (good : Accepted p) where
  -- ---- rounds

  -- After j + 1 whole windows there is a strategy for m windows more exactly if the history keeps the plan's bounds and its last window keeps C(m).
  -- Every job so far ran between min and max, and every start left room for the longest run: as in any game that is won.
  pub round-theorem : (m : ℕ) (c : Rows) → C p m ≡ bounds c → (j : ℕ) (h : History) → length h ≡ suc j * p.jobs → RunsInside p h → LeavesRoom p h
      → Strategy p h (m * p.jobs) ↔ (Kept p h × Keeps (nodes p.jobs) (at c) (seen_from p j h))
  round-theorem m c e j h n old room = (
    λ s. (strategy-kept p good (m * p.jobs) h s, strategy-keeps p good m c e j h n old room s),
    λ k. keeps-strategy p good m c e j h n old room k.0 k.1,
  )

  -- 002's Proposition 2: fewer windows follow from more.
  pub fewer : (h : History) (g k a : ℕ) → Strategy p h (g + (a + k) * p.jobs) → Strategy p h (g + k * p.jobs)
  fewer h g k a s = fewer-windows p good h g k a s

  -- ---- the verdict

  -- 'settled': the settled set is C(m - 1), C(m), and every later one.
  pub settled-for-good : (m : ℕ) (c : Rows) → outcome p ≡ settled m c → (k : ℕ) → m ≤ suc k → C p k ≡ bounds c
  settled-for-good m c e k h = settled-from-then p good m c (settled_is p good m c e) k h

  -- From the beginning a strategy exists for every number of windows.
  pub settled-means : (m : ℕ) → verdict p ≡ Settled m → StrategyForAll p
  settled-means m h = let r = settled-outcome p good m h in settled-strategy p good m r.0 (settled_is p good m r.0 r.1)

  -- 'no strategy', K: none for K windows, and one for every smaller number. Unsettled says neither.
  pub no-strategy-means : (K : ℕ) → verdict p ≡ NoStrategy K → (StrategyFor p K → ⊥) × ((k : ℕ) → k < K → StrategyFor p k)
  no-strategy-means K h = let r = none_is p good K (none-outcome p good K h) in (r.none, r.fewer)

  -- ---- offers: of an accepted plan, in any reached run

  module _ (m : ℕ) (c : Rows) (accepted : outcome p ≡ settled m c) (r : Run) (h : History) (reached : Reached p (calendar p c) r h) where
    -- The run waits for job i of window j; `last` is no premise.
    module _ (j i : ℕ) (waits : r.phase ≡ Waiting j i) where
      -- The offer is not empty.
      pub offer-not-empty : (offer_of p (calendar p c) r j i).from.0 ≤ℤ (offer_of p (calendar p c) r j i).to.0
      offer-not-empty = reached-some p good m c accepted r h reached j i waits

      -- t is on offer if and only if, after starting there, for this window (k = 0) and for each later one there is a strategy up to that window's end.
      pub offer-exact : (t : ℤ) → OnOffer (offer_of p (calendar p c) r j i) t ↔ ((k : ℕ) → StrategyAfter p h t ((p.jobs - i) + k * p.jobs))
      offer-exact t = reached-offer p good m c accepted r h reached j i waits t

      -- It is that job's turn.
      pub waits-at-turn : AtTurn p h j i
      waits-at-turn = reached-waiting p good m c accepted r h reached j i waits

      module _ (lasts : j ≤ p.last) where
        -- While the run lasts, an ask is answered by that offer,
        pub ask-answered : (stepped p (calendar p c) r Ask).answer ≡ Offered (offer_of p (calendar p c) r j i)
        ask-answered = reached-ask p good m c accepted r h reached j i waits lasts

        -- a start on offer is taken,
        pub on-offer-taken : (t : RunTime) → OnOffer (offer_of p (calendar p c) r j i) t.0 → (stepped p (calendar p c) r (Start (At t))).answer ≡ Started j i t
        on-offer-taken = reached-taken p good m c accepted r h reached j i waits lasts

        -- and is in the range of T,
        pub on-offer-in-range : (t : RunTime) → OnOffer (offer_of p (calendar p c) r j i) t.0 → is_time t ≡ true
        on-offer-in-range = reached-in-range p good m c accepted r h reached j i waits lasts

        -- any other start is refused by 8,
        pub off-offer-refused : (t : RunTime) → (OnOffer (offer_of p (calendar p c) r j i) t.0 → ⊥)
            → (stepped p (calendar p c) r (Start (At t))).answer ≡ Refused refusal.OutsideOffer
        off-offer-refused = reached-refused p good m c accepted r h reached j i waits lasts

        -- and `start=auto` takes the lower end of the offer.
        pub auto-taken : (stepped p (calendar p c) r (Start Auto)).answer ≡ Started j i (offer_of p (calendar p c) r j i).from
        auto-taken = reached-auto p good m c accepted r h reached j i waits lasts

        -- So no run is missing: from here every start on offer and every running time between min and max lead to a run with that history.
        pub no-run-missing : (t : RunTime) → OnOffer (offer_of p (calendar p c) r j i) t.0
            → (e : ℤ) → (turn p (length h)).min ≤ℤ e → e ≤ℤ (turn p (length h)).max → (r' : Run) × Reached p (calendar p c) r' (ran_for h t.0 e)
        no-run-missing = reached-on p good m c accepted r h reached j i waits lasts

    -- The run runs job i of window j since s.
    module _ (j i : ℕ) (s : RunTime) (runs : r.phase ≡ Running j i s) where
      pub runs-at-turn : AtTurn p h j i
      runs-at-turn = reached-running p good m c accepted r h reached j i s runs

      module _ (t : RunTime) where
        -- A finish is final if and only if it is inside the times of the job whose turn it is,
        pub inside-final : InTimes (turn p (length h)) s.0 t.0 ↔ ((stepped p (calendar p c) r (Finish t)).answer ≡ Final j i t)
        inside-final = reached-final p good m c accepted r h reached j i s runs t

        -- and else refused by 9.
        pub outside-refused : (InTimes (turn p (length h)) s.0 t.0 → ⊥) → (stepped p (calendar p c) r (Finish t)).answer ≡ Refused refusal.OutsideTimes
        outside-refused = reached-outside p good m c accepted r h reached j i s runs t

    -- Refusal 11 is never given.
    pub never-11 : (st : Step) → (stepped p (calendar p c) r st).answer ≡ Refused refusal.EmptyOffer → ⊥
    never-11 = reached-never-11 p good m c accepted r h reached

    -- The run has kept every bound.
    pub all-kept : Kept p h
    all-kept = reached-kept p good m c accepted r h reached

-- ---- steps of any run, with any plan and calendar: what they make of it

-- 'whose starts were on offer and running times inside limits': a step leaves run and history as they are, or it is a start that was on offer, or a finish of
-- the job that runs, inside its times.
pub step-effect : (p : Plan) (c : Calendar) (r : Run) (h : History) (st : Step)
    → StepEffect p c r h (stepped p c r st).run (history_after r (stepped p c r st).answer h)
step-effect = reaching-laws.step-effect

module _ (p : Plan) (c : Calendar) (r : Run) (j i : ℕ) where
  -- A start that was answered by `started=j,i,t` leaves the run running that job since t.
  pub started-runs : (choice : Choice) (t : RunTime) → (stepped p c r (Start choice)).answer ≡ Started j i t
      → (stepped p c r (Start choice)).run.phase ≡ Running j i t
  started-runs choice t e = started-running p c r choice j i t e

  -- A finish that was answered by `final=j,i,t` leaves the run waiting for the window's next job, or for the first job of the next window.
  module _ (s t : RunTime) (runs : r.phase ≡ Running j i s) (final : (stepped p c r (Finish t)).answer ≡ Final j i t) where
    pub then-next-job : i < p.jobs → (stepped p c r (Finish t)).run.phase ≡ Waiting j (i + 1)
    then-next-job = final-next p c r j i s runs t final

    pub then-next-window : i ≡ p.jobs → (stepped p c r (Finish t)).run.phase ≡ Waiting (j + 1) 1
    then-next-window e = final-over p c r j i s runs t final (omega arith)

-- ---- sessions: whatever the steps are, the run after them is one of which the theorems on offers speak.
pub session-reached : (p : Plan) (c : Calendar) (sts : List Step) → ReachedWith p c (after_steps p c new_run sts)
session-reached = reaching-laws.steps-reached
