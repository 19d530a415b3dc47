-- What a strategy is: 002's Definitions 3 and 4, with document 01's bounds. Nothing is named here but the plan's own numbers and bounds.
use Rattle.std.specs.Prelude.{ℕ, zero, suc, ◌+◌, ◌*◌, ◌-◌, ◌<◌, [], ℤ, ◌-ℤ◌, ◌≤ℤ◌, length, get_or}
use Rattle.plan.specs.declared.Letter.{Letter}
use Rattle.plan.specs.declared.Letter.TheVariants as letter
use Rattle.plan.specs.declared.Kind.{Kind}
use Rattle.plan.specs.declared.Kind.TheVariants as kind
use Rattle.plan.specs.declared.EventName.{EventName}
use Rattle.plan.specs.declared.Bound.{Bound}
use Rattle.plan.specs.declared.Plan.{Plan}
use Rattle.plan.specs.PlanLines.{no_bound}
use Rattle.strategy.specs.Histories.{Ran, History, no_ran, ran_for, turn, seen_from}

-- ---- the bounds of one window and the next, over what was seen from that window on, on its own clock

abbrev pub ran_in : History → ℕ → Ran
ran_in u k = get_or u k no_ran

-- which job of the two windows an event is of, from 0: 't this, n next'
abbrev pub job_in : Plan → Letter → ℕ → ℕ
job_in p letter.This i = i - 1
job_in p letter.Next i = p.jobs + (i - 1)

abbrev pub place_in : Plan → EventName → ℕ
place_in p e = job_in p e.letter e.job

-- when the event was
abbrev pub kind_in : Kind → Ran → ℤ
kind_in kind.Start r = r.start
kind_in kind.Finish r = r.finish

abbrev pub time_in : Plan → History → EventName → ℤ
time_in p u e = kind_in e.kind (ran_in u (place_in p e))

-- '`bounds=`', 'that many `bound=A,B,c`': the bound at a place, from 0; those of the plan are at the places below `bounds`
abbrev pub bound_in : Plan → ℕ → Bound
bound_in p k = get_or p.bound k no_bound

-- '`bound=A,B,c` means A - B <= c.'
abbrev pub GivenKept : Plan → History → Bound → Type 0
GivenKept p u d =
    place_in p d.a < length u → place_in p d.b < length u → (time_in p u d.a -ℤ time_in p u d.b) ≤ℤ d.c

-- every bound whose events have been seen
pub record KeptIn (p : Plan) (u : History) : Type 0 where
  -- 'release', 'deadline'
  pub released : (i : ℕ) → i < p.jobs → i < length u → (turn p i).release ≤ℤ (ran_in u i).start
  pub in_time : (i : ℕ) → i < p.jobs → i < length u → (ran_in u i).finish ≤ℤ (turn p i).deadline
  -- 'the finish of job i is at most the start of job i+1', 'the last finish is at most the next window's first start'
  pub ordered : (i : ℕ) → i < p.jobs → suc i < length u → (ran_in u i).finish ≤ℤ (ran_in u (suc i)).start
  -- 'all given bounds'
  pub given : (k : ℕ) → k < p.bounds → GivenKept p u (bound_in p k)

-- every bound of every window and of every two neighbours
abbrev pub Kept : Plan → History → Type 0
Kept p h = (j : ℕ) → KeptIn p (seen_from p j h)

-- ---- strategies

-- 'exists s :: for all e in [l, u] :: ..', for the next g jobs one after the other: their starts can be chosen, each in the light of all that has
-- been seen, so that Q holds of the history in the end, whatever the running times
unfoldable pub Forced : Plan → (History → Type 0) → ℕ → History → Type 0
Forced p Q zero h = Q h
Forced p Q (suc g) h =
    (t : ℤ)
    × ((e : ℤ) → (turn p (length h)).min ≤ℤ e → e ≤ℤ (turn p (length h)).max → Forced p Q g (ran_for h t e))

-- Definition 3, after a history: the next g jobs can be started so that every bound is kept
abbrev pub Strategy : Plan → History → ℕ → Type 0
Strategy p h g = Forced p (Kept p) g h

-- after a start of the next job at t, whatever its running time
abbrev pub StrategyAfter : Plan → History → ℤ → ℕ → Type 0
StrategyAfter p h t g = (e : ℤ) → (turn p (length h)).min ≤ℤ e → e ≤ℤ (turn p (length h)).max → Strategy p (ran_for h t e) g

-- Definition 3: 'Schedulability' of k windows, from the beginning
abbrev pub StrategyFor : Plan → ℕ → Type 0
StrategyFor p k = Strategy p [] (k * p.jobs)

-- Definition 4: of windows without end. 'schedulable if and only if' every number of windows is
abbrev pub StrategyForAll : Plan → Type 0
StrategyForAll p = (k : ℕ) → StrategyFor p k
