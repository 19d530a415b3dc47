-- The offer (document 01, 'Offers and runs': 'The offer is from the greatest lower bound to the least upper bound, both ends included').
use Rattle.std.specs.Prelude.{ℕ, ◌+◌, ◌*◌, ◌-◌, cond, ltb, ℤ, pos, ◌+ℤ◌, get_or, Result, Ok, Err}
use mathlib.Core.List.{List, [], ◌∷◌, map, foldl}
use Rattle.std.specs.Int.Signed.{lt_z}
use Rattle.clock.specs.Clock.{on_run}
use Rattle.plan.specs.declared.Job.{Job}
use Rattle.plan.specs.declared.Plan.{Plan}
use Rattle.lines.specs.declared.Refusal.{Refusal}
use Rattle.lines.specs.declared.Refusal.TheVariants as refusal
use Rattle.plan.specs.PlanLines.{no_job}
use Rattle.calendars.specs.declared.Calendar.{Calendar}
use Rattle.calendars.specs.declared.Terms.{Terms}
use Rattle.events.specs.Bits.{bits_of, members_from, most_events}
use Rattle.calendars.specs.Calendars.{events_ahead, no_terms}
use Rattle.runs.specs.declared.Phase.{Phase}
use Rattle.runs.specs.declared.Phase.TheVariants.{Waiting, Running}
use Rattle.runs.specs.declared.Run.{Run}
use Rattle.runs.specs.declared.Offer.{Offer}
use Rattle.runs.specs.declared.Opening.{Opening}
use Rattle.runs.specs.Seen.{time_at, first_seen}
use Rattle.runs.specs.ValueLimits.{job_of_phase}

-- ---- whose turn it is

-- what a plan says of windows and jobs, and of the job whose turn it is its limits and the terms of its calendar
pub record Turn : Type 0 where
  pub window : ℤ
  pub last : ℕ
  pub jobs : ℕ
  pub job : Job
  pub terms : Terms

-- what a plan and its calendar say of job i (from 1)
abbrev pub turn_of : Plan → Calendar → ℕ → Turn
turn_of p c i =
    record {
      window = p.window;
      last = p.last;
      jobs = p.jobs;
      job = get_or p.job (i - 1) no_job;
      terms = get_or c.terms (i - 1) no_terms;
    }

-- ---- the terms in force

-- the events that bound the start of the job at place i, of those that the run has seen before it
abbrev in_force : ℕ → Run → ℕ → ℕ → List ℕ
in_force jobs r i set = let first = first_seen jobs r.before in members_from set first (events_ahead jobs i - first)

-- the term of event e, whose c is at place row + e
abbrev pub term_at : List ℤ → List ℤ → ℕ → ℕ → ℤ
term_at seen cs row e = (time_at seen e).0 +ℤ get_or cs (row + e) (pos 0)

-- the terms on one side of the start of the job at place i: the origin's first, then those in force
abbrev terms_from : ℤ → ℕ → Run → ℕ → ℕ → List ℤ → List ℤ
terms_from origin jobs r i set cs = origin ∷ map (term_at r.seen cs (i * most_events)) (in_force jobs r i set)

-- the terms of job i (from 1) in window j
unfoldable pub lower_terms : Turn → List ℤ → Run → ℕ → ℕ → List ℤ
lower_terms d cs r j i =
    let t = d.terms in terms_from (on_run d.window j t.low).0 d.jobs r (i - 1) (bits_of t.below) cs

unfoldable pub upper_terms : Turn → List ℤ → Run → ℕ → ℕ → List ℤ
upper_terms d cs r j i =
    let t = d.terms in terms_from (on_run d.window j t.high).0 d.jobs r (i - 1) (bits_of t.above) cs

-- ---- the two ends

abbrev pub greater : ℤ → ℤ → ℤ
greater a b = cond (lt_z a b) b a

abbrev pub lesser : ℤ → ℤ → ℤ
lesser a b = cond (lt_z b a) b a

-- the greatest and the least of some terms, of which there is one at least: the origin's
unfoldable pub greatest : List ℤ → ℤ
greatest [] = pos 0
greatest (z ∷ zs) = foldl greater z zs

unfoldable pub least : List ℤ → ℤ
least [] = pos 0
least (z ∷ zs) = foldl lesser z zs

-- 'from the greatest lower bound to the least upper bound'
abbrev pub offer_at : Turn → List ℤ → List ℤ → Run → ℕ → ℕ → Offer
offer_at d cs ds r j i =
    record { from = record { 0 = greatest (lower_terms d cs r j i) }; to = record { 0 = least (upper_terms d ds r j i) } }

abbrev pub offer_of : Plan → Calendar → Run → ℕ → ℕ → Offer
offer_of p c r j i = offer_at (turn_of p c i) c.at_least c.at_most r j i

-- ---- 'For ask and start: 10, 6, 11'

-- an offer for job i of window j
abbrev pub opening_of : ℕ → ℕ → Offer → Opening
opening_of j i o = record { window = j; job = i; offer = o }

-- '11 | the offer's lower end is above its upper end'
abbrev pub opened : ℕ → ℕ → Offer → Result Opening Refusal
opened j i o = cond (lt_z o.to.0 o.from.0) (Err refusal.EmptyOffer) (Ok (opening_of j i o))

-- '10 | ask or start once the last job of window `last` has finished (while it runs the answer is 6)'
unfoldable pub opening_at : Turn → List ℤ → List ℤ → Run → Phase → Result Opening Refusal
opening_at d cs ds r (Waiting j i) = let o = opened j i (offer_at d cs ds r j i) in cond (ltb d.last j) (Err refusal.Over) o
opening_at d cs ds r (Running j i t) = Err refusal.Running

abbrev pub opening : Plan → Calendar → Run → Result Opening Refusal
opening p c r = opening_at (turn_of p c (job_of_phase r.phase)) c.at_least c.at_most r r.phase
