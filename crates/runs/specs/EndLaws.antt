-- The two ends of an offer as the code makes them: a term is what it reads (`term-read`), and so is what is picked of it (`picked-read`); each that a set names is inside where the set's terms fit
-- (`terms_inside`), and two ends are the offer (`offer_at-made`).
use Rattle.std.specs.Prelude.{ℕ, ◌+◌, ◌*◌, ◌-◌, ◌≤◌, ◌≡◌, List, [], ◌∷◌, ℤ, pos, ◌+ℤ◌, get_or}
use Rattle.std.proofs.Math.Path.{ap₂}
use Rattle.std.proofs.Common.{ap, ◌∙◌, arith, SFits, to_z, of_z, to_z-of_z}
use Rattle.std.specs.Int.{w32}
use Rattle.clock.specs.declared.RunTime.{RunTime}
use Rattle.plan.specs.Limits.{most_jobs}
use Rattle.clock.specs.Clock.{on_run, moved_by}
use Rattle.calendars.specs.Calendars.{events_ahead}
use Rattle.events.specs.Bits.{bits_of, members_from, most_events}
use Rattle.events.specs.BitsLaws.{EachOf, Member, members-each}
use Rattle.runs.specs.declared.Run.{Run}
use Rattle.runs.specs.declared.Offer.{Offer}
use Rattle.runs.specs.Seen.{time_at, first_seen}
use Rattle.runs.specs.Offers.{Turn, term_at, lower_terms, upper_terms, greater, lesser, greatest, least, offer_at}
use Rattle.runs.specs.Ends.{end_over, PicksAs}
use Rattle.runs.specs.Inside.{TermsFit, TermInside}

-- the term that the code makes of what it reads, and what it picks
module _ (seen cs : List ℤ) (row e : ℕ) (t : RunTime) (is : t ≡ time_at seen e) (f : SFits w32 (get_or cs (row + e) (pos 0))) where
  pub term-read : t.0 +ℤ to_z w32 (of_z w32 (get_or cs (row + e) (pos 0))) ≡ term_at seen cs row e
  term-read = rw (to_z-of_z f, is)

  pub picked-read : (gives : RunTime → RunTime → RunTime → Type 0) (pick : ℤ → ℤ → ℤ) → PicksAs gives pick → (end u v : RunTime) → gives end u v
      → u ≡ moved_by t (to_z w32 (of_z w32 (get_or cs (row + e) (pos 0)))) → v.0 ≡ pick end.0 (term_at seen cs row e)
  picked-read gives pick picks end u v p m = picks end u v p ∙ ap (λ (x : RunTime). pick end.0 x.0) m ∙ ap (pick end.0) term-read

EachOf-map : (P Q : ℕ → Type 0) → ((e : ℕ) → P e → Q e) → (es : List ℕ) → EachOf P es → EachOf Q es
EachOf-map P Q f [] h = tt
EachOf-map P Q f (e ∷ es) h = (f e h.0, EachOf-map P Q f es h.1)

-- the terms of a set's events from one on and before another
pub terms_inside : (seen cs : List ℤ) (set row first count : ℕ) → count ≤ most_events → row + count ≤ most_jobs * most_events
    → TermsFit seen set cs row first count → EachOf (TermInside seen cs row) (members_from set first (count - first))
terms_inside seen cs set row first count most room fits =
    EachOf-map (Member set first count) (TermInside seen cs row)
    (λ e m. let below = m.below in record { event = omega arith; room = omega arith; fit = fits.fit e m.from below m.has })
    (members_from set first (count - first)) (members-each set first count)

-- two ends make the offer, where early and late are the origin's bounds on the run's clock
module _ (d : Turn) (cs ds : List ℤ) (r : Run) (j i first count : ℕ) (f : first ≡ first_seen d.jobs r.before)
    (n : count ≡ events_ahead d.jobs (i - 1)) where
  pub offer_at-made : (early late from to : RunTime) → early ≡ on_run d.window j d.terms.low → late ≡ on_run d.window j d.terms.high
      → from.0 ≡ end_over greater (term_at r.seen cs ((i - 1) * most_events)) early.0 (members_from (bits_of d.terms.below) first (count - first))
      → to.0 ≡ end_over lesser (term_at r.seen ds ((i - 1) * most_events)) late.0 (members_from (bits_of d.terms.above) first (count - first))
      → ◌≡◌ {A = Offer} (record { from = from; to = to }) (offer_at d cs ds r j i)
  unfolding lower_terms upper_terms greatest least
  offer_at-made early late from to e l x y =
      ap₂ (λ (a b : ℤ). record { from = record { 0 = a }; to = record { 0 = b } }) (x ∙ rw (e, f, n)) (y ∙ rw (l, f, n))
