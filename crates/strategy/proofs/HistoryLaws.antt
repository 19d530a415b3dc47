-- Histories that grow by one job, and games. What Forced says is carried to whatever follows from it (`forced-map`), taken apart into the first
-- jobs and the others (`forced-split`), and played out against an opponent who runs every job as long, or as short, as he can (`forced-play`).
use Rattle.std.specs.Prelude.{ℕ, zero, suc, ◌+◌, ◌<◌, ◌≡◌, refl, Bool, true, false, [], ◌∷◌, ◌++◌, ℤ, ◌+ℤ◌, ◌-ℤ◌, ◌≤ℤ◌, length}
use Rattle.std.proofs.Common.{sym, ap, subst, ◌∙◌, ⊎_elim, append_assoc, append-nil, suc-add, zero-add, add-zero, add-one, arith, length-append}
use Rattle.std.specs.Int.Signed.{≤ℤ_refl}
use Rattle.std.proofs.Math.ListN.{get_or-append}
use Rattle.std.proofs.Math.Seq.{get_or-append_seam}
use Rattle.whole.specs.Rules.{wholes}
use Rattle.plan.specs.declared.Plan.{Plan}
use Rattle.plan.specs.Accepted.{Accepted}
use Rattle.strategy.specs.Histories.{Ran, History, no_ran, ran_for, turn}
use Rattle.strategy.specs.Strategies.{ran_in, Forced}
use Rattle.strategy.proofs.AcceptedLaws.{turn-accepted}
use Rattle.strategy.proofs.Keeping.{RunsWithin, RunsInside, long_or_short, LongOrShort}
use Rattle.strategy.proofs.EliminationLaws.{below-or-last}

-- ---- one job more

pub length_more : (h : History) (r : Ran) → length (h ++ (r ∷ [])) ≡ suc (length h)
length_more h r = length-append h (r ∷ []) ∙ add-one (length h)

pub ran-old : (h : History) (r : Ran) (k : ℕ) → k < length h → ran_in (h ++ (r ∷ [])) k ≡ ran_in h k
ran-old h r k i = get_or-append h (r ∷ []) no_ran k i

pub ran-new : (h : History) (r : Ran) (k : ℕ) → length h ≡ k → ran_in (h ++ (r ∷ [])) k ≡ r
ran-new h r k e = subst (λ k. ran_in (h ++ (r ∷ [])) k ≡ r) e (get_or-append_seam h r [] no_ran)

-- what holds of every job of a history, and of one more
pub each_more : (P : ℕ → Ran → Type 0) (h : History) (r : Ran) → ((k : ℕ) → k < length h → P k (ran_in h k)) → P (length h) r
    → (k : ℕ) → k < length (h ++ (r ∷ [])) → P k (ran_in (h ++ (r ∷ [])) k)
each_more P h r old new k i =
    let n = length_more h r in
    ⊎_elim (λ (a : k < length h). rw (ran-old h r k a) (old k a))
    (λ (a : k ≡ length h). subst (λ k. P k (ran_in (h ++ (r ∷ [])) k)) (sym a) (rw (ran-new h r (length h) refl) new))
    (below-or-last k (length h) (omega arith))

pub runs_inside-more : (p : Plan) (h : History) (t e : ℤ) → (turn p (length h)).min ≤ℤ e → e ≤ℤ (turn p (length h)).max
    → RunsInside p h → RunsInside p (ran_for h t e)
runs_inside-more p h t e lo hi old =
    each_more (λ k r. RunsWithin (turn p k) r) h _ old (record { least = omega wholes; most = omega wholes })

pub long_or_short-more : (p : Plan) (long : Bool) (h : History) (t : ℤ)
    → LongOrShort p long h → LongOrShort p long (ran_for h t (long_or_short long (turn p (length h))))
long_or_short-more p long h t old =
    each_more (λ k r. r.finish -ℤ r.start ≡ long_or_short long (turn p k)) h _ old
    (there t (long_or_short long (turn p (length h))))
  where
    there : (t e : ℤ) → (t +ℤ e) -ℤ t ≡ e
    there t e = omega wholes

-- ---- min and max

module _ (p : Plan) (good : Accepted p) where
  pub turn-min-max : (k : ℕ) → (turn p k).min ≤ℤ (turn p k).max
  turn-min-max k = (turn-accepted p good k).min-most

  long_or_short-least : (long : Bool) (k : ℕ) → (turn p k).min ≤ℤ long_or_short long (turn p k)
  long_or_short-least true k = turn-min-max k
  long_or_short-least false k = ≤ℤ_refl (turn p k).min

  long_or_short-most : (long : Bool) (k : ℕ) → long_or_short long (turn p k) ≤ℤ (turn p k).max
  long_or_short-most true k = ≤ℤ_refl (turn p k).max
  long_or_short-most false k = turn-min-max k

  long_or_short-runs_inside : (long : Bool) (h : History) → LongOrShort p long h → RunsInside p h
  long_or_short-runs_inside long h x k i =
      let e = x k i in
      let lo = long_or_short-least long k in
      let hi = long_or_short-most long k in
      record { least = rw e lo; most = rw e hi }

-- ---- histories that a game can lead to

-- h' is h and g jobs more, each of which ran between min and max
pub record Follows (p : Plan) (h : History) (g : ℕ) (h' : History) : Type 0 where
  pub size : length h' ≡ length h + g
  pub more : History
  pub whole : h' ≡ h ++ more
  pub runs_inside : RunsInside p h → RunsInside p h'

follows-none : (p : Plan) (h : History) → Follows p h 0 h
follows-none p h = record { size = sym (add-zero (length h)); more = []; whole = sym (append-nil h); runs_inside = λ t. t }

pub follows-more : (p : Plan) (h : History) (g : ℕ) (t e : ℤ) → (turn p (length h)).min ≤ℤ e → e ≤ℤ (turn p (length h)).max
    → (h' : History) → Follows p (ran_for h t e) g h' → Follows p h (suc g) h'
follows-more p h g t e lo hi h' f =
    let n = length_more h (record { start = t; finish = t +ℤ e }) in
    let s = f.size in
    record {
      size = omega arith;
      more = record { start = t; finish = t +ℤ e } ∷ f.more;
      whole = f.whole ∙ append_assoc h (record { start = t; finish = t +ℤ e } ∷ []) f.more;
      runs_inside = λ old. f.runs_inside (runs_inside-more p h t e lo hi old);
    }

pub forced-map : (p : Plan) (Q R : History → Type 0) (g : ℕ) (h : History)
    → ((h' : History) → Follows p h g h' → Q h' → R h') → Forced p Q g h → Forced p R g h
unfolding Forced
forced-map p Q R zero h f q = f h (follows-none p h) q
forced-map p Q R (suc g) h f (t, q) =
    (t, λ e lo hi. forced-map p Q R g (ran_for h t e) (λ h' s. f h' (follows-more p h g t e lo hi h' s)) (q e lo hi))

pub forced-split : (p : Plan) (Q : History → Type 0) (a b : ℕ) (h : History) → Forced p Q (a + b) h → Forced p (Forced p Q b) a h
unfolding Forced
forced-split p Q zero b h q = rw (zero-add b) at q
forced-split p Q (suc a) b h q =
    let r : Forced p Q (suc (a + b)) h = rw (suc-add a b) at q in
    (r.0, λ e lo hi. forced-split p Q a b (ran_for h r.0 e) (r.1 e lo hi))

pub forced-join : (p : Plan) (Q : History → Type 0) (a b : ℕ) (h : History) → Forced p (Forced p Q b) a h → Forced p Q (a + b) h
unfolding Forced
forced-join p Q zero b h q = rw (zero-add b) q
forced-join p Q (suc a) b h q = rw (suc-add a b) (q.0, λ e lo hi. forced-join p Q a b (ran_for h q.0 e) (q.1 e lo hi))

-- ---- a game played out

pub record Played (p : Plan) (Q : History → Type 0) (long : Bool) (g : ℕ) (h : History) : Type 0 where
  pub history : History
  pub follows : Follows p h g history
  pub same : LongOrShort p long h → LongOrShort p long history
  pub won : Q history

pub forced-play : (p : Plan) → Accepted p → (Q : History → Type 0) (long : Bool) (g : ℕ) (h : History) → Forced p Q g h → Played p Q long g h
unfolding Forced
forced-play p good Q long zero h q = record { history = h; follows = follows-none p h; same = λ x. x; won = q }
forced-play p good Q long (suc g) h (t, q) =
    let e = long_or_short long (turn p (length h)) in
    let lo = long_or_short-least p good long (length h) in
    let hi = long_or_short-most p good long (length h) in
    let r = forced-play p good Q long g (ran_for h t e) (q e lo hi) in
    record {
      history = r.history;
      follows = follows-more p h g t e lo hi r.history r.follows;
      same = λ x. r.same (long_or_short-more p long h t x);
      won = r.won;
    }

-- Q fails of every history of k jobs that all ran as long as they can, or of every one whose jobs all ran as short
abbrev pub Fails : Plan → ℕ → (History → Type 0) → Type 0
Fails p k Q = (long : Bool) × ((h : History) → length h ≡ k → LongOrShort p long h → Q h → ⊥)

pub fails-before : (p : Plan) → Accepted p → (Q : History → Type 0) (k g : ℕ) → Fails p (k + g) Q → Fails p k (Forced p Q g)
fails-before p good Q k g f = (
  f.0,
  λ h n x q.
      let r = forced-play p good Q f.0 g h q in
      f.1 r.history (r.follows.size ∙ ap (λ n. n + g) n) (r.same x) r.won,
)

pub fails-map : (p : Plan) → Accepted p → (Q R : History → Type 0) (k : ℕ) → ((h : History) → length h ≡ k → RunsInside p h → R h → Q h)
    → Fails p k Q → Fails p k R
fails-map p good Q R k m f = (f.0, λ h n x r. f.1 h n x (m h n (long_or_short-runs_inside p good f.0 h x) r))
