-- The laws of step lines, read.
-- A line that is just a text is as long (`is_text-length`, `is_text-other`), and begins with it (`is_text-same`); what
-- follows a key is what is left without it (`after_key-strip`). What a line is, test by test: `ask=offer` (`step_in-ask`), else what follows `start=`
-- (`step_in-start`), else what follows `finish=` (`step_in-finish`), else no step (`step_in-other`); after `start=` `auto` (`start_in-auto`), else a time
-- (`start_in-time`). A time that was read becomes the step's (`time_step-value`), or what it lacks (`time_step-bad`).
-- A line that is a step has seven bytes at least and a time inside the limits (`step_in-told`), also where it stands in a text (`step_at-taken`).
-- There it has no LF, or lacks something, or is a step (`step_at-bare`, `step_at-bad`, `step_at-value`).

use Rattle.std.specs.Prelude.{ℕ, ◌+◌, ◌-◌, ◌≤◌, ◌<◌, ◌≡◌, Bool, ◌&&◌, List, [], ◌∷◌, ℤ, pos, take, drop, Result, Ok, Err}
use Rattle.std.specs.Str.{bytes_eq}
use Rattle.std.proofs.Math.Path.{refl, ap}
use Rattle.std.proofs.Common.{sym, ◌∙◌, arith, eqb, length-append}
use Rattle.std.proofs.Math.Bool.{true, false, cond}
use Rattle.std.proofs.lemmas.Bool.{false≢true}
use Rattle.std.proofs.Math.Option.{Option, none, some}
use Rattle.std.proofs.Math.ListN.{length, length-take}
use Rattle.std.specs.Int.Signed.{le_z}
use mir.Syntax.{w64}
use mir.Val.{SFits, to_z, of_z}
use Rattle.std.proofs.Math.Facts.{to_z-of_z}
use Rattle.whole.specs.Clash.{clash}
use Rattle.whole.specs.Rules.{wholes}
use Rattle.text.specs.Bytes.{bytes}
use Rattle.text.specs.Lines.{next_line, after_key, has_key, is_some}
use Rattle.text.specs.LineLaws.{after_key-split}
use Rattle.text.specs.NumberLaws.{number_in-value, decimal-some}
use Rattle.text.specs.declared.NumberFault.{NumberFault}
use Rattle.lines.specs.declared.Fault.{Fault}
use Rattle.lines.specs.declared.Fault.TheVariants as fault
use Rattle.lines.specs.declared.Refusal.{Refusal}
use Rattle.lines.specs.declared.Refusal.TheVariants.{Form}
use Rattle.lines.specs.Reading.{refused}
use Rattle.lines.specs.ReadAt as read_at
use Rattle.lines.specs.ReadAtLaws.{line_to-bare, line_to-fault, line_to-value}
use Rattle.clock.specs.declared.RunTime.{RunTime}
use Rattle.runs.specs.declared.Step.{Step}
use Rattle.runs.specs.declared.Step.TheVariants.{Ask, Start, Finish}
use Rattle.runs.specs.declared.Choice.TheVariants.{At, Auto}
use Rattle.runs.specs.ValueLimits.{last_time, is_time}
use Rattle.runs.specs.Steps.{is_step}
use Rattle.lines.specs.Refusals.{line_lacks, fault_at}
use Rattle.session.specs.StepAt.{StepTaken, StepWithin}
use Rattle.session.specs.StepRead.{is_all, is_text, time_step, step_time, finish_in, finish_step, start_in, start_step, step_in, step_line}

-- ---- a line that is just a text

is_text-length : (t l : List ℕ) → is_text t l ≡ true → length l ≡ length t
is_text-length t l h = of (after_key t l) refl h
  where
    of : (o : Option (List ℕ)) → after_key t l ≡ o → is_all o ≡ true → length l ≡ length t
    of none e q = absurd (false≢true q)
    of (some []) e q = omega (arith, ap length (after_key-split t l [] e), length-append t [])
    of (some (b ∷ s)) e q = absurd (false≢true q)

-- ---- what follows a key

after_key-strip : (key s : List ℕ) → after_key key s ≡ cond (bytes_eq (take (length key) s) key) (some (drop (length key) s)) none
unfolding after_key
after_key-strip [] s = refl
after_key-strip (k ∷ key) [] = refl
after_key-strip (k ∷ key) (b ∷ s) = of (eqb b k) (after_key-strip key s)
  where
    of : (c : Bool) → after_key key s ≡ cond (bytes_eq (take (length key) s) key) (some (drop (length key) s)) none
        → cond c (after_key key s) none ≡ cond (c && bytes_eq (take (length key) s) key) (some (drop (length key) s)) none
    of true h = h
    of false h = refl

module _ (t l : List ℕ) where
  rest-length : (s : List ℕ) → after_key t l ≡ some s → length l ≡ length t + length s
  rest-length s e = ap length (after_key-split t l s e) ∙ length-append t s

  pub is_text-same : length l ≡ length t → is_text t l ≡ has_key t l
  is_text-same h = of (after_key t l) refl
    where
      of : (o : Option (List ℕ)) → after_key t l ≡ o → is_all o ≡ is_some o
      of none e = refl
      of (some []) e = refl
      of (some (b ∷ s)) e = absurd (omega (arith, rest-length (b ∷ s) e))

  pub is_text-other : (length l ≡ length t → ⊥) → is_text t l ≡ false
  is_text-other d = of (after_key t l) refl
    where
      of : (o : Option (List ℕ)) → after_key t l ≡ o → is_all o ≡ false
      of none e = refl
      of (some []) e = absurd (d (omega (arith, rest-length [] e)))
      of (some (b ∷ s)) e = refl

-- ---- what a line is

module _ (l : List ℕ) where
  pub step_in-ask : is_text (bytes "ask=offer") l ≡ true → step_in l ≡ Ok Ask
  unfolding step_in
  step_in-ask h = rw h

  module _ (no-ask : is_text (bytes "ask=offer") l ≡ false) where
    pub step_in-start : bytes_eq (take 6 l) (bytes "start=") ≡ true → step_in l ≡ start_in (drop 6 l)
    unfolding step_in start_step bytes start_in
    step_in-start h = rw (no-ask, after_key-strip (bytes "start=") l, h)

    module _ (no_start : bytes_eq (take 6 l) (bytes "start=") ≡ false) where
      pub step_in-finish : bytes_eq (take 7 l) (bytes "finish=") ≡ true → step_in l ≡ finish_in (drop 7 l)
      unfolding step_in start_step finish_step bytes finish_in
      step_in-finish h = rw (no-ask, after_key-strip (bytes "start=") l, no_start, after_key-strip (bytes "finish=") l, h)

      pub step_in-other : bytes_eq (take 7 l) (bytes "finish=") ≡ false → step_in l ≡ Err fault.Form
      unfolding step_in start_step finish_step bytes finish_in
      step_in-other h = rw (no-ask, after_key-strip (bytes "start=") l, no_start, after_key-strip (bytes "finish=") l, h)

-- ---- after `start=`

pub start_in-auto : (s : List ℕ) → is_text (bytes "auto") s ≡ true → start_in s ≡ Ok (Start Auto)
unfolding start_in
start_in-auto s h = rw h

pub start_in-time : (s : List ℕ) → is_text (bytes "auto") s ≡ false → start_in s ≡ time_step (λ t. Start (At t)) (step_time s)
unfolding start_in
start_in-time s h = rw h

-- ---- a time

module _ (f : RunTime → Step) (s : List ℕ) where
  pub time_step-value : (z : ℤ) → step_time s ≡ Ok z → time_step f (step_time s) ≡ Ok (f (record { 0 = to_z w64 (of_z w64 z) }))
  unfolding time_step
  time_step-value z e =
      let q = number_in-value (pos 0) last_time z s e in
      let g : SFits w64 z = omega (wholes, q.0.least, q.0.greatest) in
      rw (e, to_z-of_z g)

  pub time_step-bad : (x : NumberFault) → step_time s ≡ Err x → time_step f (step_time s) ≡ Err (line_lacks x)
  unfolding time_step
  time_step-bad x e = rw e

-- ---- what is known of a step that was read

-- its line has seven bytes at least, and its time is inside the limits
record StepLimits (l : List ℕ) (st : Step) : Type 0 where
  least : 7 ≤ length l
  timed : is_step st ≡ true

-- the same of what follows a key
record TimeLimits (s : List ℕ) (st : Step) : Type 0 where
  some_byte : 1 ≤ length s
  timed : is_step st ≡ true

module _ (s : List ℕ) (st : Step) where
  time-told : (f : RunTime → Step) → ((t : RunTime) → is_step (f t) ≡ is_time t) → time_step f (step_time s) ≡ Ok st → TimeLimits s st
  unfolding time_step
  time-told f is e = of (step_time s) refl e
    where
      of : (n : Result ℤ NumberFault) → step_time s ≡ n → time_step f n ≡ Ok st → TimeLimits s st
      of (Err x) d h = clash (cc)
      of (Ok z) d h =
          let q = number_in-value (pos 0) last_time z s d in
          let lo : le_z (pos 0) z ≡ true = omega (wholes, q.0.least) in
          let hi : le_z z last_time ≡ true = omega (wholes, q.0.greatest) in
          let g : st ≡ f (record { 0 = z }) = cc in
          record { some_byte = omega (arith, ap length q.1, decimal-some z); timed = ap is_step g ∙ is (record { 0 = z }) ∙ rw (lo, hi) }

  finish-told : finish_in s ≡ Ok st → TimeLimits s st
  unfolding finish_in
  finish-told e = time-told Finish (λ t. refl) e

  start-told : start_in s ≡ Ok st → TimeLimits s st
  unfolding start_in bytes
  start-told e = of (is_text (bytes "auto") s) refl e
    where
      of : (b : Bool) → is_text (bytes "auto") s ≡ b → cond b (Ok (Start Auto)) (time_step (λ t. Start (At t)) (step_time s)) ≡ Ok st → TimeLimits s st
      of true h d =
          let g : st ≡ Start Auto = cc in
          record { some_byte = omega (arith, is_text-length (bytes "auto") s h); timed = ap is_step g }
      of false h d = time-told (λ t. Start (At t)) (λ t. refl) d

module _ (l : List ℕ) (st : Step) where
  behind-key : (key s : List ℕ) (k : ℕ) → length key ≡ k → 6 ≤ k → after_key key l ≡ some s → TimeLimits s st → StepLimits l st
  behind-key key s k e h d t =
      record { least = omega (arith, ap length (after_key-split key l s d), length-append key s, t.some_byte); timed = t.timed }

  after_finish : (o : Option (List ℕ)) → after_key (bytes "finish=") l ≡ o → finish_step o ≡ Ok st → StepLimits l st
  unfolding finish_step bytes
  after_finish none d e = clash (cc)
  after_finish (some s) d e = behind-key (bytes "finish=") s 7 refl (omega arith) d (finish-told s st e)

  after-start : (o : Option (List ℕ)) → after_key (bytes "start=") l ≡ o → start_step l o ≡ Ok st → StepLimits l st
  unfolding start_step bytes
  after-start none d e = after_finish (after_key (bytes "finish=") l) refl e
  after-start (some s) d e = behind-key (bytes "start=") s 6 refl (omega arith) d (start-told s st e)

  step_in-told : step_in l ≡ Ok st → StepLimits l st
  unfolding step_in bytes
  step_in-told e = of (is_text (bytes "ask=offer") l) refl e
    where
      of : (b : Bool) → is_text (bytes "ask=offer") l ≡ b → cond b (Ok Ask) (start_step l (after_key (bytes "start=") l)) ≡ Ok st → StepLimits l st
      of true h d =
          let g : st ≡ Ask = cc in
          record { least = omega (arith, is_text-length (bytes "ask=offer") l h); timed = ap is_step g }
      of false h d = after-start (after_key (bytes "start=") l) refl d

-- ---- a step at a place: next is the place after its LF

pub step_at-taken : (s : List ℕ) (at next : ℕ) → at ≤ length s → next ≡ next_line s at → next ≤ length s
    → (st : Step) → step_in (take (next - 1 - at) (drop at s)) ≡ Ok st → StepTaken at (length s) st next
step_at-taken s at next within end h st e =
    let q = step_in-told (take (next - 1 - at) (drop at s)) st e in
    let near : 7 ≤ next - 1 - at = omega (arith, q.least, length-take (next - 1 - at) (drop at s)) in
    record { least = omega arith; most = omega arith; timed = q.timed }

module _ (s : List ℕ) (at n next : ℕ) (within : at ≤ length s) (end : next ≡ next_line s at) where
  abbrev ReadAs : read_at.At Step → Type 0
  ReadAs r = (step_line (drop at s) n ≡ read_at.at_told s (n + 1) r) × StepWithin at (length s) r

  pub step_at-bare : length s < next → ReadAs (Err (record { refusal = Form n; at = at }))
  unfolding step_line
  step_at-bare h = (line_to-bare step_in s at n next within end h, tt)

  pub step_at-bad : (x : Fault) (r : Refusal) → next ≤ length s → step_in (take (next - 1 - at) (drop at s)) ≡ Err x → r ≡ fault_at n x
      → ReadAs (Err (record { refusal = r; at = at }))
  unfolding step_line
  step_at-bad x r h e d = (line_to-fault step_in s at n next within end h e ∙ ap (λ (q : Refusal). refused q (drop at s)) (sym d), tt)

  pub step_at-value : (st : Step) → next ≤ length s → step_in (take (next - 1 - at) (drop at s)) ≡ Ok st → ReadAs (Ok (st, next))
  unfolding step_line
  step_at-value st h e = (line_to-value step_in s at n next within end h e, step_at-taken s at next within end h st e)
