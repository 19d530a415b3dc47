-- The laws by which the reader of a plan is right: the length comes first (`plan_head-long`, `plan_head-short`), and an answer with a place is the answer that
-- the definition has (`plan_read-refused`, `plan_read-accepted`). Back from an answer: the text was read as its plan (`plan_read-took`), or refused at its
-- place (`plan_read-fault`), which is a place of the text (`plan_read-placed`).
use Rattle.std.specs.Prelude.{◌≡◌, ℕ, ◌-◌, ◌≤◌, ◌<◌, length, Result, Ok, Err, MatchResult}
use Rattle.std.proofs.Math.Path.{refl, sym, ap, subst}
use Rattle.std.proofs.Common.{◌∙◌, arith, le-leb, length-drop, length-append}
use mathlib.Core.List.{List, [], ◌∷◌}
use Rattle.std.proofs.lemmas.Bool.{lt-leb}
use Rattle.std.proofs.Math.ListN.{drop}
use Rattle.std.proofs.Math.Seq.{drop-length}
use Rattle.whole.specs.Clash.{clash}
use Rattle.lines.specs.declared.Refusal.TheVariants.{Form}
use Rattle.lines.specs.declared.FaultyLine.{FaultyLine}
use Rattle.plan.specs.declared.Plan.{Plan}
use Rattle.plan.specs.declared.PlanRead.{PlanRead}
use Rattle.lines.specs.PartLaws.{Tail, tail-place, leaves}
use Rattle.lines.specs.Reading.{longest_text, Reading, read, refused}
use Rattle.plan.specs.PlanLines.{plan_lines, plan_head, nothing_after}
use Rattle.plan.specs.PlanWritten.{plan_text}
use Rattle.plan.specs.PlanLaws.{plan_head-written}
use Rattle.plan.specs.PlanAnswers.{plan_read}
use Rattle.lines.specs.ReadAt.{faulty_in}

-- ---- the length

pub plan_head-long : (s : List ℕ) → longest_text < length s → plan_head s ≡ faulty_in s (record { refusal = Form 0; at = length s })
unfolding plan_head
plan_head-long s h = rw (lt-leb (length s) longest_text h, drop-length s)

pub plan_head-short : (s : List ℕ) → length s ≤ longest_text → plan_head s ≡ plan_lines s 1
unfolding plan_head
plan_head-short s h = rw (le-leb (length s) longest_text h)

-- ---- the answer

dropped-place : (s : List ℕ) (at : ℕ) → at ≤ length s → length s - length (drop at s) ≡ at
dropped-place s at h = omega (arith, length-drop at s)

module _ (s : List ℕ) {m : Reading Plan} where
  pub plan_read-refused : {f : FaultyLine} → (m ≡ faulty_in s f) × (f.at ≤ length s) → Err f ≡ plan_read s m
  unfolding plan_read
  plan_read-refused {f} p = sym (ap (plan_read s) p.0 ∙ ap (λ (k : ℕ). Err (record { refusal = f.refusal; at = k })) (dropped-place s f.at p.1))

  pub plan_read-accepted : (p : Plan) (at n : ℕ) → at ≤ length s → m ≡ read p (drop at s) n → Ok (record { plan = p; at = at; line = n }) ≡ plan_read s m
  unfolding plan_read
  plan_read-accepted p at n h e = sym (ap (plan_read s) e ∙ ap (λ (k : ℕ). Ok (record { plan = p; at = k; line = n })) (dropped-place s at h))

-- ---- and back: what was read where the text was accepted, where it was refused, and that the place is one of the text

module _ (s : List ℕ) {m : Reading Plan} (tail : Tail s (leaves m)) where
  pub plan_read-took : {r : PlanRead} → Ok r ≡ plan_read s m → m ≡ read r.plan (drop r.at s) r.line
  unfolding plan_read
  plan_read-took {r} d = of m tail d
    where
      of : (m : Reading Plan) → Tail s (leaves m) → Ok r ≡ plan_read s m → m ≡ read r.plan (drop r.at s) r.line
      of (read p t n) h e =
          let q : r ≡ record { plan = p; at = length s - length t; line = n } = cc in
          subst (λ (r : PlanRead). read p t n ≡ read r.plan (drop r.at s) r.line) (sym q) (ap (λ (u : List ℕ). read p u n) (sym (tail-place h)))
      of (refused x t) h e = clash (cc)

  pub plan_read-fault : {f : FaultyLine} → Err f ≡ plan_read s m → m ≡ faulty_in s f
  unfolding plan_read
  plan_read-fault {f} d = of m tail d
    where
      of : (m : Reading Plan) → Tail s (leaves m) → Err f ≡ plan_read s m → m ≡ faulty_in s f
      of (read p t n) h e = clash (cc)
      of (refused x t) h e =
          let q : f ≡ record { refusal = x; at = length s - length t } = cc in
          ap (refused x) (sym (tail-place h)) ∙ ap (λ (f : FaultyLine). faulty_in s f) (sym q)

pub plan_read-placed : (s : List ℕ) (m : Reading Plan) {x : Result PlanRead FaultyLine} → x ≡ plan_read s m
    → MatchResult x (λ r. r.at ≤ length s) (λ f. f.at ≤ length s)
unfolding plan_read
plan_read-placed s m {x} e = subst (λ (x : Result PlanRead FaultyLine). MatchResult x (λ r. r.at ≤ length s) (λ f. f.at ≤ length s)) (sym e) (of m)
  where
    of : (m : Reading Plan) → MatchResult (plan_read s m) (λ r. r.at ≤ length s) (λ f. f.at ≤ length s)
    of (read p t n) = omega arith
    of (refused x t) = omega arith

-- ---- a plan alone: what follows its last line is a line too many

module _ (s : List ℕ) where
  pub alone-refused : (m : Reading Plan) {f : FaultyLine} → Err f ≡ plan_read s m → Err f ≡ plan_read s (nothing_after m)
  unfolding plan_read nothing_after
  alone-refused (read p t n) e = clash (cc)
  alone-refused (refused r t) e = e

  pub alone-more : (m : Reading Plan) {r : PlanRead} → Ok r ≡ plan_read s m → r.at < length s
      → Err (record { refusal = Form r.line; at = r.at }) ≡ plan_read s (nothing_after m)
  unfolding plan_read nothing_after
  alone-more (read p [] n) {r} e h =
      let q : r ≡ record { plan = p; at = length s - 0; line = n } = cc in
      absurd (omega (arith, ap (λ (r : PlanRead). r.at) q))
  alone-more (read p (a ∷ t) n) {r} e h =
      let q : r ≡ record { plan = p; at = length s - length (a ∷ t); line = n } = cc in
      ap (λ (r : PlanRead). Err (record { refusal = Form r.line; at = r.at })) q
  alone-more (refused r t) e h = clash (cc)

  pub alone-end : (m : Reading Plan) → ((p : Plan) (t : List ℕ) (n : ℕ) → m ≡ read p t n → length t ≤ length s) → {r : PlanRead} → Ok r ≡ plan_read s m
      → length s ≤ r.at → Ok r ≡ plan_read s (nothing_after m)
  unfolding plan_read nothing_after
  alone-end (read p [] n) f e h = e
  alone-end (read p (a ∷ t) n) f {r} e h =
      let q : r ≡ record { plan = p; at = length s - length (a ∷ t); line = n } = cc in
      absurd (omega (arith, f p (a ∷ t) n refl, ap (λ (r : PlanRead). r.at) q))
  alone-end (refused r t) f e h = clash (cc)

  -- a head's rest is no longer than the text
  pub plan_head-rest : (p : Plan) (t : List ℕ) (n : ℕ) → plan_head s ≡ read p t n → length t ≤ length s
  plan_head-rest p t n e = omega (arith, ap length (plan_head-written s e), length-append (plan_text p) t)
