-- The text of a plan's value is never too long: `PlanFits` is what the types of a plan say of its numbers, and `plan_text-short` the bound.
use Rattle.std.specs.Prelude.{ℕ, ◌+◌, ◌*◌, ◌^◌, ◌≤◌, ◌<◌, List, [], ◌∷◌, ◌++◌, ℤ, pos, length}
use Rattle.std.proofs.Common.{arith, length-append, length-take, SFits}
use Rattle.std.specs.Int.{w64}
use Rattle.text.specs.Bytes.{bytes}
use Rattle.text.specs.Lines.{LF, comma}
use Rattle.text.specs.DigitLaws.{digits-short}
use Rattle.text.specs.NumberLaws.{decimal-short}
use Rattle.text.specs.Numbers.{decimal}
use Rattle.plan.specs.declared.Job.{Job}
use Rattle.plan.specs.declared.Bound.{Bound}
use Rattle.plan.specs.declared.Plan.{Plan}
use Rattle.lines.specs.Reading.{longest_text}
use Rattle.plan.specs.EventNames.{name_bytes}
use Rattle.lines.specs.Keyed.{keyed}
use Rattle.plan.specs.Limits.{longest_key}
use Rattle.plan.specs.PlanWritten.{jobs_text, bounds_text, jobs_of, bounds_of, plan_text}
use Rattle.lines.specs.KeyedLaws.{keyed-short, count-short}
use Rattle.plan.specs.ListLaws.{All}
use Rattle.values.specs.JudgedLines.{Key, keys, HasPlaces}

-- what the types of a plan say of its numbers: none is longer than 20 bytes
pub record JobFits (j : Job) : Type 0 where
  pub min : SFits w64 j.min
  pub max : SFits w64 j.max
  pub release : SFits w64 j.release
  pub deadline : SFits w64 j.deadline

pub record BoundFits (d : Bound) : Type 0 where
  pub a-job : d.a.job < 2 ^ 64
  pub b-job : d.b.job < 2 ^ 64
  pub c : SFits w64 d.c

pub record PlanFits (p : Plan) : Type 0 where
  pub placed : HasPlaces p
  pub window : SFits w64 p.window
  pub rounds : p.rounds < 2 ^ 64
  pub last : p.last < 2 ^ 64
  pub jobs : p.jobs < 2 ^ 64
  pub bounds : p.bounds < 2 ^ 64
  pub job-fits : All JobFits (jobs_of p)
  pub bound-fits : All BoundFits (bounds_of p)

keyed-length : (key : List ℕ) → Key key → (z : ℤ) → length (decimal z) ≤ 20 → (s : List ℕ) → length (keyed key z s) ≤ 30 + length s
keyed-length key q z h s = keyed-short key longest_key z s q.short h

jobs_text-length : (js : List Job) (s : List ℕ) → All JobFits js → length (jobs_text js s) ≤ 120 * length js + length s
unfolding jobs_text
jobs_text-length [] s h = omega arith
jobs_text-length (j ∷ js) s h =
    let f = h.0 in
    omega (
      arith,
      keyed-length (bytes "min=") keys.min j.min (decimal-short j.min f.min)
          (keyed (bytes "max=") j.max (keyed (bytes "release=") j.release (keyed (bytes "deadline=") j.deadline (jobs_text js s)))),
      keyed-length (bytes "max=") keys.max j.max (decimal-short j.max f.max)
          (keyed (bytes "release=") j.release (keyed (bytes "deadline=") j.deadline (jobs_text js s))),
      keyed-length (bytes "release=") keys.release j.release (decimal-short j.release f.release)
          (keyed (bytes "deadline=") j.deadline (jobs_text js s)),
      keyed-length (bytes "deadline=") keys.deadline j.deadline (decimal-short j.deadline f.deadline) (jobs_text js s),
      jobs_text-length js s h.1,
    )

bounds_text-length : (ds : List Bound) → All BoundFits ds → length (bounds_text ds) ≤ 80 * length ds
unfolding bounds_text
bounds_text-length [] h = omega arith
bounds_text-length (d ∷ ds) h =
    let f = h.0 in
    let s₃ = decimal d.c ++ (LF ∷ bounds_text ds) in
    let s₂ = name_bytes d.b ++ (comma ∷ s₃) in
    let s₁ = name_bytes d.a ++ (comma ∷ s₂) in
    omega (
      arith,
      length-append (bytes "bound=") s₁,
      keys.bound.short,
      length-append (name_bytes d.a) (comma ∷ s₂),
      digits-short d.a.job f.a-job,
      length-append (name_bytes d.b) (comma ∷ s₃),
      digits-short d.b.job f.b-job,
      length-append (decimal d.c) (LF ∷ bounds_text ds),
      decimal-short d.c f.c,
      bounds_text-length ds h.1,
    )

pub plan_text-short : (p : Plan) → PlanFits p → length (plan_text p) ≤ longest_text
unfolding plan_text
plan_text-short p f =
    let s₅ = bounds_text (bounds_of p) in
    let s₄ = jobs_text (jobs_of p) (keyed (bytes "bounds=") (pos p.bounds) s₅) in
    let s₃ = keyed (bytes "jobs=") (pos p.jobs) s₄ in
    let s₂ = keyed (bytes "last=") (pos p.last) s₃ in
    let s₁ = keyed (bytes "rounds=") (pos p.rounds) s₂ in
    omega (
      arith,
      keyed-length (bytes "window=") keys.window p.window (decimal-short p.window f.window) s₁,
      keyed-length (bytes "rounds=") keys.rounds (pos p.rounds) (count-short p.rounds f.rounds) s₂,
      keyed-length (bytes "last=") keys.last (pos p.last) (count-short p.last f.last) s₃,
      keyed-length (bytes "jobs=") keys.jobs (pos p.jobs) (count-short p.jobs f.jobs) s₄,
      jobs_text-length (jobs_of p) (keyed (bytes "bounds=") (pos p.bounds) s₅) f.job-fits,
      keyed-length (bytes "bounds=") keys.bounds (pos p.bounds) (count-short p.bounds f.bounds) s₅,
      bounds_text-length (bounds_of p) f.bound-fits,
      length-take p.jobs p.job,
      f.placed.job-places,
      length-take p.bounds p.bound,
      f.placed.bound-places,
    )
