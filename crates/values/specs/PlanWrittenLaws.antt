-- The laws by which the writer of a plan is right.
-- The lines of jobs (`jobs_text-more`) and of bounds (`bounds_text-more`) stand before what follows them. What writers did: a name, a bound's line
-- (`stored-name`, `stored-bound`), part after part of a plan (`stored-none`, `stored-part`), which are all its jobs and all its bounds (`stored-plan-jobs`,
-- `stored-plan-bounds`), and the lines after the jobs (`stored-jobs`).
use Rattle.std.specs.Prelude.{ℕ, ◌+◌, ◌<◌, ◌≡◌, refl, List, [], ◌∷◌, ◌++◌, length, get_or, take}
use Rattle.std.specs.List.{flat_map}
use Rattle.std.proofs.lemmas.Grind.{flat_map-append, take_at_read}
use Rattle.std.proofs.lemmas.List.{take_min}
use Rattle.std.proofs.Common.{sym, ap, ◌∙◌, min, arith, append_assoc, append-nil}
use Rattle.text.specs.Lent.{Stored}
use Rattle.text.specs.LentLaws.{put-nil, stored-append}
use Rattle.text.specs.Bytes.{bytes}
use Rattle.text.specs.Lines.{LF, comma}
use Rattle.text.specs.Numbers.{digits, decimal}
use Rattle.plan.specs.declared.Job.{Job}
use Rattle.plan.specs.declared.Bound.{Bound}
use Rattle.plan.specs.declared.Plan.{Plan}
use Rattle.plan.specs.declared.EventName.{EventName}
use Rattle.plan.specs.EventNames.{letter_byte, kind_byte, name_bytes}
use Rattle.plan.specs.PlanWritten.{jobs_text, bounds_text, jobs_of, bounds_of}
use Rattle.lines.specs.KeyedLaws.{stored-behind}

-- ---- lines before what follows them

jobs_text-more : (js : List Job) (s : List ℕ) → jobs_text js s ≡ jobs_text js [] ++ s
unfolding jobs_text
jobs_text-more [] s = refl
jobs_text-more (j ∷ js) s = simp (append_assoc, ← jobs_text-more js s)

-- the text of no jobs is what follows it, and that of one more is put before it
pub jobs_text-nil : (s : List ℕ) → jobs_text [] s ≡ s
unfolding jobs_text
jobs_text-nil s = refl

pub jobs_text-next : (j : Job) (js : List Job) → jobs_text (j ∷ js) [] ≡ jobs_text (j ∷ []) [] ++ jobs_text js []
unfolding jobs_text
jobs_text-next j js = simp append_assoc

pub bounds_text-nil : bounds_text [] ≡ []
unfolding bounds_text
bounds_text-nil = refl

pub bounds_text-more : (d : Bound) (ds : List Bound) → bounds_text (d ∷ ds) ≡ bounds_text (d ∷ []) ++ bounds_text ds
unfolding bounds_text
bounds_text-more d ds = simp append_assoc

-- ---- what writers did

-- nothing was written
pub stored-none : (out : List ℕ) (at : ℕ) → Stored out at [] out at
stored-none out at = record { place = omega arith; slice = sym (put-nil out at) }

-- the parts before place i, and the part x there
module _ {A : Type 0} (text : A → List ℕ) (xs : List A) (i : ℕ) where
  pub stored-part : i < length xs → {x : A} → x ≡ get_or xs i x → {out o o' : List ℕ} {at j j' : ℕ}
      → Stored out at (flat_map text (take i xs)) o j → Stored o j (text x) o' j' → Stored out at (flat_map text (take (i + 1) xs)) o' j'
  stored-part h {x} e p q =
      rw ((take_at_read xs i x h).1, flat_map-append text (take i xs) (get_or xs i x ∷ []), append-nil)
      (stored-append p (rw (← e) q))

-- a name by its parts, and the byte after it
pub stored-name : {out o o' o'' : List ℕ} {at j j' j'' letter kind : ℕ} (e : EventName) (b : ℕ) → letter ≡ letter_byte e.letter → kind ≡ kind_byte e.kind
    → Stored out at (letter ∷ []) o j → Stored o j (kind ∷ []) o' j' → Stored o' j' (digits e.job ++ (b ∷ [])) o'' j''
    → Stored out at (name_bytes e ++ (b ∷ [])) o'' j''
stored-name e b f g p q r = rw (← f, ← g) (stored-append (stored-append p q) r)

-- a bound's line by its parts
module _ {out o₁ o₂ o₃ o₄ : List ℕ} {at j₁ j₂ j₃ j₄ : ℕ} where
  pub stored-bound : (d : Bound)
      → Stored out at (bytes "bound=") o₁ j₁ → Stored o₁ j₁ (name_bytes d.a ++ (comma ∷ [])) o₂ j₂ → Stored o₂ j₂ (name_bytes d.b ++ (comma ∷ [])) o₃ j₃
      → Stored o₃ j₃ (decimal d.c ++ (LF ∷ [])) o₄ j₄
      → Stored out at (bounds_text (d ∷ [])) o₄ j₄
  unfolding bounds_text
  stored-bound d key a b c = stored-append key (stored-behind (name_bytes d.a) comma a (stored-behind (name_bytes d.b) comma b c))

-- the jobs and the bounds one by one are all of them
jobs_text-parts : (js : List Job) → flat_map (λ j. jobs_text (j ∷ []) []) js ≡ jobs_text js []
unfolding jobs_text
jobs_text-parts [] = refl
jobs_text-parts (j ∷ js) = ap (λ (s : List ℕ). jobs_text (j ∷ []) [] ++ s) (jobs_text-parts js) ∙ sym (jobs_text-next j js)

bounds_text-parts : (ds : List Bound) → flat_map (λ d. bounds_text (d ∷ [])) ds ≡ bounds_text ds
unfolding bounds_text
bounds_text-parts [] = refl
bounds_text-parts (d ∷ ds) = ap (λ (s : List ℕ). bounds_text (d ∷ []) ++ s) (bounds_text-parts ds) ∙ sym (bounds_text-more d ds)

-- those that were passed are those of the plan, where no more are passed than there are places
module _ {out o : List ℕ} {at j : ℕ} (p : Plan) {n : ℕ} where
  pub stored-plan-jobs : n ≡ min p.jobs (length p.job) → Stored out at (flat_map (λ j. jobs_text (j ∷ []) []) (take n p.job)) o j
      → Stored out at (jobs_text (jobs_of p) []) o j
  stored-plan-jobs e d = rw (e, take_min p.jobs p.job, jobs_text-parts (jobs_of p)) at d

  pub stored-plan-bounds : n ≡ min p.bounds (length p.bound) → Stored out at (flat_map (λ d. bounds_text (d ∷ [])) (take n p.bound)) o j
      → Stored out at (bounds_text (bounds_of p)) o j
  stored-plan-bounds e d = rw (e, take_min p.bounds p.bound, bounds_text-parts (bounds_of p)) at d

-- the lines of the jobs, and the lines after them
pub stored-jobs : {out s o o' : List ℕ} {at j j' : ℕ} (js : List Job)
    → Stored out at (jobs_text js []) o j → Stored o j s o' j' → Stored out at (jobs_text js s) o' j'
stored-jobs {s = s} js p q = rw (jobs_text-more js s) (stored-append p q)
