-- What is known of all numbers of a plan that a local holds: the arrays have their sizes, and each number fits its type (`plan-fits`).
use mathlib.Core.List.{List, [], ◌∷◌}
use Prim.Native.Nat.{◌<◌}
use native.Mathlib.Omega.{arith}
use denote.Array.{each}
use denote.RattleType.{RattleType, Valss}
use denote.Shadow.{shadow}
use denote.Struct.Declared.{fields}
use denote.Struct.Struct.{AreAll}
use mir.Val.{Val}
use Rattle.plan.specs.declared.Job.{Job}
use Rattle.plan.specs.declared.Bound.{Bound}
use Rattle.plan.specs.declared.Plan.{Plan}
use Rattle.plan.specs.ListLaws.{All, All-take}
use Rattle.values.specs.JudgedLength.{JobFits, BoundFits, PlanFits}
use Rattle.whole.specs.Widths.{i32-wide}
use Rattle.plan.specs.contracts.Job as job
use Rattle.plan.specs.contracts.Bound as bound
use Rattle.plan.specs.contracts.Plan as plan

-- what is known of each element of an array
each-told : (R : RattleType) (P : R.Denot → Type 0) → ((x : R.Denot) (u : Val) → shadow (R.own_val x (u ∷ [])) → P x)
    → (xs : List R.Denot) (us : List Val) → shadow (each R.Denot R.own_val xs us) → All P xs
each-told R P f [] [] h = tt
each-told R P f [] (u ∷ us) h = absurd h
each-told R P f (x ∷ xs) [] h = absurd h
each-told R P f (x ∷ xs) (u ∷ us) h = (f x u h.0, each-told R P f xs us h.1)

job-fits : (j : Job) (u : Val) → shadow ((job.the_row).own_val j (u ∷ [])) → JobFits j
job-fits j u h =
    let f = h.1.1 in
    record {
      min = i32-wide (record { sfits = f.0.1 });
      max = i32-wide (record { sfits = f.1.0.1 });
      release = i32-wide (record { sfits = f.1.1.0.1 });
      deadline = i32-wide (record { sfits = f.1.1.1.0.1 });
    }

bound-fits : (d : Bound) (u : Val) → shadow ((bound.the_row).own_val d (u ∷ [])) → BoundFits d
bound-fits d u h =
    let f = h.1.1 in
    let a : d.a.job < 256 = f.0.1.1.1.1.0.1 in
    let b : d.b.job < 256 = f.1.0.1.1.1.1.0.1 in
    record { a-job = omega arith; b-job = omega arith; c = i32-wide (record { sfits = f.1.1.0.1 }) }

pub plan-fits : (p : Plan) (vss : Valss (fields plan.the_type)) → AreAll (fields plan.the_type) ((plan.the_type).to p) vss → PlanFits p
plan-fits p vss h =
    let js = h.1.1.1.1.0 in
    let ds = h.1.1.1.1.1.1.0 in
    record {
      placed = record {
        job-places = js.1.0.1;
        bound-places = ds.1.0.1;
      };
      window = i32-wide (record { sfits = h.0.1 });
      rounds = h.1.0.1;
      last = h.1.1.0.1;
      jobs = h.1.1.1.0.1;
      bounds = h.1.1.1.1.1.0.1;
      job-fits = All-take JobFits p.jobs p.job (each-told job.the_row JobFits job-fits p.job js.0 js.1.1);
      bound-fits = All-take BoundFits p.bounds p.bound
          (each-told bound.the_row BoundFits bound-fits p.bound ds.0 ds.1.1);
    }
