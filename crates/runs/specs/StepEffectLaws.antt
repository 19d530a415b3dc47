-- What a step does to a run, of any run with any plan and calendar. An answer `started=` was to a start on offer, while the run lasts (`started-on-offer`), and
-- the run runs since then (`started-running`). A finish is final exactly inside its times (`finish-final`, `final-inside`, `finish-refused`), and then the run
-- waits for the window's next job (`final-next`) or for the first job of the next window (`final-over`). Where the offer is not empty the opening is open
-- (`opening-open`), and refusal 11 is not given (`waiting-not-empty`, `running-not-empty`). One step more is taken in the run after the others
-- (`after_steps-more`).
use Rattle.std.specs.Prelude.{ℕ, ◌+◌, ◌-◌, ◌≤◌, ◌<◌, ◌≡◌, refl, Bool, true, false, List, [], ◌∷◌, ◌++◌, ltb, ◌≤ℤ◌, get_or, Result, Ok, Err}
use Rattle.std.proofs.Common.{sym, subst, ◌∙◌, lt-ltb, le-ltb}
use Rattle.std.proofs.Math.Path.{ap}
use Rattle.std.proofs.Math.Bool.{cond}
use Rattle.std.specs.Int.Signed.{lt_z}
use Rattle.whole.specs.Clash.{clash}
use Rattle.whole.specs.Rules.{wholes}
use Rattle.clock.specs.declared.RunTime.{RunTime}
use Rattle.plan.specs.declared.Job.{Job}
use Rattle.plan.specs.declared.Plan.{Plan}
use Rattle.lines.specs.declared.Refusal.{Refusal}
use Rattle.lines.specs.declared.Refusal.TheVariants as refusal
use Rattle.plan.specs.PlanLines.{no_job}
use Rattle.calendars.specs.declared.Calendar.{Calendar}
use Rattle.runs.specs.declared.Phase.{Phase}
use Rattle.runs.specs.declared.Phase.TheVariants.{Waiting, Running}
use Rattle.runs.specs.declared.Run.{Run}
use Rattle.runs.specs.declared.Offer.{Offer}
use Rattle.runs.specs.declared.Opening.{Opening}
use Rattle.runs.specs.declared.Step.{Step}
use Rattle.runs.specs.declared.Step.TheVariants.{Start, Finish}
use Rattle.runs.specs.declared.Choice.{Choice}
use Rattle.runs.specs.declared.Answer.TheVariants.{Started, Final, Refused}
use Rattle.runs.specs.ValueLimits.{job_of_phase}
use Rattle.runs.specs.Offers.{turn_of, offer_at, offer_of, opening_of, opened, opening_at, opening}
use Rattle.runs.specs.Steps.{closed_since, closed, moved, answer_of, stepped, OnOffer, InTimes, after_steps}
use Rattle.runs.specs.StepLaws.{opening-running}
use Rattle.runs.specs.AnswerLaws.{answer-started, answer-final, finish-inside, finish-outside}

-- ---- openings

opened-as : (j i : ℕ) (o : Offer) → o.from.0 ≤ℤ o.to.0 → opened j i o ≡ Ok (opening_of j i o)
opened-as j i o h = go (lt_z o.to.0 o.from.0) refl
  where
    go : (b : Bool) → lt_z o.to.0 o.from.0 ≡ b → cond b (Err refusal.EmptyOffer) (Ok (opening_of j i o)) ≡ Ok (opening_of j i o)
    go true e = absurd (omega wholes)
    go false e = refl

module _ (p : Plan) (c : Calendar) (r : Run) (j i : ℕ) where
  abbrev opening_in : Phase → Result Opening Refusal
  opening_in f = opening_at (turn_of p c (job_of_phase f)) c.at_least c.at_most r f

  module _ (waits : r.phase ≡ Waiting j i) (some : (offer_of p c r j i).from.0 ≤ℤ (offer_of p c r j i).to.0) where
    opening-by : opening p c r ≡ cond (ltb p.last j) (Err refusal.Over) (Ok (opening_of j i (offer_of p c r j i)))
    unfolding opening_at
    opening-by =
        ap opening_in waits ∙ ap (λ (x : Result Opening Refusal). cond (ltb p.last j) (Err refusal.Over) x) (opened-as j i (offer_of p c r j i) some)

    pub opening-open : j ≤ p.last → opening p c r ≡ Ok (opening_of j i (offer_of p c r j i))
    opening-open lasts = opening-by ∙ ap (λ (b : Bool). cond b (Err refusal.Over) (Ok (opening_of j i (offer_of p c r j i)))) (le-ltb p.last j lasts)

    pub waiting-not-empty : opening p c r ≡ Err refusal.EmptyOffer → ⊥
    waiting-not-empty e = go (ltb p.last j) (sym opening-by ∙ e)
      where
        go : (b : Bool) → cond b (Err refusal.Over) (Ok (opening_of j i (offer_of p c r j i))) ≡ Err refusal.EmptyOffer → ⊥
        go true h = clash (cc)
        go false h = clash (cc)

  pub running-not-empty : (s : RunTime) → r.phase ≡ Running j i s → opening p c r ≡ Err refusal.EmptyOffer → ⊥
  running-not-empty s runs e =
      let o = opening-running (turn_of p c (job_of_phase r.phase)) c.at_least c.at_most r r.phase j i s runs in
      clash (cc)

module _ (p : Plan) (c : Calendar) (r : Run) where
  -- ---- starts

  pub record StartOnOffer (j i : ℕ) (t : RunTime) : Type 0 where
    pub waits : r.phase ≡ Waiting j i
    pub lasts : j ≤ p.last
    pub on : OnOffer (offer_of p c r j i) t.0

  pub started-on-offer : (st : Step) (j i : ℕ) (t : RunTime) → answer_of p c r st ≡ Started j i t → StartOnOffer j i t
  started-on-offer st j i t e =
      let k = answer-started _ _ _ r st j i t e in
      let w = k.opens.waits in
      let is : offer_of p c r j i ≡ k.offer =
      sym (ap (λ (i' : ℕ). offer_at (turn_of p c i') c.at_least c.at_most r j i) (ap job_of_phase w)) ∙ k.opens.offer in
      record {
        waits = w;
        lasts = k.opens.lasts;
        on = subst (λ o. OnOffer o t.0) (sym is) (record { least = k.least; most = k.most });
      }

  pub started-running : (choice : Choice) (j i : ℕ) (t : RunTime) → (stepped p c r (Start choice)).answer ≡ Started j i t
      → (stepped p c r (Start choice)).run.phase ≡ Running j i t
  unfolding moved
  started-running choice j i t e = ap (λ a. (moved p.jobs r a).phase) e

  -- ---- finishes

  -- the limits that the answer looks at
  limits : (j i : ℕ) (s : RunTime) → r.phase ≡ Running j i s → (turn_of p c (job_of_phase r.phase)).job ≡ get_or p.job (i - 1) no_job
  limits j i s runs = ap (λ f. get_or p.job (job_of_phase f - 1) no_job) runs

  pub record FinishInTimes (j i : ℕ) (t : RunTime) : Type 0 where
    pub since : RunTime
    pub runs : r.phase ≡ Running j i since
    pub inside : InTimes (get_or p.job (i - 1) no_job) since.0 t.0

  pub final-in-times : (st : Step) (j i : ℕ) (t : RunTime) → answer_of p c r st ≡ Final j i t → FinishInTimes j i t
  final-in-times st j i t e =
      let k = answer-final _ _ _ r st j i t e in
      record {
        since = k.since;
        runs = k.runs;
        inside = subst (λ job. InTimes job k.since.0 t.0) (limits j i k.since k.runs) (record { least = k.least; most = k.most });
      }

  module _ (j i : ℕ) (s : RunTime) (runs : r.phase ≡ Running j i s) (t : RunTime) where
    abbrev job : Job
    job = get_or p.job (i - 1) no_job

    pub finish-final : InTimes job s.0 t.0 → (stepped p c r (Finish t)).answer ≡ Final j i t
    finish-final h =
        let q = subst (λ job. InTimes job s.0 t.0) (sym (limits j i s runs)) h in finish-inside _ _ _ r j i s runs t q.least q.most

    pub finish-refused : (InTimes job s.0 t.0 → ⊥) → (stepped p c r (Finish t)).answer ≡ Refused refusal.OutsideTimes
    finish-refused h =
        finish-outside _ _ _ r j i s runs t
        (λ a b. h (subst (λ job. InTimes job s.0 t.0) (limits j i s runs) (record { least = a; most = b })))

    pub final-inside : (stepped p c r (Finish t)).answer ≡ Final j i t → InTimes job s.0 t.0
    final-inside e =
        let k = final-in-times (Finish t) j i t e in
        let x = k.runs in
        let same : k.since ≡ s = cc in
        subst (λ s. InTimes job s.0 t.0) same k.inside

    -- ---- where the run waits after it

    module _ (final : (stepped p c r (Finish t)).answer ≡ Final j i t) where
      closes : (stepped p c r (Finish t)).run ≡ closed_since p.jobs r j i s t
      unfolding moved closed
      closes = ap (moved p.jobs r) final ∙ ap (closed p.jobs r t) runs

      pub final-next : i < p.jobs → (stepped p c r (Finish t)).run.phase ≡ Waiting j (i + 1)
      final-next l = ap (λ r. r.phase) closes ∙ rw (lt-ltb i p.jobs l)

      pub final-over : p.jobs ≤ i → (stepped p c r (Finish t)).run.phase ≡ Waiting (j + 1) 1
      final-over l = ap (λ r. r.phase) closes ∙ rw (le-ltb i p.jobs l)

-- ---- the steps of a session

pub after_steps-more : (p : Plan) (c : Calendar) (r : Run) (sts : List Step) (st : Step)
    → after_steps p c r (sts ++ (st ∷ [])) ≡ (stepped p c (after_steps p c r sts) st).run
unfolding after_steps
after_steps-more p c r [] st = refl
after_steps-more p c r (x ∷ sts) st = after_steps-more p c (stepped p c r x).run sts st
