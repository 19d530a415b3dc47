-- With the times of an accepted plan in two arrays, and a fit table in a third, the code's steps rest on what they must rest on, and what they answer
-- is the elimination of the event.
use Rattle.std.specs.Prelude.{ℕ, suc, ◌+◌, ◌≤◌, ◌<◌, ◌≡◌, cond, List, ℤ, neg_ℤ, ◌-ℤ◌, length}
use Rattle.std.proofs.Common.{ap, ap₂, ◌∙◌, arith}
use Rattle.whole.specs.SplitLaws.{split-neg}
use Rattle.whole.specs.Rules.{wholes}
use Rattle.plan.specs.declared.Plan.{Plan}
use Rattle.plan.specs.Accepted.{Accepted}
use Rattle.bounds.specs.Events.{job_at, earliest, latest, start_node, finish_node, nodes, most_nodes}
use Rattle.bounds.specs.Tables.{contradiction, bounds}
use Rattle.bounds.specs.Elimination.{without_start, without_finish}
use Rattle.bounds.specs.BuildLaws.{event_of-start, event_of-finish}
use Rattle.bounds.specs.Spans.{Times, time_of_node}
use Rattle.bounds.specs.Flat.{rows_of, weight_at, WeightInRange, MoveInRange, JoinsRows, MovesRows, joined_rows, moved_rows, cells}
use Rattle.bounds.specs.StartLaws.{without_start-is}
use Rattle.bounds.specs.FinishLaws.{without_finish-is}
use Rattle.bounds.specs.Held.{JudgedTable, TimesHeld}
use Rattle.bounds.specs.JudgedTableLaws.{judged-table-kept, judged-table-weights, job_at-accepted, running-least, running-most}
use Rattle.bounds.specs.SpansLaws.{latest-start, earliest-finish}

pub times_below : {p : Plan} {early late : List ℤ} (n m : ℕ) → m ≤ n → Times p n early late → Times p m early late
times_below n m h t = record { earliest-at = λ y l. t.earliest-at y (omega arith); latest-at = λ y l. t.latest-at y (omega arith) }

-- both windows have room
pub nodes-room : {p : Plan} → Accepted p → nodes (p.jobs + p.jobs) ≤ most_nodes
nodes-room a = let most = a.jobs-most in omega arith

module _ (p : Plan) (early late : List ℤ) (times-held : TimesHeld p early late) (k : ℕ) (ws : List ℤ) where
  module _ (last : suc (start_node k) ≤ nodes (p.jobs + p.jobs)) (fit : JudgedTable p (suc (start_node k)) (rows_of (suc (start_node k)) ws)) where
    start-weighed : (y z : ℕ) → y < suc (start_node k) → z < suc (start_node k) → WeightInRange (weight_at ws y z)
    start-weighed = judged-table-weights p (suc (start_node k)) ws fit times-held.accepted last

    pub start-joins : JoinsRows early late (start_node k) ws
    start-joins =
        let room = nodes-room times-held.accepted in
        record {
          times = times-held.timed;
          node = omega arith;
          column = λ y h. start-weighed y (start_node k) (omega arith) (omega arith);
          row = λ z h. start-weighed (start_node k) z (omega arith) (omega arith);
        }

    pub start_is : length ws ≡ cells
        → let r = joined_rows early late (start_node k) ws in
        cond r.found contradiction (bounds (rows_of (start_node k) r.weights)) ≡ without_start p k (rows_of (suc (start_node k)) ws)
    start_is size =
        let room = nodes-room times-held.accepted in
        without_start-is p early late k ws (times_below (nodes (p.jobs + p.jobs)) (suc (start_node k)) last times-held.times) (omega arith) size
        (judged-table-kept p (suc (start_node k)) ws fit)
        start-weighed

  module _ (last : suc (finish_node k) ≤ nodes (p.jobs + p.jobs)) (fit : JudgedTable p (suc (finish_node k)) (rows_of (suc (finish_node k)) ws)) where
    finish-weighed : (y z : ℕ) → y < suc (finish_node k) → z < suc (finish_node k) → WeightInRange (weight_at ws y z)
    finish-weighed = judged-table-weights p (suc (finish_node k)) ws fit times-held.accepted last

    less_moves : MoveInRange (neg_ℤ (job_at p k).max)
    less_moves =
        let j = job_at-accepted p times-held.accepted k (omega arith) in
        let l = running-least (job_at p k) j in
        let m = j.max-most in
        record { least = omega (wholes, split-neg (job_at p k).max); greatest = omega (wholes, split-neg (job_at p k).max) }

    more-moves : MoveInRange (job_at p k).min
    more-moves =
        let j = job_at-accepted p times-held.accepted k (omega arith) in
        let l = j.min-least in
        let m = running-most (job_at p k) j in
        record { least = omega wholes; greatest = omega wholes }

    -- what lies between the latest finish and the latest start, and between the earliest start and the earliest finish
    pub less-is : time_of_node late (start_node k) -ℤ time_of_node late (finish_node k) ≡ neg_ℤ (job_at p k).max
    less-is =
        ap₂ ◌-ℤ◌ (times-held.times.latest-at (start_node k) (omega arith) ∙ ap (latest p) (event_of-start k))
        (times-held.times.latest-at (finish_node k) (omega arith) ∙ ap (latest p) (event_of-finish k))
        ∙ latest-start p k

    pub more-is : time_of_node early (finish_node k) -ℤ time_of_node early (start_node k) ≡ (job_at p k).min
    more-is =
        ap₂ ◌-ℤ◌ (times-held.times.earliest-at (finish_node k) (omega arith) ∙ ap (earliest p) (event_of-finish k))
        (times-held.times.earliest-at (start_node k) (omega arith) ∙ ap (earliest p) (event_of-start k))
        ∙ earliest-finish p k

    pub finish-moves : MovesRows early late (start_node k) (finish_node k) (neg_ℤ (job_at p k).max) (job_at p k).min ws
    finish-moves =
        let room = nodes-room times-held.accepted in
        record {
          times = times-held.timed;
          node = omega arith;
          order = omega arith;
          less_moves = less_moves;
          more-moves = more-moves;
          column = λ y h. finish-weighed y (finish_node k) (omega arith) (omega arith);
          row = λ z h. finish-weighed (finish_node k) z (omega arith) (omega arith);
        }

    pub finish-is : length ws ≡ cells
        → let r = moved_rows early late (start_node k) (finish_node k) (neg_ℤ (job_at p k).max) (job_at p k).min ws in
        cond r.found contradiction (bounds (rows_of (finish_node k) r.weights)) ≡ without_finish p k (rows_of (suc (finish_node k)) ws)
    finish-is size =
        let room = nodes-room times-held.accepted in
        without_finish-is p early late k ws (times_below (nodes (p.jobs + p.jobs)) (suc (finish_node k)) last times-held.times) (omega arith) size
        (judged-table-kept p (suc (finish_node k)) ws fit)
        finish-weighed
        less_moves
        more-moves
