-- `put_jobs`: the jobs from place i on are left. One law a turn: `left-job`, `left-jobs`.
use Prim.Native.Nat.{◌+◌, ◌*◌, ◌-◌, ◌≤◌}
use Rattle.calendars.specs.CalendarText.{job_texts, most_job_bytes}
use Rattle.text.specs.LeftLaws.{LeftToWrite}
use Rattle.calendars.proofs.print.put_jobs.Given as goal

abbrev pub invariant-loop-i : goal.invariant-loop-i
invariant-loop-i l =
    (l.end ≤ l.at + most_job_bytes * l.i)
    × LeftToWrite l.initial.out l.at (job_texts l.jobs l.c 0 l.jobs) l.out l.end (job_texts l.jobs l.c l.i (l.jobs - l.i))
