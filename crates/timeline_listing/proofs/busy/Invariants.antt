-- The loop keeps that the ticks of the places left, added to the sum, are those of all places. Each place adds at most 65,535: no sum wraps.
use Rattle.std.proofs.Common.{◌+◌, ◌*◌, ◌-◌, ◌≤◌, ◌≡◌}
use Rattle.job_records.specs.Timeline.{busy_of}
use Rattle.job_records.specs.Known.{records_from}
use Rattle.timeline_listing.proofs.busy.Given as goal

abbrev pub invariant-loop-job : goal.invariant-loop-job
invariant-loop-job l =
    let known = l.fn.known in
    (l.sum ≤ l.job-index * 65535)
    × (l.sum + busy_of l.tasks (records_from known (known.count - l.job-index) l.job-index) ≡ busy_of l.tasks (records_from known known.count 0))
