-- The loop keeps that putting the lines of the places left, behind those put, gives the answer.
use Rattle.std.proofs.Common.{◌-◌, ◌≡◌, length}
use Rattle.text.specs.Text.{filled_to, put_all_of}
use Rattle.job_records.specs.Known.{records_from}
use Rattle.timeline_listing.specs.Printed.{record_lines}
use Rattle.timeline_listing.proofs.put_records.Given as goal

abbrev pub invariant-loop-y : goal.invariant-loop-y
invariant-loop-y l =
    (length l.out ≡ length l.initial.out)
    × (put_all_of (filled_to l.end l.out) (record_lines (records_from l.known (l.known.count - l.y) l.y)) ≡ put_all_of
    (filled_to l.at l.initial.out) (record_lines (records_from l.known l.known.count 0)))
