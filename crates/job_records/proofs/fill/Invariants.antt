-- After i turns the list is `filled_to i`.
use Rattle.std.proofs.Common.{◌≡◌, length}
use Rattle.job_records.specs.Timeline.{filling}
use Rattle.job_records.specs.FillLaws.{filled_to}
use Rattle.job_records.proofs.fill.Given as goal

abbrev pub invariant-loop-i : goal.invariant-loop-i
invariant-loop-i l =
    (length l.records ≡ length l.initial.records)
    × (l.records ≡ filled_to (filling l.request l.table (length l.initial.records)) l.initial.records l.i)
