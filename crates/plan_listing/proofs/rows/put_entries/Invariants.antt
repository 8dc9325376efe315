-- The loop keeps that putting the entries of the places left, behind those put, gives the answer.
use Rattle.std.proofs.Common.{◌-◌, ◌≡◌, length}
use Rattle.table.specs.AnswerLaws.{entries_at}
use Rattle.text.specs.Text.{filled_to, put_all_of}
use Rattle.plan_listing.specs.Listing.{entry_text, each}
use Rattle.plan_listing.proofs.rows.put_entries.Given as goal

abbrev pub invariant-loop-i : goal.invariant-loop-i
invariant-loop-i l =
    let row = l.row in
    (length l.out ≡ length l.initial.out)
    × (put_all_of (filled_to l.end l.out) (each entry_text (entries_at row.tasks row.jobs (row.count - l.i) l.i)) ≡ put_all_of
    (filled_to l.at l.initial.out) (each entry_text (entries_at row.tasks row.jobs row.count 0)))
