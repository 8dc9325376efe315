-- The loop keeps that putting the lines of the rows left, behind those put, gives the answer, and that the cursor stands at the next row.
use Rattle.std.proofs.Common.{◌≡◌, length, drop}
use Rattle.table.specs.Table.{decode}
use Rattle.table.specs.RowsLeft.{RowsLeft}
use Rattle.text.specs.Text.{filled_to, put_all_of}
use Rattle.plan_listing.specs.Listing.{row_lines}
use Rattle.plan_listing.specs.Answers.{table_in}
use Rattle.plan_listing.proofs.rows.put_rows.Given as goal

abbrev pub invariant-loop-k : goal.invariant-loop-k
invariant-loop-k l =
    (length l.out ≡ length l.initial.out) × RowsLeft l.table l.here.at l.k
    × (put_all_of (filled_to l.end l.out) (row_lines l.tasks l.k (drop l.k (table_in (decode l.table)).rows)) ≡ put_all_of
    (filled_to l.at l.initial.out) (row_lines l.tasks 0 (table_in (decode l.table)).rows))
