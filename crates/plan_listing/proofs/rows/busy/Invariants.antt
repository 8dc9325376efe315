-- The loop keeps that the ticks of the places left, added to the sum, are those of all places. Each place adds at most 65,535: no sum wraps.
use Rattle.std.proofs.Common.{ℕ, ◌+◌, ◌*◌, ◌-◌, ◌≤◌, ◌≡◌, List}
use Rattle.table.specs.AnswerLaws.{entries_at}
use Rattle.plan_listing.specs.Listing.{busy_ticks}
use Rattle.plan_listing.proofs.rows.busy.Given as goal

abbrev pub invariant-loop-entry : goal.invariant-loop-entry
invariant-loop-entry l =
    let row = l.fn.row in
    (l.sum ≤ l.entry-index * 65535)
    × ((jobs : List ℕ) → l.sum + busy_ticks l.tasks (entries_at row.tasks jobs (row.count - l.entry-index) l.entry-index) ≡ busy_ticks l.tasks
    (entries_at row.tasks jobs row.count 0))
