-- The two answers are the two cases of the row that begins at the place.
use Rattle.std.specs.Prelude.{ℕ, ◌≡◌, List, drop, None}
use Rattle.cursor.specs.Parsed.{refused}
use Rattle.table.specs.Table.{row_from}
use Rattle.table.specs.Answers.{row_at, taken_said}
use Rattle.table.specs.ReadLaws.{row_taken}
use Rattle.table.proofs.read.next_row.Goals as goal

no_row : (s : List ℕ) (at : ℕ) → row_from (drop at s) ≡ refused 12 → taken_said at None ≡ row_at s at
unfolding row_at
no_row s at none = rw none

pub returns-in_err-count : goal.returns-in_err-count
returns-in_err-count c = rw c.from_residual.ensures (no_row _ _ (rw c.in_err-count.was at c.read_row.ensures))

pub returns : goal.returns
returns c = row_taken _ _ _ _ (rw c.in_ok-count.was at c.read_row.ensures)
