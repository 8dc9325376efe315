-- The rows' section is what is left behind the sizes.
use Rattle.cursor.specs.Parts.{rest_part}
use Rattle.table.specs.Table.{decode}
use Rattle.table.specs.Answers.{table_read, sizes_of, row_answer}
use Rattle.table.proofs.read.row_and_sizes.Goals as goal

pub returns-in_default : goal.returns-in_default
unfolding decode sizes_of row_answer
returns-in_default c =
    let none = rw c.in_default.is at c.read_sizes.ensures in
    (rw none, rw none)

pub slice_bounds-read_rows-start : goal.slice_bounds-read_rows-start
slice_bounds-read_rows-start c =
    let read = rw c.in-Some.is at c.read_sizes.ensures in
    read.1

pub returns : goal.returns
unfolding decode table_read
returns c =
    let read = rw c.in-Some.is at c.read_sizes.ensures in
    let answer = rw rest_part at c.read_rows.ensures in
    (rw (c.ok_or.ensures.value, answer, read.0), rw (c.ok_or.ensures.value, answer, read.0))
