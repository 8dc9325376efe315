-- The loop keeps that the entries left, behind those in the places, are what the row has.
use Rattle.std.proofs.Common.{sym, ◌∙◌, arith, le-leb}
use borrow.Author.Tests.{lt-leb}
use Rattle.cursor.specs.FieldLaws.{ByteTaken, byte_taken, byte_missing}
use Rattle.table.specs.Table.{row_from}
use Rattle.table.specs.ReadLaws.{entries_start, entries_more, entries_refused, entries_row}
use Rattle.table.proofs.read.read_row.Goals as goal
use Rattle.table.proofs.read.read_row.Goals.{In_ok-count}

-- the count is read
count_read : (c : In_ok-count) → let byte = c.in_ok-count in let a = c.args in
    ByteTaken 12 a.s.now a.first.at byte.count byte.start
count_read c = byte_taken 12 _ _ _ _ (sym c.byte.ensures ∙ c.in_ok-count.was)

pub returns-in_err-count : goal.returns-in_err-count
unfolding row_from
returns-in_err-count c = rw c.from_residual.ensures (rw (byte_missing 12 _ _ (sym c.byte.ensures ∙ c.in_err-count.was)).0)

pub returns-then-count-gt16 : goal.returns-then-count-gt16
unfolding row_from
returns-then-count-gt16 c = rw ((count_read (goal.at.returns-then-count-gt16 c).In_ok-count).field, lt-leb _ _ c.if-count-gt16.true)

pub loop-i-init : goal.loop-i-init
loop-i-init c =
    let pre = c.requires in
    (c.if-count-gt16.false, rw (pre.0, pre.1) (entries_start _ _ _))

pub returns-in_err-task : goal.returns-in_err-task
unfolding row_from
returns-in_err-task c =
    let none = rw c.in_err-task.was at c.read_entry.ensures in
    rw c.from_residual-in_err-task.ensures
    (rw ((count_read (goal.at.returns-in_err-task c).In_ok-count).field, le-leb _ _ c.if-count-gt16.false)
    (entries_refused _ _ _ _ _ _ _ _ c.loop-i.invariant.1 c.loop-i-test.true none))

pub overflow_add-low : goal.overflow_add-low
overflow_add-low c =
    let entry = rw c.in_ok-task.was at c.read_entry.ensures in
    omega (arith, entry.1)

pub loop-i-preserved : goal.loop-i-preserved
loop-i-preserved c =
    let entry = rw c.in_ok-task.was at c.read_entry.ensures in
    let so = c.loop-i.invariant in
    (so.0, entries_more _ _ _ _ _ _ _ _ so.1 _ _ _ c.loop-i-test.true so.0 entry)

pub returns : goal.returns
returns c =
    let so = c.loop-i.invariant in
    let count = count_read (goal.at.returns c).In_ok-count in
    entries_row _ _ _ _ _ _ _ _ so.1 _ c.loop-i-test.false c.loop-i.auto.i-end so.0 count.field count.moved
