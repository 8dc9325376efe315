-- The loop keeps that putting the lines of the rows left, behind those put, gives the answer, and that the cursor stands at the next row.
use Rattle.std.proofs.Common.{◌<◌, refl, sym, ◌∙◌, arith, length}
use Rattle.cursor.specs.Fields.{Bytes}
use Rattle.table.specs.Table.{decode}
use Rattle.table.specs.RowsLeft.{rows_begin}
use Rattle.plan_listing.specs.Answers.{table_in}
use Rattle.plan_listing.specs.ListingLaws.{rows_turn, rows_end, row_taken, row_here}
use Rattle.plan_listing.proofs.rows.put_rows.Goals as goal

pub loop-k-init : goal.loop-k-init
loop-k-init c = (refl, rw c.first_row-here.ensures (rows_begin _), refl)

pub returns-in_default : goal.returns-in_default
returns-in_default c =
    let l = c.loop-k in
    let bytes : Bytes c.args.table.now = λ i. omega (arith, c.type_inv.table i) in
    let below : l.k < length (table_in (decode c.args.table.now)).rows = omega (arith, c.loop-k-test.true, c.requires.0) in
    absurd (omega (arith, row_here c.args.table.now l.here.at l.k l.invariant.1 bytes _ (rw c.in_default.is at c.next_row.ensures) below))

pub put_row-end-requires : goal.put_row-end-requires
put_row-end-requires c =
    let l = c.loop-k in
    let bytes : Bytes c.args.table.now = λ i. omega (arith, c.type_inv.table i) in
    let below : l.k < length (table_in (decode c.args.table.now)).rows = omega (arith, c.loop-k-test.true, c.requires.0) in
    ((row_taken c.args.table.now l.here.at l.k l.invariant.1 bytes _ (rw c.in-Some.is at c.next_row.ensures) below).0.few, c.requires.1)

pub loop-k-preserved : goal.loop-k-preserved
loop-k-preserved c =
    let l = c.loop-k in
    let more = c.loop-k-test.true in
    let bytes : Bytes c.args.table.now = λ i. omega (arith, c.type_inv.table i) in
    let put = c.put_row-end in
    let rows = (table_in (decode c.args.table.now)).rows in
    let below : l.k < length rows = omega (arith, more, c.requires.0) in
    let read = row_taken c.args.table.now l.here.at l.k l.invariant.1 bytes _ (rw c.in-Some.is at c.next_row.ensures) below in
    (put.auto.out ∙ l.invariant.0, read.1, rw (put.ensures, read.0.entries) (rows_turn c.args.tasks rows l.k _ below) ∙ l.invariant.2)

pub returns : goal.returns
returns c =
    let l = c.loop-k in
    let rows = (table_in (decode c.args.table.now)).rows in
    sym (rows_end c.args.tasks rows l.k _ (omega (arith, c.loop-k-test.false, c.requires.0))) ∙ l.invariant.2
