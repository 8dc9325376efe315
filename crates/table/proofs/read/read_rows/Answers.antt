-- The loop keeps that the rows left, behind those that were read, are what the section has, and the row k once it is read.
use Rattle.std.proofs.Common.{◌≡◌, sym, ◌∙◌, true, drop}
use Rattle.cursor.specs.Parsed.{got}
use Rattle.cursor.specs.Fields.{word_of}
use Rattle.cursor.specs.FieldLaws.{word_taken, word_missing}
use Rattle.table.specs.Table.{height_fits, rows_from}
use Rattle.table.specs.Answers.{table_read, sizes_of, row_answer}
use Rattle.table.specs.ReadLaws.{rows_start, rows_kept_lem, rows_passed, rows_refused, rows_tail, rows_end}
use Rattle.table.proofs.read.read_rows.Goals as goal
use Rattle.table.proofs.read.read_rows.Goals.{then-i-k, else-i-k, Else-not-height_fits}

-- F is c, and fits the sizes
height-read : (c : Else-not-height_fits) → let s = c.args.s.now in
    word_of 12 s ≡ got c.in_ok-height.height (drop c.in_ok-height.start.at s)
height-read c = (word_taken 12 _ 0 _ _ (sym c.word.ensures ∙ c.in_ok-height.was)).field

fits : (c : Else-not-height_fits) → let a = c.args in
    height_fits c.in_ok-height.height (record { f = a.f; h = a.h }) ≡ true
fits c = sym c.height_fits.ensures ∙ c.if-not-height_fits.false

pub returns-in_err-height : goal.returns-in_err-height
unfolding rows_from table_read sizes_of row_answer
returns-in_err-height c = rw c.from_residual.ensures (rw (word_missing 12 _ _ (sym c.word.ensures ∙ c.in_err-height.was)))

pub returns-then-not-height_fits : goal.returns-then-not-height_fits
unfolding rows_from table_read sizes_of row_answer
returns-then-not-height_fits c =
    let one = word_taken 12 _ _ _ _ (sym c.word.ensures ∙ c.in_ok-height.was) in
    rw (one.field, sym c.height_fits.ensures ∙ c.if-not-height_fits.true)

pub loop-i-init : goal.loop-i-init
loop-i-init c = rows_start _ _ _ _ _

pub returns-in_err-count : goal.returns-in_err-count
unfolding table_read sizes_of row_answer
returns-in_err-count c =
    let none = rw c.in_err-count.was at c.read_row.ensures in
    rw c.from_residual-in_err-count.ensures
    (rw (rows_refused _ _ _ _ _ _ _ _ c.loop-i.invariant (height-read (goal.at.returns-in_err-count c).Else-not-height_fits)
    (fits (goal.at.returns-in_err-count c).Else-not-height_fits) c.loop-i-test.true none))

pub loop-i-preserved : goal.loop-i-preserved
loop-i-preserved c =
    let here = rw c.in_ok-count.was at c.read_row.ensures in
    let more = c.loop-i-test.true in
    let so = c.loop-i.invariant in
    elim c.if-i-k.branch [
      | then-i-k w ↦ rw w.kept-is (rows_kept_lem _ _ _ _ _ _ _ _ so _ _ more here w.if-i-k.true)
      | else-i-k w ↦ rw w.kept-is (rows_passed _ _ _ _ _ _ _ _ so _ _ more here w.if-i-k.false)
    ]

pub returns-then-here-s : goal.returns-then-here-s
unfolding table_read sizes_of row_answer
returns-then-here-s c =
    rw (rows_tail _ _ _ _ _ _ _ _ c.loop-i.invariant (height-read (goal.at.returns-then-here-s c).Else-not-height_fits)
    (fits (goal.at.returns-then-here-s c).Else-not-height_fits) c.loop-i-test.false c.if-here-s.true)

pub returns : goal.returns
returns c =
    sym (rows_end _ _ _ _ _ _ _ _ c.loop-i.invariant (height-read (goal.at.returns c).Else-not-height_fits)
    (fits (goal.at.returns c).Else-not-height_fits) c.loop-i-test.false c.loop-i.auto.i-end c.if-here-s.false)
