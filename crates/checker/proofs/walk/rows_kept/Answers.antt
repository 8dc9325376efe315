-- The rows left decide.
use Rattle.std.proofs.Common.{◌+◌, ◌*◌, ◌≡◌, sym, ◌∙◌, arith, get_or, length}
use Rattle.checker.specs.WalkLaws.{row_kept_lem, row_broken, rows_done}
use Rattle.checker.proofs.walk.rows_kept.Goals as goal

pub returns-then-not-row_kept : goal.returns-then-not-row_kept
returns-then-not-row_kept c =
    let l = c.loop-row in
    let a = c.args in
    let row = rw c.byte_or_zero-n.ensures at (sym c.row_kept.ensures ∙ c.if-not-row_kept.true) in
    row_broken a.jobs.now a.frames.now (length a.jobs.now) a.height a.table.now l.row l.at c.loop-row-test.true row ∙ l.invariant.left

pub loop-row-preserved : goal.loop-row-preserved
loop-row-preserved c =
    let l = c.loop-row in
    let a = c.args in
    let row = rw c.byte_or_zero-n.ensures at (sym c.row_kept.ensures ∙ c.if-not-row_kept.false) in
    let kept = row_kept_lem a.jobs.now a.frames.now (length a.jobs.now) a.height a.table.now l.row l.at c.loop-row-test.true row ∙ l.invariant.left in
    let same : l.at + (1 + 2 * get_or a.table.now l.at 0) ≡ l.at + 1 + 2 * get_or a.table.now l.at 0 = omega arith in
    record {
      low = omega (arith, l.invariant.low);
      left = rw (c.from.ensures, c.byte_or_zero-n.ensures, same) kept;
    }

pub returns : goal.returns
returns c =
    let l = c.loop-row in
    let a = c.args in
    rows_done a.jobs.now a.frames.now (length a.jobs.now) a.height a.table.now l.row l.at c.loop-row-test.false ∙ l.invariant.left
