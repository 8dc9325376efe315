-- Inside both loops no place is found yet, and the rest of the walk finds what the whole walk finds.
use Rattle.std.proofs.Common.{◌≡◌, ◌+◌, ◌*◌, sym, ◌∙◌, arith}
use Rattle.table.specs.Table.{carried_in}
use Rattle.checker.specs.WalkLaws.{row_starts, walk_ends, row_ends, entry_names, entry_other}
use Rattle.checker.proofs.walk.find.Goals as goal

pub loop-e-init : goal.loop-e-init
loop-e-init c =
    let l = c.rows in
    let start : l.at + 1 + 0 ≡ l.at + 1 = omega arith in
    record {
      none = l.invariant.none;
      left = rw (c.from-n.ensures, c.byte_or_zero.ensures, start) (row_starts _ _ _ l.row l.at c.rows-test.true ∙ l.invariant.left);
    }

pub loop-e-preserved : goal.loop-e-preserved
loop-e-preserved c =
    let l = c.loop-e in
    let at = c.rows.at in
    let other = rw (c.number.ensures, c.byte_or_zero-task.ensures, c.byte_or_zero-byte.ensures) at (sym c.is_job.ensures ∙ c.if-is_job.false) in
    let next : at + 1 + 2 * (l.e + 1) ≡ at + 1 + 2 * l.e + 2 = omega arith in
    record {
      none = l.invariant.none;
      left = rw next (entry_other _ _ _ _ (at + 1 + 2 * l.e) _ l.e c.loop-e-test.true other ∙ l.invariant.left);
    }

pub rows-preserved : goal.rows-preserved
rows-preserved c =
    let l = c.loop-e in
    let at = c.rows.at in
    let next : at + (1 + 2 * c.from-n.result) ≡ at + 1 + 2 * l.e = omega arith in
    record {
      none = l.invariant.none;
      low = omega (arith, c.rows.invariant.low);
      left = rw next (sym (row_ends _ _ _ _ (at + 1 + 2 * l.e) _ l.e c.loop-e-test.false) ∙ l.invariant.left);
    }

pub returns-after-rows : goal.returns-after-rows
returns-after-rows c =
    let l = c.rows in
    l.invariant.none ∙ sym (walk_ends _ _ _ l.row l.at c.rows-test.false) ∙ l.invariant.left

pub returns-then-is_job : goal.returns-then-is_job
returns-then-is_job c =
    let l = c.loop-e in
    let named = rw (c.number.ensures, c.byte_or_zero-task.ensures, c.byte_or_zero-byte.ensures) at (sym c.is_job.ensures ∙ c.if-is_job.true) in
    let carry : c.is_carried.result ≡ carried_in c.byte_or_zero-byte.result = c.is_carried.ensures in
    rw (carry, c.byte_or_zero-byte.ensures) (sym (entry_names _ _ _ _ (c.rows.at + 1 + 2 * l.e) _ l.e c.loop-e-test.true named) ∙ l.invariant.left)
