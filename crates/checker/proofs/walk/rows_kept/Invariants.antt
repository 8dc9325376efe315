-- The rows left decide.
use Rattle.std.proofs.Common.{◌≤◌, ◌-◌, ◌+◌, ◌*◌, ◌≡◌, length}
use Rattle.checker.specs.Checked.{rows_kept}
use Rattle.checker.specs.Answers.{rows_in, rows_of}
use Rattle.checker.proofs.walk.rows_kept.Given as goal

abbrev pub invariant-loop-row : goal.invariant-loop-row
invariant-loop-row l = record {
  low : l.at ≤ 7 + l.row * 511;
  left : rows_kept l.jobs l.frames (length l.jobs) l.height l.row (rows_in l.table (l.height - l.row) l.at)
      ≡ rows_kept l.jobs l.frames (length l.jobs) l.height 0 (rows_of l.table l.height);
}
