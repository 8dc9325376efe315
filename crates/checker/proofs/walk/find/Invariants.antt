-- Inside both loops no place is found yet, and the rest of the walk finds what the whole walk finds.
use Rattle.std.proofs.Common.{◌≤◌, ◌-◌, ◌+◌, ◌*◌, ◌≡◌, None}
use Rattle.checker.specs.Checked.{position_in}
use Rattle.checker.specs.Answers.{rows_in, rows_of}
use Rattle.checker.specs.WalkLaws.{walk_in_row}
use Rattle.checker.proofs.walk.find.Given as goal

abbrev pub invariant-loop-e : goal.invariant-loop-e
invariant-loop-e l = record {
  none : l.place ≡ None;
  left : walk_in_row l.table l.job l.height l.row l.n l.e (l.at + 1 + 2 * l.e) ≡ position_in l.job 0 (rows_of l.table l.height);
}

abbrev pub invariant-rows : goal.invariant-rows
invariant-rows l = record {
  none : l.place ≡ None;
  low : l.at ≤ 7 + l.row * 511;
  left : position_in l.job l.row (rows_in l.table (l.height - l.row) l.at) ≡ position_in l.job 0 (rows_of l.table l.height);
}
