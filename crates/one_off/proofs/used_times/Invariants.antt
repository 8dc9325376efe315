-- The used times of the rows read stand in their places, and the cursor stands at the next row.
use Rattle.std.proofs.Common.{◌≡◌, length}
use Rattle.table.specs.RowsLeft.{RowsLeft}
use Rattle.model.specs.Answers.{instance_of}
use Rattle.one_off.specs.Answers.{UsedTimes}
use Rattle.one_off.proofs.used_times.Given as goal

abbrev pub invariant-loop-k : goal.invariant-loop-k
invariant-loop-k l = record {
  long : length l.times ≡ 256;
  used : UsedTimes (instance_of l.cycle) l.table l.k l.times;
  left : RowsLeft l.table l.here.at l.k;
}
