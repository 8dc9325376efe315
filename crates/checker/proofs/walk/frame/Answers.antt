-- The frame of a row, with carry and without.
use Rattle.std.proofs.Common.{arith}
use Rattle.checker.specs.Checked.{frame_for}
use Rattle.checker.proofs.walk.frame.Goals as goal

pub returns-then-carried : goal.returns-then-carried
unfolding frame_for
returns-then-carried c = rw c.if-carried.true

pub returns-else-carried : goal.returns-else-carried
unfolding frame_for
returns-else-carried c = rw c.if-carried.false (omega arith)
