-- The answer is the definition's test.
use Rattle.std.proofs.Common.{arith}
use Rattle.std.proofs.lemmas.Grind.{common_steps}
use Rattle.cut.specs.Cut.{cuttable}
use Rattle.cut.proofs.can_cut.Goals as goal

pub returns-then-u-ge1 : goal.returns-then-u-ge1
unfolding cuttable
returns-then-u-ge1 c = grind (arith, common_steps)

pub returns-else-u-ge1 : goal.returns-else-u-ge1
unfolding cuttable
returns-else-u-ge1 c = grind (arith, common_steps)
