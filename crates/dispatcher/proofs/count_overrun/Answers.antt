-- Each way out is one case of the definition's tests; a count is at most 65,535.
use Rattle.std.proofs.Common.{arith}
use Rattle.dispatcher.specs.StepLaws.{raised_lem}
use Rattle.dispatcher.specs.Dispatch.{raised}
use Rattle.dispatcher.proofs.count_overrun.Goals as goal

pub returns-then-over : goal.returns-then-over
unfolding raised
returns-then-over c = rw c.if-over.true (omega (arith, raised_lem c.args.count (omega arith)))

pub returns-else-over : goal.returns-else-over
unfolding raised
returns-else-over c = rw c.if-over.false
