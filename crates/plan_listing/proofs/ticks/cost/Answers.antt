-- A place below 16 holds the task, and there is none behind it.
use Rattle.std.proofs.Common.{lt-ltb, le-ltb}
use Rattle.plan_listing.specs.Answers.{ticks_in}
use Rattle.plan_listing.proofs.ticks.cost.Goals as goal

pub returns-then-i-lt16 : goal.returns-then-i-lt16
unfolding ticks_in
returns-then-i-lt16 c = rw (lt-ltb _ 16 c.if-i-lt16.true)

pub returns : goal.returns
unfolding ticks_in
returns c = rw (le-ltb _ 16 c.if-i-lt16.false)
