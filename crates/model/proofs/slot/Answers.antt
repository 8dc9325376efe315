-- The slot is the task's C and the silent ticks, and the sum of the two fits.
use Rattle.std.proofs.Common.{rules}
use Rattle.model.specs.Plan.{slot}
use Rattle.model.proofs.slot.Goals as goal

pub returns : goal.returns
unfolding slot
returns c = search rules
