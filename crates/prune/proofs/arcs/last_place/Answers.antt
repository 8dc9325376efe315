-- The frames go round, or they do not.
use Rattle.std.proofs.Common.{arith}
use Rattle.exact.specs.Arcs.{last_in}
use Rattle.prune.proofs.arcs.last_place.Goals as goal

pub returns : goal.returns
unfolding last_in
returns c = (omega arith, omega arith)
