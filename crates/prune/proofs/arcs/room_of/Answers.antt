-- By the step.
use Rattle.prune.proofs.ArcLaws.{room_is}
use Rattle.prune.proofs.arcs.room_of.Goals as goal

pub returns : goal.returns
returns c = rw c.max.ensures (room_is c.args.f c.args.k)
