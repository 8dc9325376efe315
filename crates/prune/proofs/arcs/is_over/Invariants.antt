-- The places one after the other: what is needed up to this one, and what there is.
use Rattle.prune.specs.Arcs.{last_by, weight_by}
use Rattle.std.proofs.Common.{length}
use Rattle.prune.proofs.ArcLaws.{Comparing}
use Rattle.prune.proofs.arcs.is_over.Given as goal

abbrev pub invariant-loop-asked : goal.invariant-loop-asked
invariant-loop-asked l = Comparing (last_by l.rows l.s l.d.low l.d.high) (weight_by l.weights) (length l.weights) l.rows l.room l.asked-index l.sum l.has
