-- One job after the other.
use Rattle.prune.specs.Arcs.{last_by, weight_by, Needed}
use Rattle.prune.proofs.arcs.needs_of.Given as goal

abbrev pub invariant-loop-i : goal.invariant-loop-i
invariant-loop-i l = Needed (last_by l.rows l.s l.d.low l.d.high) (weight_by l.weights) l.i l.need
