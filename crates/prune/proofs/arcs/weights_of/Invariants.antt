-- One job after the other.
use Rattle.prune.specs.Arrays.{Filled}
use Rattle.prune.specs.Arcs.{step_by, Light}
use Rattle.prune.proofs.arcs.weights_of.Given as goal

abbrev pub invariant-loop-i : goal.invariant-loop-i
invariant-loop-i l = record { filled : Filled (step_by l.f l.k l.problem.cost) l.i l.out; light : Light l.out l.i }
