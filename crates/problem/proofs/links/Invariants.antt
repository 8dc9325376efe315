-- The loop keeps that the links of the jobs passed are counted and stored.
use Rattle.model.specs.Answers.{instance_of}
use Rattle.problem.specs.LinkLaws.{LinksSoFar}
use Rattle.problem.proofs.links.Given as goal

abbrev pub invariant-loop-y : goal.invariant-loop-y
invariant-loop-y l = LinksSoFar (instance_of l.fn.cycle) l.y l.counts l.places
