-- The jobs one after the other.
use Rattle.searcher.specs.Arrays.{counts_in}
use Rattle.prune.specs.Arrays.{Marked}
use Rattle.prune.proofs.tied_jobs.Given as goal

abbrev pub invariant-loop-y : goal.invariant-loop-y
invariant-loop-y l = Marked (counts_in l.problem) l.problem.links l.y l.out
