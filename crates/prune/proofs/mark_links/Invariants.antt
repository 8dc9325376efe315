-- The links of job y one after the other: each is left, or its job is marked.
use Rattle.searcher.specs.Arrays.{counts_in}
use Rattle.prune.proofs.Laws.{Marking}
use Rattle.prune.proofs.mark_links.Given as goal

abbrev pub invariant-loop-l : goal.invariant-loop-l
invariant-loop-l l = Marking (counts_in l.problem) l.problem.links l.y l.l-index l.out
