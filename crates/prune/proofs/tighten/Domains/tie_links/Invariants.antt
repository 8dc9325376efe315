-- The links of job i one after the other: no placing is left out.
use Rattle.searcher.specs.Arrays.{problem_in}
use Rattle.prune.specs.Arrays.{domains, Tightened}
use Rattle.prune.proofs.tighten.Domains.tie_links.Given as goal

abbrev pub invariant-loop-l : goal.invariant-loop-l
invariant-loop-l l = Tightened (problem_in l.problem) (domains l.initial.self.low l.initial.self.high) (domains l.self.low l.self.high)
