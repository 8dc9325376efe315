-- The words one after the other, from the second row on.
use Rattle.searcher.specs.Arrays.{rows_in, jobs_in}
use Rattle.sweep.specs.Arrays.{rules_in, Beginning}
use Rattle.sweep.proofs.begun.begun_of.Given as goal

abbrev pub invariant-loop-k : goal.invariant-loop-k
invariant-loop-k l = Beginning (rules_in l.problem l.swept) (rows_in l.problem) (jobs_in l.problem) l.k l.begun
