-- The jobs one after the other.
use Rattle.searcher.specs.Arrays.{rows_in}
use Rattle.sweep.specs.Arrays.{rules_in, Beginning}
use Rattle.sweep.proofs.begun.in_first_rows.Given as goal

abbrev pub invariant-loop-i : goal.invariant-loop-i
invariant-loop-i l = Beginning (rules_in l.problem l.swept) (rows_in l.problem) l.i 0 l.begun
