-- The rows one after the other, up to one where no more is asked: what is needed up to this one, and what there is.
use Rattle.searcher.specs.Arrays.{rows_in}
use Rattle.sweep.specs.Arrays.{rules_in}
use Rattle.sweep.proofs.LateLaws.{Comparing}
use Rattle.sweep.proofs.late.is_late.Given as goal

abbrev pub invariant-loop-e : goal.invariant-loop-e
invariant-loop-e l = Comparing (rules_in l.problem l.swept) (rows_in l.problem) l.p l.flags l.e l.sum l.room
