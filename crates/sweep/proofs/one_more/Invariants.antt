-- The jobs of the row one after the other; where all are passed there is nothing to show.
use Rattle.std.proofs.Common.{◌≤◌, ◌-◌}
use Rattle.searcher.specs.Arrays.{jobs_in}
use Rattle.sweep.proofs.one_more.Given as goal

abbrev pub invariant-loop-i : goal.invariant-loop-i
invariant-loop-i l = l.n ≤ jobs_in l.problem

abbrev pub decreases-loop-i : goal.decreases-loop-i
decreases-loop-i l = l.n - l.i
