-- `run` goes through jobs and rows, and `put` puts a job and runs on. The invariant: what is left to run answers for the whole. The measure of
-- both is the number of jobs that may still be put.
use Rattle.std.proofs.Common.{◌+◌, ◌-◌, ◌*◌}
use Rattle.searcher.specs.Arrays.{rows_in}
use Rattle.sweep.specs.Arrays.{rules_in}
use Rattle.sweep.proofs.RunLaws.{Running}
use Rattle.sweep.proofs.+put_run.Given as goal

abbrev pub decreases-put : goal.decreases-put
decreases-put l = 2 * l.left

abbrev pub decreases-run : goal.decreases-run
decreases-run l = 2 * l.left + 1

abbrev pub invariant-run-loop-row : goal.invariant-run-loop-row
invariant-run-loop-row l =
    Running (rules_in l.problem l.swept) (rows_in l.problem) l.p l.i l.room l.initial.flags l.initial.due l.low l.high
    l.ordered l.flags l.due l.marks l.words l.row l.job l.space

abbrev pub decreases-run-loop-row : goal.decreases-run-loop-row
decreases-run-loop-row l = (l.rows - l.row) * 256 + (l.n - l.job)
