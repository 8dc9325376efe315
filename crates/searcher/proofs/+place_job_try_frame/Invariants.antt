-- `place_job` and `try_frame`, by one falling number: the jobs left, and below that the frames left of the job's window.
use Rattle.std.proofs.Common.{◌+◌, ◌-◌, ◌*◌, get_or}
use Rattle.searcher.specs.Arrays.{jobs_in, problem_in}
use Rattle.searcher.proofs.Laws.{Trying}
use Rattle.searcher.proofs.+place_job_try_frame.Given as goal

abbrev pub decreases-place_job : goal.decreases-place_job
decreases-place_job l = (jobs_in l.problem.now - l.i) * 65537 + 65536

abbrev pub decreases-try_frame : goal.decreases-try_frame
decreases-try_frame l = (jobs_in l.problem.now - l.i) * 65537 + (get_or l.problem.now.end l.i 0 - l.k)

abbrev pub invariant-place_job-loop-k : goal.invariant-place_job-loop-k
invariant-place_job-loop-k l =
    Trying (problem_in l.problem) (jobs_in l.problem) l.initial.place l.initial.load l.i l.initial.left l.place l.load l.left l.k l.row
