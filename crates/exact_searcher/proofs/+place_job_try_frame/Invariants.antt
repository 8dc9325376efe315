-- One falling number: the jobs left, and below that the frames left of the job's window. The invariant: what the frames left come to is the answer.
use Rattle.std.proofs.Common.{◌+◌, ◌-◌, ◌*◌, get_or}
use Rattle.searcher.specs.Arrays.{jobs_in, problem_in}
use Rattle.exact_searcher.proofs.Laws.{Trying}
use Rattle.exact_searcher.proofs.+place_job_try_frame.Given as goal

abbrev pub decreases-place_job : goal.decreases-place_job
decreases-place_job l = (jobs_in l.jobs.now.problem - l.i) * 65537 + 65536

abbrev pub decreases-try_frame : goal.decreases-try_frame
decreases-try_frame l = (jobs_in l.jobs.now.problem - l.i) * 65537 + (get_or l.jobs.now.problem.end l.i 0 - l.k)

abbrev pub invariant-place_job-loop-k : goal.invariant-place_job-loop-k
invariant-place_job-loop-k l =
    Trying (problem_in l.jobs.problem) (jobs_in l.jobs.problem) l.initial.board.place l.initial.board.load l.i l.board.place l.board.load l.k l.row
