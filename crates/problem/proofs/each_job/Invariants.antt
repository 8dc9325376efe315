-- The loop keeps that the numbers of the jobs passed stand in the first places.
use Rattle.std.proofs.Common.{◌≡◌, map, take}
use Rattle.cursor.specs.Padded.{padded}
use Rattle.cycle.specs.declared.Job.{Job}
use Rattle.problem.proofs.each_job.Given as goal

abbrev pub invariant-loop-y : goal.invariant-loop-y
invariant-loop-y g l =
    (value : Job → _) → ((x : Job) (r : _) → goal.F-post g l.number x r → r ≡ value x) → l.out ≡ padded 128 l.fn.blank (map value (take l.y l.jobs))
