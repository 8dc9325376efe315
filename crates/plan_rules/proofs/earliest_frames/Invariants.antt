-- The loop keeps the earliest frames of the jobs passed.
use Rattle.std.proofs.Common.{length}
use Rattle.plan_rules.specs.Earliest.{Earliest}
use Rattle.plan_rules.proofs.earliest_frames.Given as goal

abbrev pub invariant-loop-job : goal.invariant-loop-job
invariant-loop-job l = Earliest l.jobs l.frames l.b (length l.yielded) l.earliest
