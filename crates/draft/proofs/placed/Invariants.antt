-- Those passed that are not lifted stand in the first places.
use Rattle.std.proofs.Common.{◌≤◌, length}
use Rattle.draft.specs.PlacedLaws.{Passed}
use Rattle.draft.proofs.placed.Given as goal

abbrev pub invariant-loop-job : goal.invariant-loop-job
invariant-loop-job l = record {
  few : l.count ≤ length l.yielded;
  passed : Passed l.jobs l.frames (length l.yielded) (record { count = l.count; jobs = l.their_jobs; frames = l.their_frames });
}
