-- The loop keeps that what is kept of the places passed, and behind it what is kept of those left, is what is kept of all.
use Rattle.std.proofs.Common.{◌≤◌}
use Rattle.dispatcher.specs.StepLaws.{KeptSoFar}
use Rattle.dispatcher.proofs.without_carried.Given as goal

abbrev pub invariant-loop-i : goal.invariant-loop-i
invariant-loop-i l = (l.count ≤ l.i) × KeptSoFar l.row.tasks l.row.jobs l.row.count l.tasks l.jobs l.count l.i
