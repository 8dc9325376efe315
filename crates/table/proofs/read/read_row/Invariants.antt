-- The loop keeps that the entries left, behind those in the places, are what the row has.
use Rattle.std.proofs.Common.{◌≤◌}
use Rattle.table.specs.ReadLaws.{EntriesSoFar}
use Rattle.table.proofs.read.read_row.Given as goal

abbrev pub invariant-loop-i : goal.invariant-loop-i
invariant-loop-i l = (l.n ≤ 16) × EntriesSoFar l.s l.n l.initial.here.at l.tasks l.jobs l.low l.here.at l.i
