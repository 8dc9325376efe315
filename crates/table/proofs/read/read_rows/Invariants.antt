-- The loop keeps that the rows left, behind those that were read, are what the section has, and the row k once it is read.
use Rattle.table.specs.ReadLaws.{RowsSoFar}
use Rattle.table.proofs.read.read_rows.Given as goal

abbrev pub invariant-loop-i : goal.invariant-loop-i
invariant-loop-i l = RowsSoFar l.s (record { f = l.f; h = l.h }) l.height l.initial.here.at l.k l.kept l.here.at l.i
