-- The loop keeps that the records before place y are in their places and those from y on are to come.
use Rattle.std.proofs.Common.{◌*◌}
use Rattle.lent.specs.RecordLaws.{RecordsPart}
use Rattle.lent.proofs.records.write_records.Given as goal

abbrev pub invariant-loop-y : goal.invariant-loop-y
invariant-loop-y l = RecordsPart l.known l.initial.out l.out (8 * l.y) l.y
