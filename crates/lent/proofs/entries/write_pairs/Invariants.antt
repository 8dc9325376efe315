-- The loop keeps that the bytes of the first i pairs are in their places and those of the pairs left are to come.
use Rattle.std.proofs.Common.{◌-◌, ◌*◌}
use Rattle.cursor.specs.Pieces.{PartWay}
use Rattle.lent.specs.Entries.{entry_bytes}
use Rattle.lent.proofs.entries.write_pairs.Given as goal

abbrev pub invariant-loop-i : goal.invariant-loop-i
invariant-loop-i l = PartWay (entry_bytes l.tasks l.jobs 16 0) l.initial.entries l.entries (entry_bytes l.tasks l.jobs (16 - l.i) l.i) (2 * l.i)
