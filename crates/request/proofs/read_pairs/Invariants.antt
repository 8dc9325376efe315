-- The loop keeps, beside its bounds, where the next record begins and what the definition reads from there on (SoFar): each turn
-- takes one record off it, a refusal ends it, and at the end the records read are the section's.
use Rattle.std.proofs.Common.{◌≤◌, ◌+◌, ◌*◌, ◌≡◌}
use Rattle.cursor.specs.RecordLaws.{SoFar}
use Rattle.request.specs.Request.{no_pair, pair_of, pairs_of}
use Rattle.request.proofs.read_pairs.Given as goal

abbrev pub invariant-loop-i : goal.invariant-loop-i
invariant-loop-i l = record {
  few : l.m ≤ 16;
  place : l.here.at ≡ 1 + 2 * l.i;
  so_far : SoFar (pair_of l.tasks) 16 no_pair (pairs_of l.tasks l.s) l.s l.m l.i l.here.at l.records;
}
