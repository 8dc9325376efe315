-- The loop keeps, beside its bounds, where the next record begins and what the definition reads from there on (SoFar): each turn
-- takes one record off it, a refusal ends it, and at the end the records read are the section's.
use Rattle.std.proofs.Common.{◌≤◌, ◌+◌, ◌*◌, ◌≡◌}
use Rattle.cursor.specs.RecordLaws.{SoFar}
use Rattle.request.specs.Request.{no_task, task_of, tasks_of}
use Rattle.request.proofs.read_tasks.Given as goal

abbrev pub invariant-loop-i : goal.invariant-loop-i
invariant-loop-i l = record {
  few : l.n ≤ 16;
  place : l.here.at ≡ 1 + 8 * l.i;
  so_far : SoFar task_of 16 no_task (tasks_of l.s) l.s l.n l.i l.here.at l.records;
}
