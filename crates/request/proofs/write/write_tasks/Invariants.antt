-- The loop keeps that the count and the tasks before task i are in their places and those from i on are to come.
use Rattle.std.proofs.Common.{◌+◌, ◌*◌, ◌≡◌}
use Rattle.request.specs.Request.{no_task}
use Rattle.request.specs.Encode.{task_bytes}
use Rattle.request.specs.WriteLaws.{task_wide, SectionPart}
use Rattle.request.proofs.write.write_tasks.Given as goal

abbrev pub invariant-loop-task : goal.invariant-loop-task
invariant-loop-task l = record {
  place : l.at ≡ 1 + 8 * l.task-index;
  part : SectionPart task_bytes 8 task_wide no_task l.tasks l.initial.out l.out l.at l.task-index;
}
