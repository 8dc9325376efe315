-- The loop keeps that the count and the tasks before task i are in their places and those from i on are to come.
use Rattle.std.proofs.Common.{refl, arith, length-drop}
use Rattle.cursor.specs.Parts.{rest_part, rest_put}
use Rattle.request.specs.Request.{no_task}
use Rattle.request.specs.WriteLaws.{task_wide, count_room, section_start, section_room, section_placed, section_end}
use Rattle.request.proofs.write.write_tasks.Goals as goal

pub bounds-out-0 : goal.bounds-out-0
bounds-out-0 c = count_room _ _ task_wide no_task _ c.args.out.now c.requires.1

pub loop-task-init : goal.loop-task-init
loop-task-init c = record { place = refl; part = section_start _ _ task_wide no_task _ c.args.out.now c.requires.1 }

pub write_task-requires : goal.write_task-requires
write_task-requires c =
    rw (rest_part, length-drop) (omega (arith, section_room _ _ task_wide no_task _ _ _ _ _ c.loop-task.invariant.part c.loop-task-test.true))

pub loop-task-preserved : goal.loop-task-preserved
loop-task-preserved c =
    let l = c.loop-task in
    record {
      place = omega arith;
      part = rw rest_put (section_placed _ _ task_wide no_task _ _ _ _ _ l.invariant.part c.loop-task-test.true _ (rw rest_part at c.write_task.ensures));
    }

pub returns : goal.returns
returns c = section_end _ _ task_wide no_task _ _ _ _ _ c.loop-task.invariant.part c.loop-task-test.false
