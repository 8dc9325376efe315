-- The tasks before task i, those behind it, and the two pieces are put into the array.
use Rattle.std.proofs.Common.{◌+◌, ◌-◌, ◌≡◌, length, take, drop, ◌∙◌, arith, length-drop, take_all}
use Rattle.cut.specs.CutLaws.{tasks_put}
use Rattle.cut.proofs.cut_tasks.Goals as goal

pub returns : goal.returns
returns c =
    let known = c.requires.1 in
    let tasks = c.args.tasks.now in
    let after = drop (c.args.i + 1) tasks in
    let all : take (length tasks - (c.args.i + 1)) after ≡ after = take_all _ after (simp length-drop (omega arith)) in
    tasks_put c.args.tasks.now _ _ c.args.i c.args.u _ c.copy_from_slice.ensures.after (c.copy_from_slice-2.ensures.after ∙ all) known c.requires.0 (omega arith)
