-- The first's tasks are put to the front, the second's behind them.
use Rattle.std.proofs.Common.{arith}
use Rattle.request.specs.Request.{no_task}
use Rattle.join.specs.JoinLaws.{both_put}
use Rattle.join.proofs.join_tasks.Goals as goal

pub returns : goal.returns
returns c = both_put no_task c.args.first.now c.args.second.now _ _ c.copy_from_slice.ensures.after c.copy_from_slice-2.ensures.after _ (omega arith)
