-- By its flag: the links let it be put, or they let it be left out.
use Rattle.std.proofs.Common.{◌∙◌}
use Rattle.sweep.proofs.Laws.{order_by}
use Rattle.sweep.proofs.order.is_in_order.Goals as goal

pub returns : goal.returns
returns c = c.all_let.ensures ∙ order_by c.args.problem.now c.args.swept.now c.args.flags.now c.args.i
