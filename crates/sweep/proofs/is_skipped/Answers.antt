-- A flag, or a first row that is later.
use Rattle.sweep.proofs.Laws.{skipped_row}
use Rattle.sweep.proofs.is_skipped.Goals as goal

pub returns-else-flags-i : goal.returns-else-flags-i
returns-else-flags-i c = skipped_row c.args.problem.now c.args.swept.now c.args.flags.now c.args.i c.args.p c.if-flags-i.false
