-- A later row, then the links.
use Rattle.std.proofs.Common.{◌∙◌}
use Rattle.sweep.proofs.Laws.{last_row, later_row}
use Rattle.sweep.proofs.may_leave.Goals as goal

pub returns-then-p-swept : goal.returns-then-p-swept
returns-then-p-swept c =
    let a = c.args in
    c.all_let.ensures ∙ later_row a.problem.now a.swept.now a.flags.now a.i a.p c.if-p-swept.true

pub returns-else-p-swept : goal.returns-else-p-swept
returns-else-p-swept c =
    let a = c.args in
    last_row a.problem.now a.swept.now a.flags.now a.i a.p c.if-p-swept.false
