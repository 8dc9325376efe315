-- The room, then the links.
use Rattle.std.proofs.Common.{◌∙◌}
use Rattle.sweep.proofs.Laws.{no_room, room_for}
use Rattle.sweep.proofs.may_put.Goals as goal

pub returns-then-problem-i : goal.returns-then-problem-i
returns-then-problem-i c =
    let a = c.args in
    c.all_let.ensures ∙ room_for a.problem.now a.swept.now a.flags.now a.i a.room c.if-problem-i.true

pub returns-else-problem-i : goal.returns-else-problem-i
returns-else-problem-i c =
    let a = c.args in
    no_room a.problem.now a.swept.now a.flags.now a.i a.room c.if-problem-i.false
