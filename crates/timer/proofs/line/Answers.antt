-- Enabled or not, and each status bit in its turn.
use Rattle.std.proofs.Common.{sym, ◌∙◌}
use Rattle.std.proofs.lemmas.Bool.{false≢true}
use Rattle.timer.specs.Registers.{line_on}
use Rattle.timer.proofs.line.Goals as goal
use Rattle.timer.proofs.line.Goals.{then-status, else-status}

pub returns-then-status-2 : goal.returns-then-status-2
unfolding line_on
returns-then-status-2 c =
    elim c.if-status.branch [
      | then-status w ↦ rw (c.if-timer.true, w.value-is, w.if-status.true)
      | else-status w ↦ rw (c.if-timer.true, w.value-is, w.if-status.false, rw w.value-is at c.if-status-2.true)
    ]

pub returns-else-status-2 : goal.returns-else-status-2
unfolding line_on
returns-else-status-2 c =
    elim c.if-status.branch [
      | then-status w ↦ absurd (false≢true (sym (rw w.value-is at c.if-status-2.false) ∙ w.if-status.true))
      | else-status w ↦ rw (c.if-timer.true, w.if-status.false, rw w.value-is at c.if-status-2.false)
    ]

pub returns-else-timer : goal.returns-else-timer
unfolding line_on
returns-else-timer c = rw c.if-timer.false
