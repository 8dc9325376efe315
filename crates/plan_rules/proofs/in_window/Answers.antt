-- The two tests are the definition's.
use Rattle.std.proofs.Common.{◌*◌, ◌+◌, ◌≡◌, le-leb, arith}
use borrow.Author.Tests.{lt-leb}
use Rattle.plan_rules.specs.Rules.{in_window}
use Rattle.plan_rules.proofs.in_window.Goals as goal

pub returns-then-start-from : goal.returns-then-start-from
unfolding in_window
returns-then-start-from c =
    let a = c.args in
    let more : (a.k + 1) * a.f ≡ a.k * a.f + a.f = omega arith in
    rw (c.from-then-start-from-2.ensures, c.from-then-start-from.ensures, c.from.ensures, c.from-2.ensures)
    (rw (le-leb a.job.release (a.k * a.f) (rw (← c.from-3.ensures, ← c.from.ensures, ← c.from-2.ensures) c.if-start-from.true), more))

pub returns-else-start-from : goal.returns-else-start-from
unfolding in_window
returns-else-start-from c =
    let a = c.args in
    rw (c.from-3.ensures, c.from.ensures, c.from-2.ensures)
    (rw (lt-leb a.job.release (a.k * a.f) (rw (← c.from-3.ensures, ← c.from.ensures, ← c.from-2.ensures) c.if-start-from.false)))
