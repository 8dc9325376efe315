-- One row more: what is needed up to it, and what there is.
use Rattle.std.proofs.Common.{arith, sym}
use Rattle.sweep.proofs.RunLaws.{n_is, f_is}
use Rattle.sweep.proofs.LateLaws.{comparing_more, late_row}
use Rattle.sweep.proofs.late.is_late.Goals as goal

pub returns-then-sum-room : goal.returns-then-sum-room
returns-then-sum-room c =
    let a = c.args in
    let pre = c.requires in
    λ e. late_row (comparing_more c.loop-e.invariant (omega (arith, c.loop-e-test.true, c.stop_row-stop.ensures)) pre.sweepable.few_rows
    (n_is a.problem.now a.swept.now) pre.sweepable.few pre.due (sym (f_is a.problem.now a.swept.now))
    (omega arith)) pre.p_bound c.if-sum-room.true

pub loop-e-preserved : goal.loop-e-preserved
loop-e-preserved c =
    let a = c.args in
    let pre = c.requires in
    comparing_more c.loop-e.invariant (omega (arith, c.loop-e-test.true, c.stop_row-stop.ensures)) pre.sweepable.few_rows
    (n_is a.problem.now a.swept.now) pre.sweepable.few pre.due (sym (f_is a.problem.now a.swept.now))
    (omega arith)
