-- The loop keeps that the counts are those of the phases below p.
use Rattle.std.proofs.Common.{◌<◌, ◌≡◌, arith}
use Rattle.phases.specs.Counting.{period_in}
use Rattle.phases.specs.HowMany.{none_counted, one_counted, counts_room}
use Rattle.phases.specs.Ways.{task_few}
use Rattle.phases.proofs.count.Goals as goal

pub bounds-request-i : goal.bounds-request-i
bounds-request-i c = task_few c.requires

pub loop-p-init : goal.loop-p-init
loop-p-init c = none_counted _

pub outcome_at-outcome-requires : goal.outcome_at-outcome-requires
outcome_at-outcome-requires c =
    let a = c.args in
    let l = c.loop-p in
    let early : l.p < period_in a.request a.i = c.loop-p-test.true in
    (c.requires, early)

pub one_more-counts-requires : goal.one_more-counts-requires
one_more-counts-requires c =
    let l = c.loop-p in
    rw l.invariant (counts_room _ l.p (omega (arith, c.loop-p-test.true)))

pub loop-p-preserved : goal.loop-p-preserved
loop-p-preserved c =
    let l = c.loop-p in
    rw (c.one_more-counts.ensures, l.invariant, c.outcome_at-outcome.ensures) (one_counted _ l.p)

pub returns : goal.returns
returns c =
    let a = c.args in
    let l = c.loop-p in
    let all : l.p ≡ period_in a.request a.i = omega arith in
    rw all at l.invariant
