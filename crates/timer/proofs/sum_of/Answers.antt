-- The loop keeps that the counts added and those left come to the sum of all.
use Rattle.std.proofs.Common.{arith}
use Rattle.timer.specs.RegisterLaws.{sum_is, sum_more, sum_end}
use Rattle.timer.proofs.sum_of.Goals as goal

pub loop-count-init : goal.loop-count-init
loop-count-init c = (omega arith, omega (arith, sum_is c.args.counts))

pub overflow_add-sum : goal.overflow_add-sum
overflow_add-sum c = omega (arith, c.loop-count.invariant.0, c.loop-count-test.true)

pub loop-count-preserved : goal.loop-count-preserved
loop-count-preserved c =
    let l = c.loop-count in
    let more = c.loop-count-test.true in
    (omega (arith, l.invariant.0), omega (arith, l.invariant.1, sum_more c.args.counts l.count-index more))

pub returns : goal.returns
returns c =
    let l = c.loop-count in
    omega (arith, l.invariant.1, sum_end c.args.counts l.count-index c.loop-count-test.false)
