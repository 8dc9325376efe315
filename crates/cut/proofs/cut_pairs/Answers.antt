-- The loop keeps that the array holds the pieces' pair, then the old pairs before pair v as the cut has them, and nothing behind.
use Rattle.std.proofs.Common.{arith}
use Rattle.cut.specs.CutLaws.{pairs_none, pairs_more}
use Rattle.cut.proofs.cut_pairs.Goals as goal

pub loop-v-init : goal.loop-v-init
loop-v-init c = pairs_none c.args.i c.args.pairs.now

pub loop-v-preserved : goal.loop-v-preserved
loop-v-preserved c =
    let l = c.loop-v in
    rw (l.invariant, c.cut_pair.ensures) (pairs_more c.args.i c.args.pairs.now l.v c.loop-v-test.true (omega arith))
