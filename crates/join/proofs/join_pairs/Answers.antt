-- The loop keeps that the array holds the first's pairs, then the second's before pair i, raised, and nothing behind.
use Rattle.std.proofs.Common.{refl, append-nil, arith}
use Rattle.request.specs.Request.{no_pair}
use Rattle.join.specs.JoinLaws.{front_put, pair_behind}
use Rattle.join.proofs.join_pairs.Goals as goal

pub loop-i-init : goal.loop-i-init
loop-i-init c = rw append-nil (front_put no_pair c.args.first.now _ c.copy_from_slice.ensures.after)

pub loop-i-preserved : goal.loop-i-preserved
loop-i-preserved c =
    let l = c.loop-i in
    rw l.invariant (pair_behind c.args.first.now c.args.second.now _ l.i _ refl c.loop-i-test.true (omega arith))
