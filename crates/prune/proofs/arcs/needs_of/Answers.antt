-- One job after the other.
use Rattle.std.proofs.Common.{arith, refl}
use Rattle.prune.specs.Arcs.{last_by, weight_by}
use Rattle.prune.proofs.ArcLaws.{needed_none, needed_more}
use Rattle.prune.proofs.arcs.needs_of.Goals as goal

pub loop-i-init : goal.loop-i-init
loop-i-init c = needed_none (last_by c.args.rows c.args.s c.args.d.now.low c.args.d.now.high) (weight_by c.args.weights.now)

pub loop-i-preserved : goal.loop-i-preserved
loop-i-preserved c =
    needed_more c.loop-i.invariant c.last_place.ensures.0 refl (omega (arith, c.last_place.ensures.1)) (c.requires.light.each c.loop-i.i c.loop-i-test.true)
