-- One job after the other.
use Rattle.std.proofs.Common.{arith, ◌<◌, ap, ◌∙◌, get_or-take}
use Rattle.exact.specs.Arcs.{step_of}
use Rattle.prune.proofs.Laws.{filled_more}
use Rattle.prune.proofs.ArcLaws.{light_more}
use Rattle.prune.proofs.arcs.weights_of.Goals as goal

pub loop-i-preserved : goal.loop-i-preserved
loop-i-preserved c =
    let v = c.loop-i.invariant in
    let few : c.loop-i.i < 128 = omega arith in
    let more : c.loop-i.i < c.args.n = omega arith in
    let same = c.weight.ensures.is_step ∙ ap (step_of c.args.f c.args.k) (get_or-take c.args.n c.args.problem.now.cost c.loop-i.i 0 more) in
    record { filled = filled_more _ v.filled few same; light = light_more _ v.filled.size few v.light c.weight.ensures.small }
