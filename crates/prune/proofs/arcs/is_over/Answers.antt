-- The places one after the other: what is needed up to this one, and what there is.
use Rattle.std.proofs.Common.{arith, ◌<◌, get_or-take, length-take}
use Rattle.prune.proofs.ArcLaws.{comparing_more, over_here}
use Rattle.prune.proofs.arcs.is_over.Goals as goal

pub returns-then-sum-has : goal.returns-then-sum-has
returns-then-sum-has c =
    let h : c.loop-asked.asked-index < c.args.rows = omega (arith, length-take c.args.rows c.needs_of-need.result) in
    let more = comparing_more c.loop-asked.invariant h c.requires.n_bound.2 c.requires.n_bound.0 c.needs_of-need.ensures (omega arith) in
    λ e. over_here more (rw (get_or-take c.args.rows c.needs_of-need.result c.loop-asked.asked-index 0 h) at c.if-sum-has.true)

pub loop-asked-preserved : goal.loop-asked-preserved
loop-asked-preserved c =
    let h : c.loop-asked.asked-index < c.args.rows = omega (arith, length-take c.args.rows c.needs_of-need.result) in
    rw (get_or-take c.args.rows c.needs_of-need.result c.loop-asked.asked-index 0 h)
    (comparing_more c.loop-asked.invariant h c.requires.n_bound.2 c.requires.n_bound.0 c.needs_of-need.ensures (omega arith))
