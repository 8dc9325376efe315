-- The links of job i one after the other: no placing is left out.
use Rattle.prune.proofs.Laws.{entry_in, links_back, tight_same, tight_more, link_tightens}
use Rattle.prune.proofs.tighten.Domains.tie_links.Goals as goal

pub links_of-l-items-requires : goal.links_of-l-items-requires
links_of-l-items-requires c = links_back c.requires.packed c.args.i c.requires.i_bound

pub loop-l-init : goal.loop-l-init
loop-l-init c = tight_same

pub loop-l-preserved : goal.loop-l-preserved
loop-l-preserved c =
    let e = c.links_of-l-items.ensures in
    let here = entry_in _ c.loop-l.l-index c.loop-l-test.true in
    tight_more c.loop-l.invariant (link_tightens c.requires.packed c.args.i c.requires.i_bound (rw e at here) (rw e at c.tie_link-moved.ensures))
