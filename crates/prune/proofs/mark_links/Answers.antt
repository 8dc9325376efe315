-- The links of job y one after the other: each is left, or its job is marked.
use Rattle.prune.proofs.Laws.{marking_start, marking_turn, marking_stop}
use Rattle.prune.proofs.mark_links.Goals as goal

pub loop-l-init : goal.loop-l-init
loop-l-init c = marking_start c.requires.marked

pub loop-l-preserved : goal.loop-l-preserved
loop-l-preserved c =
    let e = c.links_of-l-items.ensures in
    marking_turn c.loop-l.invariant c.requires.links_back (rw e at c.loop-l-test.true) (rw e at c.mark.ensures)

pub returns : goal.returns
returns c = marking_stop c.loop-l.invariant (rw c.links_of-l-items.ensures at c.loop-l-test.false)
