-- The jobs one after the other.
use Rattle.prune.proofs.Laws.{links_back}
use Rattle.prune.proofs.tied_jobs.Goals as goal

pub mark_links-requires-clause-links_back : goal.mark_links-requires-clause-links_back
mark_links-requires-clause-links_back c = links_back c.requires c.loop-y.y c.loop-y-test.true
