-- What is full after tightening was so before.
use Rattle.prune.proofs.is_crowded.Goals as goal

pub tighten-requires : goal.tighten-requires
tighten-requires c = c.requires

pub some_full-requires : goal.some_full-requires
some_full-requires c = c.requires

pub returns : goal.returns
returns c = λ e. c.tighten.ensures.keeps (c.some_full.ensures e)
