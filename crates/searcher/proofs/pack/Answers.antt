-- `pack`: the costs are the same numbers in two bytes, and the other parts are handed over as they are.
use Rattle.std.proofs.Common.{refl}
use Rattle.searcher.proofs.AllLaws.{packed_same}
use Rattle.searcher.proofs.pack.Goals as goal

pub returns : goal.returns
returns c =
    (packed_same c.requires c.narrow.ensures, refl)
