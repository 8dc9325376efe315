-- The loop keeps that the array holds the pieces' pair, then the old pairs before pair v as the cut has them, and nothing behind.
use Rattle.std.proofs.Common.{◌≡◌, take}
use Rattle.cursor.specs.Padded.{padded}
use Rattle.request.specs.Request.{no_pair}
use Rattle.cut.specs.Cut.{cut_pairs}
use Rattle.cut.proofs.cut_pairs.Given as goal

abbrev pub invariant-loop-v : goal.invariant-loop-v
invariant-loop-v l = l.links ≡ padded 16 no_pair (cut_pairs l.i (take l.v l.pairs))
