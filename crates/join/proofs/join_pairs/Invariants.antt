-- The loop keeps that the array holds the first's pairs, then the second's before pair i, raised, and nothing behind.
use Rattle.std.proofs.Common.{◌≡◌, ◌++◌, map, take}
use Rattle.cursor.specs.Padded.{padded}
use Rattle.request.specs.Request.{no_pair}
use Rattle.join.specs.Joined.{raised_by}
use Rattle.join.proofs.join_pairs.Given as goal

abbrev pub invariant-loop-i : goal.invariant-loop-i
invariant-loop-i l = l.pairs ≡ padded 16 no_pair (l.first ++ map (raised_by l.n) (take l.i l.second))
