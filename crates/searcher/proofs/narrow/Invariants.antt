-- `narrow` stores the numbers one after the other: the first j of them stand in the first places.
use Rattle.std.proofs.Common.{◌≡◌, take}
use Rattle.cursor.specs.Padded.{padded}
use Rattle.searcher.proofs.narrow.Given as goal

abbrev pub invariant-loop-j : goal.invariant-loop-j
invariant-loop-j l = l.out ≡ padded 128 0 (take l.j l.xs)
