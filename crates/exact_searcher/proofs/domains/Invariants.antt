-- The placed jobs one after the other: those before i have their frame alone.
use Rattle.prune.specs.Arrays.{Filled}
use Rattle.exact_searcher.specs.Arrays.{low_from, high_from}
use Rattle.exact_searcher.proofs.domains.Given as goal

abbrev pub invariant-loop-i : goal.invariant-loop-i
invariant-loop-i l = record { lows : Filled (low_from l.fn.first l.place l.i) 128 l.low; highs : Filled (high_from l.fn.end l.place l.i) 128 l.high }
