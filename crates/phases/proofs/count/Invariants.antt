-- The loop keeps that the counts are those of the phases below p.
use Rattle.std.proofs.Common.{◌≡◌}
use Rattle.phases.specs.Numbered.{counts_ok}
use Rattle.phases.specs.Phases.{phase_counts}
use Rattle.phases.specs.Counting.{phase_number}
use Rattle.phases.proofs.count.Given as goal

abbrev pub invariant-loop-p : goal.invariant-loop-p
invariant-loop-p l = counts_ok l.counts ≡ phase_counts (phase_number l.allowance l.request l.i) l.p
