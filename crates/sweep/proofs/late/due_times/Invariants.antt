-- The jobs one after the other.
use Rattle.std.proofs.Common.{false, replicate}
use Rattle.sweep.specs.Arrays.{rules_in, Due}
use Rattle.sweep.proofs.late.due_times.Given as goal

abbrev pub invariant-loop-i : goal.invariant-loop-i
invariant-loop-i l = Due (rules_in l.problem l.swept) (replicate 128 false) l.i l.due
