-- The loop keeps the load of each row by the jobs passed, none beyond f; a job without room in its row breaks the rule.
use Rattle.std.proofs.Common.{length}
use Rattle.plan_rules.specs.LoopLaws.{Kept}
use Rattle.plan_rules.proofs.capacity_kept.Given as goal

abbrev pub invariant-loop-c : goal.invariant-loop-c
invariant-loop-c l = Kept l.rows l.cost l.frames (length l.cost) l.f (length l.yielded) l.load
