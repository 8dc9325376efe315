-- Each job passed keeps the pair.
use Rattle.std.proofs.Common.{◌≡◌, ℕ, ◌<◌, true, length}
use Rattle.plan_rules.specs.Rules.{one_kept}
use Rattle.plan_rules.proofs.pair_kept.Given as goal

abbrev pub invariant-loop-job : goal.invariant-loop-job
invariant-loop-job l = (y : ℕ) → y < length l.yielded → one_kept l.jobs l.frames (length l.jobs) l.a l.b y ≡ true
