-- From one free bit to the next: jobs before are passed over.
use Rattle.std.proofs.Common.{◌≡◌, true, ℕ, ◌≤◌, ◌<◌, ◌-◌}
use Rattle.exact.specs.Sweep.{skips}
use Rattle.sweep.specs.Arrays.{rules_in}
use Rattle.sweep.proofs.next_job.Given as goal

abbrev pub invariant-loop-j : goal.invariant-loop-j
invariant-loop-j l =
    (l.i ≤ l.j) × ((m : ℕ) → l.i ≤ m → l.end ≤ m → l.j ≤ m) × ((y : ℕ) → l.i ≤ y → y < l.j → skips (rules_in l.problem l.swept) l.p l.flags y ≡ true)

abbrev pub decreases-loop-j : goal.decreases-loop-j
decreases-loop-j l = l.end - l.j
