-- The loop keeps that the counts added and those left come to the sum of all.
use Rattle.std.proofs.Common.{◌+◌, ◌*◌, ◌-◌, ◌≤◌, ◌≡◌}
use Rattle.timer.specs.Registers.{sum_of}
use Rattle.timer.specs.RegisterLaws.{sum_from}
use Rattle.timer.proofs.sum_of.Given as goal

abbrev pub invariant-loop-count : goal.invariant-loop-count
invariant-loop-count l =
    (l.sum ≤ l.count-index * 65535) × (l.sum + sum_from l.count-items (16 - l.count-index) l.count-index ≡ sum_of l.count-items)
