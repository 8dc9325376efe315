-- The entries left decide.
use Rattle.std.proofs.Common.{◌-◌, ◌+◌, ◌*◌, ◌≡◌, length}
use Rattle.checker.specs.Checked.{row_kept}
use Rattle.checker.specs.Answers.{entries_in}
use Rattle.checker.proofs.walk.row_kept.Given as goal

abbrev pub invariant-loop-e : goal.invariant-loop-e
invariant-loop-e l =
    row_kept l.jobs l.frames (length l.jobs) l.height l.row (entries_in l.table (l.n - l.e) (l.first + 2 * l.e))
    ≡ row_kept l.jobs l.frames (length l.jobs) l.height l.row (entries_in l.table l.n l.first)
