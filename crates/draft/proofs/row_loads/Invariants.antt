-- The jobs passed are added up; no sum exceeds 16 bits, since no row's does.
use Rattle.std.proofs.Common.{◌≡◌, length}
use Rattle.draft.specs.LoadLaws.{Added}
use Rattle.draft.proofs.row_loads.Given as goal

abbrev pub invariant-loop-c : goal.invariant-loop-c
invariant-loop-c l = (long : length l.frames ≡ length l.cost) → Added l.rows l.cost l.frames long (length l.yielded) l.loads
