-- R-1 for every request: the cycle and its jobs with other silent ticks.
use Rattle.std.specs.Prelude.{ℕ, ◌≡◌, List}
use Rattle.request.specs.Request.{reading, readable}
use Rattle.request.specs.declared.Task.{Task}
use Rattle.request.specs.declared.Pair.{Pair}
use Rattle.cycle.specs.Cycle.{Cycle, cycle, no_cycle, cycle_of}

-- the same cycle, with g silent ticks
abbrev pub with_silent : ℕ → Cycle → Cycle
with_silent g (cycle tasks pairs other h jobs) = cycle tasks pairs g h jobs
with_silent g (no_cycle number) = no_cycle number

-- Two requests that differ in g alone have the same H and the same jobs in planning order, or the same number.
abbrev pub SameCycle : Type 0
SameCycle = (bytes other : List ℕ) (tasks : List Task) (pairs : List Pair) (g k : ℕ) → reading bytes ≡ readable tasks pairs g
    → reading other ≡ readable tasks pairs k → cycle_of other ≡ with_silent k (cycle_of bytes)
