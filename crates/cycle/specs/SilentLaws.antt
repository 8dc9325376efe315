-- The cycle does not depend on the silent ticks.
use Rattle.std.specs.Prelude.{ℕ, ◌≡◌, refl, Bool, true, false, cond, List, length, ltb}
use Rattle.request.specs.declared.Task.{Task}
use Rattle.request.specs.declared.Pair.{Pair}
use Rattle.cycle.specs.Cycle.{Cycle, cycle, no_cycle, hyperperiod, all_jobs, planned, limited, cycle_of}
use Rattle.cycle.specs.Silent.{with_silent, SameCycle}

limited_same : (tasks : List Task) (pairs : List Pair) (g k h : ℕ) → limited tasks pairs k h ≡ with_silent k (limited tasks pairs g h)
limited_same tasks pairs g k h = go (ltb 10000 h) (ltb 128 (length (all_jobs tasks h)))
  where
    by : ℕ → Bool → Bool → Cycle
    by s long many = cond long (no_cycle 7) (cond many (no_cycle 8) (cycle tasks pairs s h (planned tasks h)))

    go : (long many : Bool) → by k long many ≡ with_silent k (by g long many)
    go true many = refl
    go false true = refl
    go false false = refl

pub cycle_same : SameCycle
unfolding cycle_of
cycle_same bytes other tasks pairs g k e q = rw (e, q) (limited_same tasks pairs g k (hyperperiod tasks))
