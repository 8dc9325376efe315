-- A test of every number below n, or of some number below n.
use Rattle.std.specs.Prelude.{ℕ, Bool, true, false, cond, ◌&&◌}
use mathlib.Core.List.{map, foldr}
use Rattle.cursor.specs.Range.{range}

-- each of the numbers below n keeps the test
abbrev pub every : ℕ → (ℕ → Bool) → Bool
every n test = foldr ◌&&◌ true (map test (range 0 n))

-- some one of them does
abbrev pub some : ℕ → (ℕ → Bool) → Bool
some n test = foldr (λ this later. cond this true later) false (map test (range 0 n))
