-- The least common multiple, from the gcd.
use Rattle.std.specs.Prelude.{ℕ, ◌*◌, ◌/◌}
use Rattle.arith.specs.Gcd.{gcd_of}

-- a and b share their gcd, so a multiple of both needs it once
unfoldable pub lcm_of : ℕ → ℕ → ℕ
lcm_of a b = a / gcd_of a b * b
