-- The greatest common divisor by Euclid's rule.
use Rattle.std.specs.Prelude.{ℕ, zero, suc, ◌%◌}

-- "the greatest common divisor (gcd) falls to the remainder pair until one is 0"; k bounds the number of steps
unfoldable pub gcd_steps : ℕ → ℕ → ℕ → ℕ
gcd_steps zero a b = a
gcd_steps (suc k) a zero = a
gcd_steps (suc k) a (suc b) = gcd_steps k (suc b) (a % suc b)

-- the second number falls with each step, so b steps are enough
unfoldable pub gcd_of : ℕ → ℕ → ℕ
gcd_of a b = gcd_steps b a b
