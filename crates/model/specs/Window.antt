-- The first frame that a window can hold.
use Rattle.std.specs.Prelude.{ℕ, ◌+◌, ◌-◌, ◌/◌}

-- the first frame that starts at r or later
unfoldable pub first_from : ℕ → ℕ → ℕ
first_from f r = (r + (f - 1)) / f
