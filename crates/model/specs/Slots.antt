-- The time that a row's entries take in it, each "as its C + g", with the silent ticks after it: 02, R-1 and R-6.
use Rattle.std.specs.Prelude.{ℕ, ◌+◌, List, [], ◌∷◌}
use Rattle.table.specs.Table.{Entry}
use Rattle.model.specs.Plan.{Instance, task_at, slot}

abbrev pub slot_of : Instance → Entry → ℕ
slot_of x e = slot x.g (task_at x e.task)

-- together
abbrev pub slots : Instance → List Entry → ℕ
slots x [] = 0
slots x (e ∷ es) = slot_of x e + slots x es
