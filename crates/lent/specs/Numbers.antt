-- The count of tries, and the four counts of a task's phases, each in 8 of the bytes that the caller lends.
use Rattle.std.specs.Prelude.{ℕ, zero, suc, ◌%◌, ◌/◌, List, [], ◌∷◌, ◌++◌}
use Rattle.cursor.specs.Fields.{word_bytes}
use Rattle.phases.specs.Numbered.{PhaseCounts}

-- a number in n bytes, low byte first
unfoldable pub low_first : ℕ → ℕ → List ℕ
low_first zero number = []
low_first (suc n) number = (number % 256) ∷ low_first n (number / 256)

-- the phases that lead to a table, to 9, to 10 and to 23
unfoldable pub counts_bytes : PhaseCounts → List ℕ
counts_bytes found = word_bytes found.tables ++ word_bytes found.nines ++ word_bytes found.tens ++ word_bytes found.ended
