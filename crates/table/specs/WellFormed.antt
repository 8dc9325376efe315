-- The tables that have a form: what 01 says under "Table file" of the values, not of the bytes.
use Rattle.std.specs.Prelude.{ℕ, ◌+◌, ◌*◌, ◌≤◌, ◌<◌, ◌≡◌, List, [], ◌∷◌, length}
use Rattle.table.specs.Table.{Entry, Table}

-- "a task byte 0 to 15", "bits 0 to 6 the job j", "Entries rise strictly by task": the first task is at least `low`
unfoldable pub RisingFrom : ℕ → List Entry → Type 0
RisingFrom low [] = Unit {0}
RisingFrom low (e ∷ es) = (low ≤ e.task) × (e.task < 16) × (e.number < 128) × RisingFrom (e.task + 1) es

unfoldable pub AllRising : List (List Entry) → Type 0
AllRising [] = Unit {0}
AllRising (es ∷ rows) = RisingFrom 0 es × AllRising rows

-- "1 ≤ H ≤ 10,000, 1 ≤ F ≤ 256, F·f = H"; a row that rises has at most 16 entries
pub record WellFormed (t : Table) : Type 0 where
  pub some_ticks : 1 ≤ t.h
  pub few_ticks : t.h ≤ 10000
  pub some_rows : 1 ≤ length t.rows
  pub few_rows : length t.rows ≤ 256
  pub whole : length t.rows * t.f ≡ t.h
  pub rising : AllRising t.rows
