-- The bytes of a table: those that it encodes to.
use Rattle.std.specs.Prelude.{ℕ, ◌≡◌, List}
use Rattle.table.specs.Table.{Table, encode}
use Rattle.table.specs.WellFormed.{WellFormed}

-- the bytes have the form under 01's "Table file", and say the table t
pub record SaysTable (bytes : List ℕ) (t : Table) : Type 0 where
  pub form : WellFormed t
  pub bytes_are : encode t ≡ bytes
