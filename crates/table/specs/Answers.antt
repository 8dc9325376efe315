-- The reader's answers, of what the bytes decode to, and the entries that an answer says.
use Rattle.std.specs.Prelude.{ℕ, ◌+◌, ◌*◌, List, map, cond, length, get_or, drop, replicate, ltb, Option, Some, None, Result, Ok, Err}
use Rattle.refusal.specs.Refusal.{number_of}
use Rattle.refusal.specs.declared.Refusal.{Refusal}
use Rattle.cursor.specs.Range.{range}
use Rattle.cursor.specs.Padded.{padded}
use Rattle.cursor.specs.Parsed.{Parsed, got, refused}
use Rattle.cursor.specs.declared.Cursor.{Cursor}
use Rattle.table.specs.Table.{Entry, Decoded, table, malformed, job_byte, entry_of, row_from, row_of}
use Rattle.table.specs.declared.Sizes as z
use Rattle.table.specs.declared.Row as r

-- The answers with the paper's number, where 0 is none: "A refusal returns its number, length 0 or no entries"

-- f, H and F
pub record Sizes : Type 0 where
  pub refusal : ℕ
  pub f : ℕ
  pub h : ℕ
  pub height : ℕ

-- a row's entries in 16 places, filled from the first: task bytes and job bytes
pub record Row : Type 0 where
  pub refusal : ℕ
  pub count : ℕ
  pub tasks : List ℕ
  pub jobs : List ℕ

-- the sizes and one row, of one reading
pub record TableRead : Type 0 where
  pub sizes : Sizes
  pub row : Row

-- a row, and the cursor behind it
pub record TakenRow : Type 0 where
  pub row : Row
  pub next : Cursor

abbrev pub sizes_refused : Sizes
sizes_refused = record { refusal = 12; f = 0; h = 0; height = 0 }

-- f, H and F, or 12 where the bytes do not have the form
unfoldable pub sizes_of : Decoded → Sizes
sizes_of (table t) = record { refusal = 0; f = t.f; h = t.h; height = length t.rows }
sizes_of malformed = sizes_refused

abbrev pub task_byte : Entry → ℕ
task_byte e = e.task

-- "a number and 16 places filled from the first .., each a task byte and a job byte as in the table (unused places are 0)"
unfoldable pub row_given : List Entry → Row
row_given es = record { refusal = 0; count = length es; tasks = padded 16 0 (map task_byte es); jobs = padded 16 0 (map job_byte es) }

abbrev pub row_refused : ℕ → Row
row_refused n = record { refusal = n; count = 0; tasks = replicate 16 0; jobs = replicate 16 0 }

-- the row k: 12 where the bytes do not have the form, 15 where k is not below F
unfoldable pub row_answer : ℕ → Decoded → Row
row_answer k (table t) = cond (ltb k (length t.rows)) (row_given (row_of t k)) (row_refused 15)
row_answer k malformed = row_refused 12

-- both answers, of one reading
unfoldable pub table_read : ℕ → Decoded → TableRead
table_read k d = record { sizes = sizes_of d; row = row_answer k d }

abbrev pub table_refused : TableRead
table_refused = record { sizes = sizes_refused; row = row_refused 12 }

-- the first row begins behind the sizes and F
abbrev pub first_row : Cursor
first_row = record { at = 7 }

-- a row, which has a byte and two for each entry, and the cursor behind it; or the number, and the cursor stays
abbrev pub taken_row : ℕ → Parsed (List Entry) → TakenRow
taken_row at (got es rest) = record { row = row_given es; next = record { at = at + 1 + 2 * length es } }
taken_row at (refused number) = record { row = row_refused number; next = record { at = at } }

-- the row that begins at a place
unfoldable pub row_at : List ℕ → ℕ → TakenRow
row_at s at = taken_row at (row_from (drop at s))

-- What the code answers, with the paper's number

abbrev pub sizes_ok : z.Sizes → Sizes
sizes_ok z = record { refusal = 0; f = z.f; h = z.h; height = z.height }

abbrev pub sizes_said : Result z.Sizes Refusal → Sizes
sizes_said (Ok z) = sizes_ok z
sizes_said (Err e) = record { refusal = number_of e; f = 0; h = 0; height = 0 }

abbrev pub row_ok : r.Row → Row
row_ok r = record { refusal = 0; count = r.count; tasks = r.tasks; jobs = r.jobs }

-- the row k of a table: 15 where there is none
abbrev pub row_said : Option r.Row → Row
row_said (Some r) = row_ok r
row_said None = row_refused 15

abbrev pub table_said : Result (z.Sizes × Option r.Row) Refusal → TableRead
table_said (Ok p) = record { sizes = sizes_ok p.0; row = row_said p.1 }
table_said (Err e) = record { sizes = sizes_said (Err e); row = row_refused (number_of e) }

-- the row at a place: 12 where there is none, and the cursor stays
abbrev pub taken_said : ℕ → Option (r.Row × Cursor) → TakenRow
taken_said at (Some p) = record { row = row_ok p.0; next = p.1 }
taken_said at None = record { row = row_refused 12; next = record { at = at } }

-- the entries that the places of a row say
abbrev pub entries_said : Row → List Entry
entries_said r = map (λ p. entry_of (get_or r.tasks p 0) (get_or r.jobs p 0)) (range 0 r.count)
