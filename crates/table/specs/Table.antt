-- A table, its bytes, and what of the one is the other: 01, "Table file".
use Rattle.std.specs.Prelude.{ℕ, zero, suc, ◌+◌, ◌*◌, ◌%◌, Bool, cond, ◌&&◌, length, get_or, leb, ltb, eqb}
use mathlib.Core.List.{List, [], ◌∷◌, ◌++◌, flat_map}
use Rattle.cursor.specs.Parsed.{Parsed, got, refused, then, records}
use Rattle.cursor.specs.Fields.{byte_of, word_of, word_bytes}

pub record Entry : Type 0 where
  pub task : ℕ
  pub number : ℕ
  pub carried : Bool

-- F is the number of the rows
pub record Table : Type 0 where
  pub f : ℕ
  pub h : ℕ
  pub rows : List (List Entry)

pub data Decoded : Type 0 where
  table : Table → Decoded
  malformed : Decoded

-- "a job byte: bits 0 to 6 the job j, bit 7 carry"
abbrev pub job_bits : ℕ → Bool → ℕ
job_bits number carried = number + cond carried 128 0

abbrev pub number_in : ℕ → ℕ
number_in byte = byte % 128

abbrev pub carried_in : ℕ → Bool
carried_in byte = leb 128 byte

unfoldable pub job_byte : Entry → ℕ
job_byte e = job_bits e.number e.carried

unfoldable pub entry_of : ℕ → ℕ → Entry
entry_of task byte = record { task = task; number = number_in byte; carried = carried_in byte }

-- "An entry is a task byte 0 to 15 and a job byte"; its task is at least `low`
unfoldable pub entry_from : ℕ → List ℕ → Parsed Entry
entry_from low bytes =
    then (byte_of 12 bytes) (λ task rest.
    cond (leb low task && ltb task 16)
    (then (byte_of 12 rest) (λ byte rest. got (entry_of task byte) rest))
    (refused 12))

-- "Entries rise strictly by task": k are left behind those in `done`, and the next has a task of at least `low`
unfoldable pub entries_from : ℕ → ℕ → List Entry → List ℕ → Parsed (List Entry)
entries_from zero low done bytes = got done bytes
entries_from (suc k) low done bytes = then (entry_from low bytes) (λ e rest. entries_from k (e.task + 1) (done ++ (e ∷ [])) rest)

-- "for each row a byte count 0 to 16 and that many entries"
unfoldable pub row_from : List ℕ → Parsed (List Entry)
row_from bytes = then (byte_of 12 bytes) (λ count rest. cond (leb count 16) (entries_from count 0 [] rest) (refused 12))

pub record Lengths : Type 0 where
  pub f : ℕ
  pub h : ℕ

-- "Sizes: the byte 02, then f and H as u16", "1 ≤ H ≤ 10,000"
unfoldable pub sizes_from : List ℕ → Parsed Lengths
sizes_from bytes =
    then (byte_of 12 bytes) (λ mark rest.
    cond (eqb mark 2)
    (then (word_of 12 rest) (λ f rest.
    then (word_of 12 rest) (λ h rest.
    cond (leb 1 h && leb h 10000) (got (record { f = f; h = h }) rest) (refused 12))))
    (refused 12))

-- "1 ≤ F ≤ 256, F·f = H"
unfoldable pub height_fits : ℕ → Lengths → Bool
height_fits height z = leb 1 height && (leb height 256 && eqb (height * z.f) z.h)

-- the rows, with the sizes
abbrev pub tabled : Lengths → Parsed (List (List Entry)) → Parsed Table
tabled z read = then read (λ rows rest. got (record { f = z.f; h = z.h; rows = rows }) rest)

-- "Rows: F as u16, then for each row .."
unfoldable pub rows_from : Lengths → List ℕ → Parsed Table
rows_from z bytes =
    then (word_of 12 bytes) (λ height rest. cond (height_fits height z) (tabled z (records row_from height [] rest)) (refused 12))

-- "no bytes follow"
abbrev pub whole_table : Parsed Table → Decoded
whole_table (got t []) = table t
whole_table (got t (b ∷ rest)) = malformed
whole_table (refused n) = malformed

unfoldable pub decode : List ℕ → Decoded
decode bytes = whole_table (then (sizes_from bytes) rows_from)

unfoldable pub entries_bytes : List Entry → List ℕ
entries_bytes [] = []
entries_bytes (e ∷ es) = e.task ∷ job_byte e ∷ entries_bytes es

unfoldable pub row_bytes : List Entry → List ℕ
row_bytes es = length es ∷ entries_bytes es

abbrev pub rows_bytes : List (List Entry) → List ℕ
rows_bytes rows = flat_map row_bytes rows

-- the sizes and F
unfoldable pub head_bytes : ℕ → ℕ → ℕ → List ℕ
head_bytes f h height = 2 ∷ word_bytes f ++ word_bytes h ++ word_bytes height

unfoldable pub encode : Table → List ℕ
encode t = head_bytes t.f t.h (length t.rows) ++ rows_bytes t.rows

-- the row k; none behind the last
abbrev pub row_of : Table → ℕ → List Entry
row_of t k = get_or t.rows k []
