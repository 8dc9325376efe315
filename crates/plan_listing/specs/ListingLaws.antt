-- The laws by which the listing of a table is put: a turn of each loop and its end, what the readers of the table and of the request give for it.
use Rattle.std.specs.Prelude.{ℕ, ◌+◌, ◌-◌, ◌%◌, ◌≤◌, ◌<◌, ◌≡◌, refl, Bool, true, false, cond, ltb, length, drop, get_or}
use Rattle.std.proofs.Common.{sym, ap, ◌∙◌, arith, drop_of_length-le, drop-cons, ltb-false}
use mathlib.Core.List.{List, [], ◌∷◌, ◌++◌}
use Rattle.std.proofs.Math.Numerals.{add-one}
use Rattle.std.proofs.Math.ListN.{get_or-eq_default}
use Rattle.cursor.specs.Fields.{Bytes}
use Rattle.cursor.specs.Padded.{padded}
use Rattle.cursor.specs.PaddedLaws.{padded_none, padded_length, get_or_padded_any}
use Rattle.request.specs.Request.{Reading, readable, unreadable, reading, no_task}
use Rattle.request.specs.ReadableLaws.{readable_kept}
use Rattle.request.specs.Answers.{request_answered}
use Rattle.request.specs.declared.Task.{Task}
use Rattle.request.specs.Numbered.{Request}
use Rattle.table.specs.Table.{Entry, Table, Decoded, table, malformed, decode, entry_of, row_of}
use Rattle.table.specs.Inverse.{decode_wellformed}
use Rattle.table.specs.EntryLaws.{task_of_byte, number_of_byte}
use Rattle.table.specs.RisingLaws.{row_rises, row_few}
use Rattle.table.specs.Answers.{sizes_of, row_given, row_answer, row_at, entries_said}
use Rattle.table.specs.AnswerLaws.{entries_at, entries_more, entries_none, entries_given, given_count, given_refusal, row_answered_lem}
use Rattle.table.specs.RowsLeft.{RowsLeft, row_there, rows_go_on}
use Rattle.table.specs.Answers.{Sizes}
use Rattle.table.specs.Answers.{TakenRow}
use Rattle.table.specs.Answers.{Row}
use Rattle.text.specs.Text.{ascii, decimal_of, Filled, put_all_of}
use Rattle.text.specs.TextLaws.{put_none, put_append}
use Rattle.plan_listing.specs.Listing.{head_line, busy_ticks, named, each, row_line, row_lines, table_lines, tasks_in}
use Rattle.plan_listing.specs.Answers.{table_in, ticks_in}

-- behind 16 places there is no task
pub ticks_are : (tasks : List Task) (task : ℕ) → length tasks ≡ 16 → ticks_in tasks task ≡ (get_or tasks task no_task).c
unfolding ticks_in
ticks_are tasks task all = go (ltb task 16) refl
  where
    go : (b : Bool) → ltb task 16 ≡ b → cond b (get_or tasks task no_task).c 0 ≡ (get_or tasks task no_task).c
    go true e = refl
    go false e = ap (λ (x : Task). x.c) (sym (get_or-eq_default tasks no_task (omega (arith, ltb-false task 16 e))))

-- the name of an entry, by its two bytes
pub named_bytes : (task byte : ℕ) → named (entry_of task byte) ≡ ascii " " ++ decimal_of task ++ ascii "." ++ decimal_of (byte % 128)
unfolding named
named_bytes task byte = rw (task_of_byte task byte, number_of_byte task byte)

-- A row's entries, in n places

module _ (tasks jobs : List ℕ) (n i : ℕ) where
  pub entries_turn : (one : Entry → List ℕ) (x : Filled) → i < n
      → put_all_of (put_all_of x (one (entry_of (get_or tasks i 0) (get_or jobs i 0)))) (each one (entries_at tasks jobs (n - (i + 1)) (i + 1)))
      ≡ put_all_of x (each one (entries_at tasks jobs (n - i) i))
  unfolding each
  entries_turn one x h = rw (entries_more tasks jobs n i h) (sym (put_append x _ _))

  pub entries_end : (one : Entry → List ℕ) (x : Filled) → n ≤ i → put_all_of x (each one (entries_at tasks jobs (n - i) i)) ≡ x
  unfolding each
  entries_end one x h = rw (entries_none tasks jobs n i h) (put_none x)

  pub busy_turn : (costs : List Task) → i < n
      → (get_or costs (get_or tasks i 0) no_task).c + busy_ticks costs (entries_at tasks jobs (n - (i + 1)) (i + 1)) ≡ busy_ticks costs (entries_at tasks jobs (n - i) i)
  unfolding busy_ticks
  busy_turn costs h = rw (entries_more tasks jobs n i h, task_of_byte (get_or tasks i 0) (get_or jobs i 0))

  pub busy_end : (costs : List Task) → n ≤ i → busy_ticks costs (entries_at tasks jobs (n - i) i) ≡ 0
  unfolding busy_ticks
  busy_end costs h = rw (entries_none tasks jobs n i h)

-- The rows

module _ (tasks : List Task) (rows : List (List Entry)) (k : ℕ) (x : Filled) where
  pub rows_turn : k < length rows → put_all_of (put_all_of x (row_line tasks k (get_or rows k []))) (row_lines tasks (k + 1) (drop (k + 1) rows)) ≡ put_all_of x (row_lines tasks k (drop k rows))
  unfolding row_lines
  rows_turn h = rw (drop-cons rows k [] h, add-one k) (sym (put_append x _ _))

  pub rows_end : length rows ≤ k → put_all_of x (row_lines tasks k (drop k rows)) ≡ x
  unfolding row_lines
  rows_end h = rw (drop_of_length-le rows h) (put_none x)

-- the reader's row k holds the entries of row k
pub record RowRead (bytes : List ℕ) (k : ℕ) (row : Row) : Type 0 where
  pub few : row.count ≤ 16
  pub entries : entries_said row ≡ row_of (table_in (decode bytes)) k

row_read : (bytes : List ℕ) (k : ℕ) (row : Row) → row ≡ row_answer k (decode bytes) → k < length (table_in (decode bytes)).rows → RowRead bytes k row
row_read bytes k row e h = go (decode bytes) refl h
  where
    go : (d : Decoded) → decode bytes ≡ d → k < length (table_in d).rows → RowRead bytes k row
    go (table t) is below =
        let given : row ≡ row_given (row_of t k) = e ∙ row_answered_lem bytes t k is below in
        let form = decode_wellformed bytes t is in
        record { few = rw (given, given_count (row_of t k)) (row_few t k form); entries = rw (given, is) (entries_given (row_of t k) (row_rises t k form)) }
    go malformed is below = absurd (omega arith)

-- the row that begins at the cursor is row k, and behind it begins the next
pub row_taken : (bytes : List ℕ) (at k : ℕ) → RowsLeft bytes at k → Bytes bytes → (r : TakenRow) → r ≡ row_at bytes at
    → k < length (table_in (decode bytes)).rows → RowRead bytes k r.row × RowsLeft bytes r.next.at (k + 1)
row_taken bytes at k so are r e h = go (decode bytes) refl h
  where
    go : (d : Decoded) → decode bytes ≡ d → k < length (table_in d).rows → RowRead bytes k r.row × RowsLeft bytes r.next.at (k + 1)
    go (table t) is below = (row_read bytes k r.row (row_there bytes at k so are t is below r e) h, rows_go_on bytes at k so are t is below r e)
    go malformed is below = absurd (omega arith)

-- and it is there
pub row_here : (bytes : List ℕ) (at k : ℕ) → RowsLeft bytes at k → Bytes bytes → (r : TakenRow) → r ≡ row_at bytes at
    → k < length (table_in (decode bytes)).rows → r.row.refusal ≡ 0
row_here bytes at k so are r e h = go (decode bytes) refl h
  where
    go : (d : Decoded) → decode bytes ≡ d → k < length (table_in d).rows → r.row.refusal ≡ 0
    go (table t) is below = rw (row_there bytes at k so are t is below r e ∙ row_answered_lem bytes t k is below) (given_refusal (row_of t k))
    go malformed is below = absurd (omega arith)

-- The request's tasks and the table's sizes

-- what the reader says of the sizes
pub record SizesRead (t : Table) (z : Sizes) : Type 0 where
  pub f_is : z.f ≡ t.f
  pub h_is : z.h ≡ t.h
  pub height_is : z.height ≡ length t.rows
  pub few : length t.rows ≤ 256

pub sizes_read : (bytes : List ℕ) (z : Sizes) → z ≡ sizes_of (decode bytes) → SizesRead (table_in (decode bytes)) z
unfolding sizes_of
sizes_read bytes z e = go (decode bytes) refl e
  where
    go : (d : Decoded) → decode bytes ≡ d → z ≡ sizes_of d → SizesRead (table_in d) z
    go (table t) is q = record {
      f_is = ap (λ (y : Sizes). y.f) q;
      h_is = ap (λ (y : Sizes). y.h) q;
      height_is = ap (λ (y : Sizes). y.height) q;
      few = (decode_wellformed bytes t is).few_rows;
    }
    go malformed is q = record { f_is = ap (λ (y : Sizes). y.f) q; h_is = ap (λ (y : Sizes). y.h) q; height_is = ap (λ (y : Sizes). y.height) q; few = omega arith }

-- where it refuses there is no table
pub sizes_refused_lem : (bytes : List ℕ) (z : Sizes) → z ≡ sizes_of (decode bytes) → (z.refusal ≡ 0 → ⊥) → (z.refusal ≡ 12) × (decode bytes ≡ malformed)
unfolding sizes_of
sizes_refused_lem bytes z e ne = go (decode bytes) refl e
  where
    go : (d : Decoded) → decode bytes ≡ d → z ≡ sizes_of d → (z.refusal ≡ 12) × (decode bytes ≡ malformed)
    go (table t) is q = absurd (ne (ap (λ (y : Sizes). y.refusal) q))
    go malformed is q = (ap (λ (y : Sizes). y.refusal) q, is)

-- an array that holds the tasks gives the same lines
busy_padded : (size : ℕ) (tasks : List Task) (es : List Entry) → busy_ticks (padded size no_task tasks) es ≡ busy_ticks tasks es
unfolding busy_ticks
busy_padded size tasks [] = refl
busy_padded size tasks (e ∷ es) = rw (get_or_padded_any size no_task tasks e.task, busy_padded size tasks es)

rows_padded : (size : ℕ) (tasks : List Task) (k : ℕ) (rows : List (List Entry)) → row_lines (padded size no_task tasks) k rows ≡ row_lines tasks k rows
unfolding row_lines row_line
rows_padded size tasks k [] = refl
rows_padded size tasks k (es ∷ rows) = rw (busy_padded size tasks es, rows_padded size tasks (k + 1) rows)

module _ (bytes : List ℕ) (r : Request) (e : r ≡ request_answered (reading bytes)) where
  pub tasks_are : r.tasks ≡ padded 16 no_task (tasks_in (reading bytes))
  tasks_are = go (reading bytes) e
    where
      go : (x : Reading) → r ≡ request_answered x → r.tasks ≡ padded 16 no_task (tasks_in x)
      go (readable tasks pairs g) q = ap (λ (y : Request). y.tasks) q
      go (unreadable number) q = ap (λ (y : Request). y.tasks) q ∙ sym (padded_none 16 no_task)

  pub tasks_size : length r.tasks ≡ 16
  tasks_size = ap length tasks_are ∙ padded_length 16 no_task (tasks_in (reading bytes)) (go (reading bytes) refl)
    where
      go : (x : Reading) → reading bytes ≡ x → length (tasks_in x) ≤ 16
      go (readable tasks pairs g) is = (readable_kept bytes tasks pairs g is).few_tasks
      go (unreadable number) is = omega arith

  pub table_lines_lem : (t : Table) (z : Sizes) → SizesRead t z
      → head_line z.f z.h z.height ++ row_lines r.tasks 0 t.rows ≡ table_lines (tasks_in (reading bytes)) t
  unfolding table_lines
  table_lines_lem t z is = rw (is.f_is, is.h_is, is.height_is, tasks_are, rows_padded 16 (tasks_in (reading bytes)) 0 t.rows)
