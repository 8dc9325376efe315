-- What `plan` prints for a request, as bytes. 01, "The program `plan`": "It reads a request from standard input and prints `refused N`, or a
-- line `frame f cycle H rows F` and a line for each row: row number, busy ticks (sum of C), then its entries as task.job, a carried one followed
-- by `+`; single spaces." Each line ends in a newline, the last one too.
use Rattle.std.specs.Prelude.{ℕ, ◌+◌, List, [], ◌∷◌, ◌++◌, cond, length, get_or}
use Rattle.request.specs.Request.{Reading, readable, unreadable, reading, no_task}
use Rattle.request.specs.declared.Task.{Task}
use Rattle.table.specs.Table.{Entry, Table}
use Rattle.plan_writer.specs.Outcome.{Outcome, handed, refusal}
use Rattle.planner.specs.Outcome.{program_outcome}
use Rattle.text.specs.Text.{ascii, decimal_of}

-- "`refused N`"
unfoldable pub refused_line : ℕ → List ℕ
refused_line number = ascii "refused " ++ decimal_of number ++ ascii "\n"

-- "a line `frame f cycle H rows F`"
unfoldable pub head_line : ℕ → ℕ → ℕ → List ℕ
head_line f h height = ascii "frame " ++ decimal_of f ++ ascii " cycle " ++ decimal_of h ++ ascii " rows " ++ decimal_of height ++ ascii "\n"

-- "busy ticks (sum of C)": carried entries count
unfoldable pub busy_ticks : List Task → List Entry → ℕ
busy_ticks tasks [] = 0
busy_ticks tasks (e ∷ es) = (get_or tasks e.task no_task).c + busy_ticks tasks es

-- "as task.job", behind a space
unfoldable pub named : Entry → List ℕ
named e = ascii " " ++ decimal_of e.task ++ ascii "." ++ decimal_of e.number

-- "a carried one followed by `+`"
unfoldable pub entry_text : Entry → List ℕ
entry_text e = named e ++ cond e.carried (ascii "+") []

-- the text of each entry, one behind the other
unfoldable pub each : (Entry → List ℕ) → List Entry → List ℕ
each one [] = []
each one (e ∷ es) = one e ++ each one es

-- "row number, busy ticks (sum of C), then its entries"
unfoldable pub row_line : List Task → ℕ → List Entry → List ℕ
row_line tasks k es = decimal_of k ++ ascii " " ++ decimal_of (busy_ticks tasks es) ++ each entry_text es ++ ascii "\n"

-- "a line for each row": the first of them is row k
unfoldable pub row_lines : List Task → ℕ → List (List Entry) → List ℕ
row_lines tasks k [] = []
row_lines tasks k (es ∷ rows) = row_line tasks k es ++ row_lines tasks (k + 1) rows

unfoldable pub table_lines : List Task → Table → List ℕ
table_lines tasks t = head_line t.f t.h (length t.rows) ++ row_lines tasks 0 t.rows

-- the tasks of a request
abbrev pub tasks_in : Reading → List Task
tasks_in (readable tasks pairs g) = tasks
tasks_in (unreadable number) = []

-- what is printed for a table, or for a refusal
abbrev pub printed : List Task → Outcome → List ℕ
printed tasks (handed t) = table_lines tasks t
printed tasks (refusal number) = refused_line number

unfoldable pub listing : List ℕ → List ℕ
listing request = printed (tasks_in (reading request)) (program_outcome request)
