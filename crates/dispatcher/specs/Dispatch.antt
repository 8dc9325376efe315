-- The dispatcher: its answers and its state after them, of what the bytes of a table or a request say. 01, "Dispatching".
use Rattle.std.specs.Prelude.{ℕ, ◌+◌, ◌%◌, Bool, true, false, not, cond, ◌&&◌, List, [], ◌∷◌, length, get_or, set, replicate, ltb, eqb}
use Rattle.cursor.specs.Choice.{keep}
use Rattle.request.specs.Request.{Reading, readable, unreadable, no_task}
use Rattle.request.specs.declared.Task.{Task}
use Rattle.table.specs.Table.{Entry, Decoded, table, malformed, row_of}
use Rattle.table.specs.Answers.{row_given, row_refused, entries_said}
use Rattle.table.specs.Answers.{Row}
use Rattle.dispatcher.specs.declared.State.{State}
use Rattle.dispatcher.specs.Numbered.{Frame}
use Rattle.dispatcher.specs.Numbered.{Reported}

-- "a count for each of 16 tasks" (02, R-2), each 0
abbrev pub no_overruns : List ℕ
no_overruns = replicate 16 0

-- "Fresh: row 0, mark set, count 0."
abbrev pub fresh_state : State
fresh_state = record { row = 0; first = true; counts = no_overruns }

-- "the dispatcher's row is m mod F, its mark is set exactly when m < F, and its count is v": its counts, since R-2
abbrev pub state_at : ℕ → ℕ → List ℕ → State
state_at height m v = record { row = m % height; first = ltb m height; counts = v }

-- the entries without the carried ones
unfoldable pub uncarried : List Entry → List Entry
uncarried [] = []
uncarried (e ∷ es) = keep (not e.carried) e (uncarried es)

-- "the row's entries, leaving out carried ones while the mark is set"
abbrev pub served : Bool → List Entry → List Entry
served first es = cond first (uncarried es) es

-- a row as the table reader gives it, with the state for the next call
abbrev pub framed : Row → State → Frame
framed r s = record { refusal = r.refusal; count = r.count; tasks = r.tasks; jobs = r.jobs; state = s }

-- "as a number and 16 places filled from the first in row order, each a task byte and a job byte as in the table (unused places are 0)"
abbrev pub shown : List Entry → State → Frame
shown es s = framed (row_given es) s

-- "A refusal returns its number, .. no entries, the state unchanged"
abbrev pub no_frame : ℕ → State → Frame
no_frame number s = framed (row_refused number) s

-- "the row moves on by one"
abbrev pub onward : State → State
onward s = record { row = s.row + 1; first = s.first; counts = s.counts }

-- "to 0 with the mark cleared"
abbrev pub around : State → State
around s = record { row = 0; first = false; counts = s.counts }

-- "the row moves on by one, and from the last row to 0 with the mark cleared"
unfoldable pub moved : ℕ → State → State
moved height s = cond (eqb (s.row + 1) height) (around s) (onward s)

-- 12: not a table; 15: "row not below F"
unfoldable pub next_frame : Decoded → State → Frame
next_frame (table t) s =
    cond (ltb s.row (length t.rows)) (shown (served s.first (row_of t s.row)) (moved (length t.rows) s)) (no_frame 15 s)
next_frame malformed s = no_frame 12 s

-- the ticks "exceed C"
abbrev pub exceeds : List Task → ℕ → ℕ → Bool
exceeds tasks task ticks = ltb (get_or tasks task no_task).c ticks

-- "if these exceed C the count rises by one, stopping at 65,535"
unfoldable pub raised : Bool → ℕ → ℕ
raised over count = cond over (cond (ltb count 65535) (count + 1) count) count

-- "A report raises only its own task's count." (02, R-2)
unfoldable pub raised_at : Bool → ℕ → List ℕ → List ℕ
raised_at over task counts = set counts task (raised over (get_or counts task 0))

-- "Report moves no row."
abbrev pub with_counts : List ℕ → State → State
with_counts counts s = record { row = s.row; first = s.first; counts = counts }

abbrev pub counted : Bool → ℕ → State → State
counted over task s = with_counts (raised_at over task s.counts) s

-- a report that is taken, with whether it was above C and the state after it; and one that gives its number
abbrev pub report_taken : Bool → State → Reported
report_taken over s = record { refusal = 0; over = over; state = s }

abbrev pub report_refused : ℕ → State → Reported
report_refused number s = record { refusal = number; over = false; state = s }

-- 1 to 6 and 17: not a request; 16: "task number not below n"
unfoldable pub reported : Reading → ℕ → ℕ → State → Reported
reported (readable tasks pairs g) task ticks s =
    let over = exceeds tasks task ticks in
    cond (ltb task (length tasks)) (report_taken over (counted over task s)) (report_refused 16 s)
reported (unreadable number) task ticks s = report_refused number s

-- "accepted reports above C" (02, R-2): the report is accepted, and its ticks exceed C
unfoldable pub overran : Reading → ℕ → ℕ → Bool
overran (readable tasks pairs g) task ticks = ltb task (length tasks) && exceeds tasks task ticks
overran (unreadable number) task ticks = false

-- what a frame's answer shows, and the entries that it says
abbrev pub row_shown : Frame → Row
row_shown a = record { refusal = a.refusal; count = a.count; tasks = a.tasks; jobs = a.jobs }

abbrev pub entries_of : Frame → List Entry
entries_of a = entries_said (row_shown a)
