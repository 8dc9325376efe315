-- What `timeline` prints for a request, as bytes. 02, R-14: "A program reads a request from standard input, plans it, and prints `refused N` or the records one a
-- line, fields in that order with single spaces, then `busy B`". Each line ends in a newline, the last one too.
use Rattle.std.specs.Prelude.{ℕ, ◌≤◌, ◌≡◌, List, [], ◌∷◌, ◌++◌, length, replicate, take}
use Rattle.request.specs.Request.{reading}
use Rattle.request.specs.declared.Task.{Task}
use Rattle.cycle.specs.Cycle.{Cycle, cycle_of}
use Rattle.table.specs.Table.{Table, table, encode}
use Rattle.plan_writer.specs.Outcome as outcome
use Rattle.plan_writer.specs.Outcome.{Outcome}
use Rattle.planner.specs.Outcome.{program_outcome}
use Rattle.text.specs.Text.{ascii, decimal_of}
use Rattle.plan_listing.specs.Listing.{refused_line, tasks_in}
use Rattle.job_records.specs.Timeline.{Timeline, timeline, refusal, no_record, timeline_of, filling, filled_answer, filled_records, busy_of, rows_busy}
use Rattle.job_records.specs.declared.JobRecord.{JobRecord}
use Rattle.job_records.specs.Numbered.{RecordsFilled}

-- "fields in that order with single spaces": task, job, release, due, frame
unfoldable pub record_line : JobRecord → List ℕ
record_line r =
    decimal_of r.task ++ ascii " " ++ decimal_of r.job ++ ascii " " ++ decimal_of r.release ++ ascii " " ++ decimal_of r.due ++ ascii " " ++ decimal_of r.frame
    ++ ascii "\n"

-- "the records one a line"
unfoldable pub record_lines : List JobRecord → List ℕ
record_lines [] = []
record_lines (r ∷ rs) = record_line r ++ record_lines rs

-- "then `busy B`"
unfoldable pub busy_line : ℕ → List ℕ
busy_line b = ascii "busy " ++ decimal_of b ++ ascii "\n"

abbrev pub timeline_lines : List Task → List JobRecord → List ℕ
timeline_lines tasks rs = record_lines rs ++ busy_line (busy_of tasks rs)

abbrev pub printed_timeline : List Task → Timeline → List ℕ
printed_timeline tasks (timeline rs) = timeline_lines tasks rs
printed_timeline tasks (refusal number) = refused_line number

-- of the table that planning hands out
abbrev pub timeline_planned : Cycle → Outcome → Timeline
timeline_planned c (outcome.handed t) = timeline_of c (table t)
timeline_planned c (outcome.refusal number) = refusal number

-- "plans it": within the tries that a program allows
unfoldable pub timeline_text : List ℕ → List ℕ
timeline_text request = printed_timeline (tasks_in (reading request)) (timeline_planned (cycle_of request) (program_outcome request))

-- of a request and the table that planning hands out for it: what `fill` answers and leaves in a list of 128 records, which holds every cycle's jobs
module _ (request : List ℕ) (t : Table) where
  abbrev pub filled_all : RecordsFilled
  filled_all = filled_answer (filling request (encode t) 128)

  abbrev pub records_filled : List JobRecord
  records_filled = take filled_all.count (filled_records (filling request (encode t) 128) (replicate 128 no_record))

pub record PrintedExact (request : List ℕ) : Type 0 where
  -- "prints `refused N`": where planning is refused, and only there
  pub refused_line : (number : ℕ) → program_outcome request ≡ outcome.refusal number → timeline_text request ≡ refused_line number
  -- "or the records one a line .., then `busy B`, where B is the sum of C over the printed jobs"
  pub never_refused : (t : Table) → program_outcome request ≡ outcome.handed t → (filled_all request t).refusal ≡ 0
  pub lines_are : (t : Table) → program_outcome request ≡ outcome.handed t → timeline_text request ≡ timeline_lines (tasks_in (reading request)) (records_filled request t)
  -- "and equals the busy ticks of all rows added up": of the rows that `plan` prints
  pub busy_is : (t : Table) → program_outcome request ≡ outcome.handed t
      → busy_of (tasks_in (reading request)) (records_filled request t) ≡ rows_busy (tasks_in (reading request)) t.rows
  -- a buffer of 4,096 bytes never cuts it
  pub short : length (timeline_text request) ≤ 4096

-- for every request
abbrev pub TimelinePrinted : Type 0
TimelinePrinted = (request : List ℕ) → PrintedExact request
