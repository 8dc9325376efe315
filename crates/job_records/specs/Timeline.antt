-- The timeline: what filling a lent list of records answers, and the records afterwards. 02, R-14.
use Rattle.std.specs.Prelude.{ℕ, ◌+◌, List, [], ◌∷◌, ◌++◌, cond, length, get_or, drop, ltb}
use Rattle.request.specs.Request.{no_task}
use Rattle.request.specs.declared.Task.{Task}
use Rattle.cycle.specs.Cycle.{Cycle, cycle, no_cycle, cycle_of}
use Rattle.cycle.specs.declared.Job.{Job}
use Rattle.table.specs.Table.{Entry, Decoded, decode}
use Rattle.checker.specs.Checked as checker
use Rattle.checker.specs.Checked.{Verdict, checked}
use Rattle.plan_listing.specs.Listing.{busy_ticks}
use Rattle.job_records.specs.declared.JobRecord.{JobRecord}
use Rattle.job_records.specs.Numbered.{RecordsFilled}

-- "job records (task, job, release, due, frame)": a job, and its frame k, counted from time 0
abbrev pub record_of : Job → ℕ → JobRecord
record_of job k = record { task = job.task; job = job.number; release = job.release; due = job.due; frame = k }

-- what stands behind a list's end
abbrev pub no_record : JobRecord
no_record = record { task = 0; job = 0; release = 0; due = 0; frame = 0 }

-- "in planning order, one for each job": the jobs and their frames, both in planning order
unfoldable pub records_of : List Job → List ℕ → List JobRecord
records_of [] frames = []
records_of (job ∷ jobs) [] = []
records_of (job ∷ jobs) (k ∷ frames) = record_of job k ∷ records_of jobs frames

-- the records, or the number of the refusal
pub data Timeline : Type 0 where
  timeline : List JobRecord → Timeline
  refusal : ℕ → Timeline

-- "for a request and an accepted table": the frames are those that the check reads. Where there is no cycle, the check has refused.
abbrev pub timeline_by : Verdict → Cycle → Timeline
timeline_by (checker.refusal number) c = refusal number
timeline_by (checker.accepted f frames) (cycle tasks pairs g h jobs) = timeline (records_of jobs frames)
timeline_by (checker.accepted f frames) (no_cycle number) = refusal number

unfoldable pub timeline_of : Cycle → Decoded → Timeline
timeline_of c d = timeline_by (checked c d) c

-- of the bytes of a request and of a table
abbrev pub timeline_for : List ℕ → List ℕ → Timeline
timeline_for request bytes = timeline_of (cycle_of request) (decode bytes)

-- "A list too short gives 11, after 14.": a list with so many places
abbrev pub fitting : ℕ → Timeline → Timeline
fitting places (timeline rs) = cond (ltb places (length rs)) (refusal 11) (timeline rs)
fitting places (refusal number) = refusal number

-- what filling a lent list comes to
unfoldable pub filling : List ℕ → List ℕ → ℕ → Timeline
filling request bytes places = fitting places (timeline_for request bytes)

-- the records; a refusal fills none
abbrev pub records_in : Timeline → List JobRecord
records_in (timeline rs) = rs
records_in (refusal number) = []

-- "the answer holds their number"; "A refusal returns its number, length 0"
abbrev pub filled_answer : Timeline → RecordsFilled
filled_answer (timeline rs) = record { refusal = 0; count = length rs }
filled_answer (refusal number) = record { refusal = number; count = 0 }

-- "the first ones are filled .., and records behind them keep their content"; on a refusal all do
unfoldable pub filled_records : Timeline → List JobRecord → List JobRecord
filled_records tl lent = records_in tl ++ drop (length (records_in tl)) lent

-- "the sum of C over the printed jobs"
unfoldable pub busy_of : List Task → List JobRecord → ℕ
busy_of tasks [] = 0
busy_of tasks (r ∷ rs) = (get_or tasks r.task no_task).c + busy_of tasks rs

-- "the busy ticks of all rows added up": those of the listing
unfoldable pub rows_busy : List Task → List (List Entry) → ℕ
rows_busy tasks [] = 0
rows_busy tasks (es ∷ rows) = busy_ticks tasks es + rows_busy tasks rows
