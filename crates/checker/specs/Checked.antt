-- The check, in the words of 01's "Checking" and "A plan": what it answers to a request's cycle and a decoded table.
use Rattle.std.specs.Prelude.{ℕ, ◌+◌, Bool, true, cond, ◌&&◌, Option, Some, None, List, [], ◌∷◌, map, length, get_or, eqb}
use Rattle.cycle.specs.Cycle.{Cycle, cycle, no_cycle, cycle_of}
use Rattle.cycle.specs.Planned.{no_job}
use Rattle.cycle.specs.declared.Job.{Job}
use Rattle.table.specs.Table.{Entry, Table, Decoded, table, malformed, decode}
use Rattle.model.specs.Plan.{Instance}
use Rattle.model.specs.Named.{is_job}
use Rattle.model.specs.Plausible.{plausible}
use Rattle.model.specs.Answers.{instance}
use Rattle.plan_rules.specs.Every.{every, some}
use Rattle.plan_rules.specs.Rules.{rules_right}

-- the row of a job's entry, and its carry
abbrev pub Position : Type 0
Position = Option (ℕ × Bool)

-- "For each job it walks the rows, and in each row its entries, and stops at the first entry naming the job.": the entries of row r
unfoldable pub position_in_row : Job → ℕ → List Entry → Position
position_in_row job r [] = None
position_in_row job r (e ∷ es) = cond (is_job e.task e.number job) (Some (r, e.carried)) (position_in_row job r es)

abbrev pub or_else : Position → Position → Position
or_else (Some (r, carried)) next = Some (r, carried)
or_else None next = next

-- the rows from row r on
unfoldable pub position_in : Job → ℕ → List (List Entry) → Position
position_in job r [] = None
position_in job r (es ∷ rows) = or_else (position_in_row job r es) (position_in job (r + 1) rows)

-- "k may reach F or beyond; the job then stands in row k mod F with carry": the frame of row r of F, with carry or without
unfoldable pub frame_for : ℕ → ℕ → Bool → ℕ
frame_for rows r carried = r + cond carried rows 0

-- For each case of a place its frame and its number: the job stands in row r of F; or "a missing job" breaks the plan, which is 14.
abbrev pub frame_at_position : ℕ → Position → ℕ
frame_at_position rows (Some (r, carried)) = frame_for rows r carried
frame_at_position rows None = 0

abbrev pub position_number : Position → ℕ
position_number (Some (r, carried)) = 0
position_number None = 14

abbrev pub is_found : Position → Bool
is_found p = eqb (position_number p) 0

-- the frame that the rows give a job
unfoldable pub frame_in : List (List Entry) → Job → ℕ
frame_in rows job = frame_at_position (length rows) (position_in job 0 rows)

unfoldable pub frames_in : List (List Entry) → List Job → List ℕ
frames_in rows jobs = map (frame_in rows) jobs

-- no "missing job": the job at place y has an entry
unfoldable pub is_placed : List (List Entry) → List Job → ℕ → Bool
is_placed rows jobs y = is_found (position_in (get_or jobs y no_job) 0 rows)

-- The frames of jobs, by place: n jobs, F rows.
module _ (jobs : List Job) (frames : List ℕ) where
  -- the job at place y is job `number` of the task, and its frame is k
  unfoldable pub is_there : ℕ → ℕ → ℕ → ℕ → Bool
  is_there task number k y = is_job task number (get_or jobs y no_job) && eqb (get_or frames y 0) k

  module _ (n : ℕ) where
    -- "An entry for a job that does not exist breaks the plan, as does .. a second entry for one, or a wrong carry bit.": so each entry, in row
    -- r, is that of a job in its frame
    unfoldable pub entry_kept : ℕ → ℕ → Entry → Bool
    entry_kept rows r e = some n (is_there e.task e.number (frame_for rows r e.carried))

    unfoldable pub row_kept : ℕ → ℕ → List Entry → Bool
    row_kept rows r [] = true
    row_kept rows r (e ∷ es) = entry_kept rows r e && row_kept rows r es

    -- the entries of the rows from row r on
    unfoldable pub rows_kept : ℕ → ℕ → List (List Entry) → Bool
    rows_kept rows r [] = true
    rows_kept rows r (es ∷ left) = row_kept rows r es && rows_kept rows (r + 1) left

-- "in each row exactly the plan's entries, carry bits included"
unfoldable pub entries_right : Instance → List (List Entry) → List ℕ → Bool
entries_right x rows frames = every (length x.jobs) (is_placed rows x.jobs) && rows_kept x.jobs frames (length x.jobs) (length rows) 0 rows

-- the frame length and the frames read, by job in planning order; or the number of the refusal
pub data Verdict : Type 0 where
  accepted : ℕ → List ℕ → Verdict
  refusal : ℕ → Verdict

-- 14: "not a plan"
unfoldable pub plan_of : Instance → ℕ → List (List Entry) → Verdict
plan_of x f rows =
    let frames = frames_in rows x.jobs in
    cond (entries_right x rows frames && rules_right x (length rows) f frames) (accepted f frames) (refusal 14)

-- 13: "H not the request's, or f not plausible", where `test` tells which f are
unfoldable pub judged_by : (Instance → ℕ → Bool) → Instance → Table → Verdict
judged_by test x t = cond (eqb t.h x.h && test x t.f) (plan_of x t.f t.rows) (refusal 13)

abbrev pub judged : Instance → Table → Verdict
judged = judged_by plausible

-- "the check 1 to 8 then 12 to 14": 12 for a table that has not the form
unfoldable pub checked_by : (Instance → ℕ → Bool) → Cycle → Decoded → Verdict
checked_by test (no_cycle number) d = refusal number
checked_by test (cycle tasks pairs g h jobs) malformed = refusal 12
checked_by test (cycle tasks pairs g h jobs) (table t) = judged_by test (instance tasks pairs g h jobs) t

abbrev pub checked : Cycle → Decoded → Verdict
checked = checked_by plausible

-- 0 where it accepts
abbrev pub verdict_number : Verdict → ℕ
verdict_number (accepted f frames) = 0
verdict_number (refusal number) = number

-- what `check` answers to the bytes of a request and of a table
abbrev pub check_number : List ℕ → List ℕ → ℕ
check_number request bytes = verdict_number (checked (cycle_of request) (decode bytes))
