-- What filling answers and leaves, exactly, for all byte strings and every lent list.
use Rattle.std.specs.Prelude.{ℕ, ◌≤◌, ◌<◌, ◌≡◌, ◌↔◌, List, length, get_or, take}
use Rattle.cursor.specs.Fields.{Bytes}
use Rattle.cycle.specs.Planned.{InPlanningOrder}
use Rattle.table.specs.Table.{Table}
use Rattle.table.specs.TableBytes.{SaysTable}
use Rattle.model.specs.Plan.{Instance, job_at, frame_at, IsPlan}
use Rattle.model.specs.Within.{Within}
use Rattle.model.specs.Described.{Describes, Accepted}
use Rattle.checker.specs.Checked.{check_number}
use Rattle.checker.specs.Exactly.{OfBoth}
use Rattle.job_records.specs.declared.JobRecord.{JobRecord}
use Rattle.job_records.specs.Numbered.{RecordsFilled}
use Rattle.job_records.specs.Timeline.{record_of, no_record, filling, filled_answer, filled_records, busy_of, rows_busy}

module _ (request bytes : List ℕ) (lent : List JobRecord) where
  abbrev pub answer : RecordsFilled
  answer = filled_answer (filling request bytes (length lent))

  abbrev pub after : List JobRecord
  after = filled_records (filling request bytes (length lent)) lent

  -- "for a request and an accepted table the first ones are filled in planning order, one for each job"
  pub record FilledFor (x : Instance) (t : Table) : Type 0 where
    -- the plan that the table describes: window, carry and row of each frame k
    pub frames : List ℕ
    pub is_plan : IsPlan x t.f frames
    pub describes : Describes x t.f frames t
    -- every job of the cycle exactly once, by release and then task number
    pub in_order : InPlanningOrder x.tasks x.h x.jobs
    pub each_filled : (y : ℕ) → y < length x.jobs → get_or after y no_record ≡ record_of (job_at x y) (frame_at frames y)
    -- "the answer holds their number"
    pub number_is : answer ≡ record { refusal = 0; count = length x.jobs }
    -- "and records behind them keep their content"
    pub behind_kept : (y : ℕ) → length x.jobs ≤ y → get_or after y no_record ≡ get_or lent y no_record
    pub as_many : length after ≡ length lent
    -- "B is the sum of C over the printed jobs and equals the busy ticks of all rows added up"
    pub busy_is : busy_of x.tasks (take answer.count after) ≡ rows_busy x.tasks t.rows

  pub record FillExact : Type 0 where
    -- "A list too short gives 11, after 14.": the check's numbers first
    pub check_first : (check_number request bytes ≡ 0 → ⊥) → answer.refusal ≡ check_number request bytes
    pub eleven : (answer.refusal ≡ 11) ↔ OfBoth request bytes (λ x t. Accepted x t × (length lent < length x.jobs))
    pub filled : (answer.refusal ≡ 0) ↔ OfBoth request bytes (λ x t. Accepted x t × (length x.jobs ≤ length lent))
    pub filled_for : (x : Instance) → Within request x → (t : Table) → SaysTable bytes t → answer.refusal ≡ 0 → FilledFor x t
    -- "A refusal returns its number, length 0 .. and the buffer untouched."
    pub refused_none : (answer.refusal ≡ 0 → ⊥) → answer.count ≡ 0
    pub refused_still : (answer.refusal ≡ 0 → ⊥) → after ≡ lent

-- for all byte strings and every lent list
abbrev pub TimelineExact : Type 0
TimelineExact = (request bytes : List ℕ) → Bytes bytes → (lent : List JobRecord) → FillExact request bytes lent
