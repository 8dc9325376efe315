-- Which answer each of the four calls gives, exactly, for all byte strings and all drafts, damaged ones too. 02, R-10.
use Rattle.std.specs.Prelude.{ℕ, ◌+◌, ◌*◌, ◌≤◌, ◌<◌, ◌≡◌, ◌↔◌, ◌⊎◌, List, ◌++◌, cond, length, set, take, drop, eqb}
use Rattle.cursor.specs.Fields.{Bytes}
use Rattle.cursor.specs.Written.{Written}
use Rattle.cycle.specs.Cycle.{no_cycle, cycle_of}
use Rattle.table.specs.Table.{Table, encode, decode}
use Rattle.table.specs.TableBytes.{SaysTable}
use Rattle.search.specs.Placing.{row_sum}
use Rattle.model.specs.Plan.{Instance, job_at, rows_at, costs, frame_at, InWindow, IsPlan}
use Rattle.model.specs.Within.{Within}
use Rattle.model.specs.Described.{Describes}
use Rattle.checker.specs.Checked.{accepted, checked, check_number}
use Rattle.plan_writer.specs.Outcome.{outcome_answer, outcome_buffer}
use Rattle.draft.specs.Draft.{lifted, frame_of, load_at, frames_held, row_count, sum_of, row_in, cost_at, no_draft, start, lift, put, write}
use Rattle.draft.specs.Kept.{Sized, IsLifted, IsPlaced, LinkedBy, Sound}
use Rattle.draft.specs.declared.Draft.{Draft}

-- What a row's sum is

-- no job is lifted
abbrev pub AllPlaced : Instance → Draft → Type 0
AllPlaced x d = (y : ℕ) → y < length x.jobs → IsPlaced x d y

-- It is 0 where all jobs are lifted, the plan's where none is; and one job put from nowhere into frame k adds its C + g to the row of k alone. So by every way
-- from the one to the other it is the sum over the jobs placed in the row, each once.
pub record SumMeans (x : Instance) (d : Draft) : Type 0 where
  pub none : ((y : ℕ) → y < length x.jobs → IsLifted x d y) → (r : ℕ) → sum_of x d r ≡ 0
  pub all : AllPlaced x d → (r : ℕ) → sum_of x d r ≡ row_sum (row_count x d) (costs x) (frames_held x d) r
  pub one_more : (e : Draft) (y k r : ℕ) → IsLifted x d y → (k ≡ lifted → ⊥) → e.f ≡ d.f → e.frames ≡ set d.frames y k
      → sum_of x e r ≡ sum_of x d r + cond (eqb (row_in x d k) r) (cost_at x d y) 0

abbrev pub SumTheorem : Type 0
SumTheorem = (request : List ℕ) (x : Instance) → Within request x → (d : Draft) → Sized d → SumMeans x d

-- A sound draft with no job lifted is a plan of its frame length and frames, with that plan's loads; and the other way round.
abbrev pub PlanHeld : Instance → Draft → Type 0
PlanHeld x d = IsPlan x d.f (frames_held x d)
    × ((r : ℕ) → r < row_count x d → load_at x d r ≡ row_sum (row_count x d) (costs x) (frames_held x d) r)

abbrev pub PlanTheorem : Type 0
PlanTheorem = (request : List ℕ) (x : Instance) → Within request x → (d : Draft) → Sized d → (Sound x d × AllPlaced x d) ↔ PlanHeld x d

-- the request is within the limits, and `Claim` holds of what is planned for it
abbrev pub OfInstance : List ℕ → (Instance → Type 0) → Type 0
OfInstance request Claim = (x : Instance) × Within request x × Claim x

-- Starting

-- the draft of the plan of frame length f with these frames
pub record DraftOf (x : Instance) (f : ℕ) (frames : List ℕ) (d : Draft) : Type 0 where
  pub f_is : d.f ≡ f
  pub sized : Sized d
  pub frames_are : (y : ℕ) → y < length x.jobs → frame_of x d y ≡ frame_at frames y
  -- "Unused places start as frame 0 and load 0"
  pub unused_jobs : (y : ℕ) → length x.jobs ≤ y → frame_of x d y ≡ 0
  -- "the load of each row, counted as C + g": a plan's own sum
  pub loads_are : (r : ℕ) → r < rows_at x f → load_at x d r ≡ row_sum (rows_at x f) (costs x) frames r
  pub unused_rows : (r : ℕ) → rows_at x f ≤ r → load_at x d r ≡ 0

-- the plan that the table describes, and its draft
pub record StartedFrom (request bytes : List ℕ) (d : Draft) : Type 0 where
  pub x : Instance
  pub within : Within request x
  pub t : Table
  pub says : SaysTable bytes t
  pub frames : List ℕ
  pub is_plan : IsPlan x t.f frames
  pub describes : Describes x t.f frames t
  pub is_draft_of : DraftOf x t.f frames d
  pub sound : Sound x d
  pub all_placed : AllPlaced x d

pub record StartExact (request bytes : List ℕ) : Type 0 where
  -- "Starting a draft refuses as the check does"
  pub as_the_check : (start request bytes).refusal ≡ check_number request bytes
  -- "and then gives frame length 0 and unused places only"
  pub refused : (check_number request bytes ≡ 0 → ⊥) → (start request bytes).draft ≡ no_draft
  -- "A draft starts from an accepted table"
  pub started : check_number request bytes ≡ 0 → StartedFrom request bytes (start request bytes).draft

abbrev pub StartTheorem : Type 0
StartTheorem = (request bytes : List ℕ) → Bytes bytes → StartExact request bytes

-- "either touches one job and one row": job y and row r alone; all other places, unused ones too, are as they were
pub record Touched (x : Instance) (d e : Draft) (y r : ℕ) : Type 0 where
  pub same_f : e.f ≡ d.f
  pub sized : Sized e
  pub other_jobs : (z : ℕ) → (z ≡ y → ⊥) → frame_of x e z ≡ frame_of x d z
  pub other_rows : (s : ℕ) → (s ≡ r → ⊥) → load_at x e s ≡ load_at x d s

-- Lifting job y

-- "an unknown job"
abbrev pub Unknown : Instance → ℕ → Type 0
Unknown x y = length x.jobs ≤ y

-- "A lift marks its job lifted": its row has its C + g less
pub record Lifted (x : Instance) (d : Draft) (y : ℕ) (e : Draft) : Type 0 where
  pub touched : Touched x d e y (row_in x d (frame_of x d y))
  pub now_up : frame_of x e y ≡ lifted
  pub load_less : load_at x e (row_in x d (frame_of x d y)) + cost_at x d y ≡ load_at x d (row_in x d (frame_of x d y))
  pub sound : Sound x e

pub record LiftExact (request : List ℕ) (d : Draft) (y : ℕ) : Type 0 where
  -- "first refuses it by its own numbers, 7 and 8 included"
  pub own_number : (number : ℕ) → cycle_of request ≡ no_cycle number → (lift request d y).refusal ≡ number
  -- 26: a draft that is not sound, "an unknown job, a lift of a lifted job"
  pub twenty_six : ((lift request d y).refusal ≡ 26) ↔ OfInstance request (λ x. (Sound x d → ⊥) ⊎ (Unknown x y ⊎ IsLifted x d y))
  pub lifts : ((lift request d y).refusal ≡ 0) ↔ OfInstance request (λ x. Sound x d × IsPlaced x d y)
  pub after : (lift request d y).refusal ≡ 0 → OfInstance request (λ x. Lifted x d y (lift request d y).draft)
  -- 01: "A refusal returns its number, .. the state unchanged"
  pub unchanged : ((lift request d y).refusal ≡ 0 → ⊥) → (lift request d y).draft ≡ d

-- Putting job y into frame k

-- not "a frame outside the window"
abbrev pub InItsWindow : Instance → Draft → ℕ → ℕ → Type 0
InItsWindow x d y k = InWindow d.f (job_at x y).release (job_at x y).due k

-- "a row over f": with the job's C + g
abbrev pub RowOver : Instance → Draft → ℕ → ℕ → Type 0
RowOver x d y k = d.f < sum_of x d (row_in x d k) + cost_at x d y

-- "a pair out of order with a placed job", on either side of the pair
abbrev pub OutOfOrder : Instance → Draft → ℕ → ℕ → Type 0
OutOfOrder x d y k = (u : ℕ) × (z : ℕ) × IsPlaced x d z
    × ((LinkedBy x u y z × (frame_of x d z < k)) ⊎ (LinkedBy x u z y × (k < frame_of x d z)))

pub record Put (x : Instance) (d : Draft) (y k : ℕ) (e : Draft) : Type 0 where
  pub touched : Touched x d e y (row_in x d k)
  -- "a put gives it the frame named"
  pub now_there : frame_of x e y ≡ k
  pub now_placed : IsPlaced x e y
  pub load_more : load_at x e (row_in x d k) ≡ load_at x d (row_in x d k) + cost_at x d y
  pub sound : Sound x e

pub record PutExact (request : List ℕ) (d : Draft) (y k : ℕ) : Type 0 where
  pub own_number : (number : ℕ) → cycle_of request ≡ no_cycle number → (put request d y k).refusal ≡ number
  -- 26: a draft that is not sound, "an unknown job, .. a put of a placed one"
  pub twenty_six : ((put request d y k).refusal ≡ 26) ↔ OfInstance request (λ x. (Sound x d → ⊥) ⊎ (Unknown x y ⊎ IsPlaced x d y))
  -- "then with 27 a frame outside the window"
  pub twenty_seven : ((put request d y k).refusal ≡ 27) ↔ OfInstance request (λ x. Sound x d × IsLifted x d y × (InItsWindow x d y k → ⊥))
  -- "then with 28 a row over f or a pair out of order with a placed job"
  pub twenty_eight : ((put request d y k).refusal ≡ 28)
      ↔ OfInstance request (λ x. Sound x d × IsLifted x d y × InItsWindow x d y k × (RowOver x d y k ⊎ OutOfOrder x d y k))
  pub puts : ((put request d y k).refusal ≡ 0)
      ↔ OfInstance request (λ x. Sound x d × IsLifted x d y × InItsWindow x d y k × (RowOver x d y k → ⊥) × (OutOfOrder x d y k → ⊥))
  pub after : (put request d y k).refusal ≡ 0 → OfInstance request (λ x. Put x d y k (put request d y k).draft)
  pub unchanged : ((put request d y k).refusal ≡ 0 → ⊥) → (put request d y k).draft ≡ d

-- Writing

-- how many bytes the table has
abbrev pub size_of : Instance → Draft → ℕ
size_of x d = 7 + row_count x d + 2 * length x.jobs

module _ (request : List ℕ) (d : Draft) (out : List ℕ) where
  abbrev pub write_answer : Written
  write_answer = outcome_answer (write request d) out

  abbrev pub buffer_after : List ℕ
  buffer_after = outcome_buffer (write request d) out

  -- "the table of exactly its frame length and frames, which the check accepts"
  pub record WrittenOut (x : Instance) : Type 0 where
    pub is_plan : IsPlan x d.f (frames_held x d)
    pub t : Table
    pub describes : Describes x d.f (frames_held x d) t
    pub bytes_are : buffer_after ≡ encode t ++ drop (size_of x d) out
    pub length_is : write_answer.length ≡ size_of x d
    pub encoded_length : length (encode t) ≡ size_of x d
    -- the check, of the bytes that were written: it accepts them, and reads this plan
    pub accepts : checked (cycle_of request) (decode (take write_answer.length buffer_after)) ≡ accepted d.f (frames_held x d)
    pub check_answers : check_number request (take write_answer.length buffer_after) ≡ 0

  pub record WriteExact : Type 0 where
    pub own_number : (number : ℕ) → cycle_of request ≡ no_cycle number → write_answer.refusal ≡ number
    -- 26: a draft that is not sound, "or writing while a job is lifted"
    pub twenty_six : (write_answer.refusal ≡ 26) ↔ OfInstance request (λ x. (Sound x d → ⊥) ⊎ ((y : ℕ) × IsLifted x d y))
    -- "a short buffer gives 11 last"
    pub eleven : (write_answer.refusal ≡ 11) ↔ OfInstance request (λ x. Sound x d × AllPlaced x d × (length out < size_of x d))
    pub writes : (write_answer.refusal ≡ 0) ↔ OfInstance request (λ x. Sound x d × AllPlaced x d × (size_of x d ≤ length out))
    pub written_out : write_answer.refusal ≡ 0 → OfInstance request WrittenOut
    pub untouched : (write_answer.refusal ≡ 0 → ⊥) → (write_answer.length ≡ 0) × (buffer_after ≡ out)

-- THE THEOREMS of the later calls: of every request, every draft, every job, frame and buffer
abbrev pub LiftTheorem : Type 0
LiftTheorem = (request : List ℕ) (d : Draft) → Sized d → (y : ℕ) → LiftExact request d y

abbrev pub PutTheorem : Type 0
PutTheorem = (request : List ℕ) (d : Draft) → Sized d → (y k : ℕ) → PutExact request d y k

abbrev pub WriteTheorem : Type 0
WriteTheorem = (request : List ℕ) (d : Draft) → Sized d → (out : List ℕ) → WriteExact request d out
