-- What a draft keeps, as facts in the words of 02's R-10 and of 01's "A plan", over the jobs that are placed.
use Rattle.std.specs.Prelude.{ℕ, ◌+◌, ◌*◌, ◌≤◌, ◌<◌, ◌≡◌, true, ◌↔◌, List, length}
use Rattle.model.specs.Plan.{Instance, job_at, pair_at}
use Rattle.model.specs.Plausible.{plausible}
use Rattle.model.specs.Within.{Within}
use Rattle.draft.specs.Draft.{lifted, frame_of, load_at, row_count, sum_of, sound_draft}
use Rattle.draft.specs.declared.Draft.{Draft}

-- the arrays' sizes, which a value of the type has
pub record Sized (d : Draft) : Type 0 where
  pub frames_are : length d.frames ≡ 128
  pub loads_are : length d.loads ≡ 256

-- job y of the request is lifted; it is placed
pub record IsLifted (x : Instance) (d : Draft) (y : ℕ) : Type 0 where
  pub known : y < length x.jobs
  pub up : frame_of x d y ≡ lifted

pub record IsPlaced (x : Instance) (d : Draft) (y : ℕ) : Type 0 where
  pub known : y < length x.jobs
  pub down : frame_of x d y ≡ lifted → ⊥

-- jobs y and z are job j of the two tasks of pair u
pub record LinkedBy (x : Instance) (u y z : ℕ) : Type 0 where
  pub pair_known : u < length x.pairs
  pub first : (job_at x y).task ≡ (pair_at x u).a
  pub second : (job_at x z).task ≡ (pair_at x u).b
  pub same_number : (job_at x y).number ≡ (job_at x z).number

-- what 26 asks of the draft itself. Unused places are not judged.
pub record Sound (x : Instance) (d : Draft) : Type 0 where
  -- not "a draft whose frame length is not plausible"
  pub plausible_f : plausible x d.f ≡ true
  -- nor one "whose loads are not its row sums"
  pub loads_are : (r : ℕ) → r < row_count x d → load_at x d r ≡ sum_of x d r
  -- "or whose placed jobs break window, capacity or order"
  pub not_early : (y : ℕ) → IsPlaced x d y → (job_at x y).release ≤ frame_of x d y * d.f
  pub not_late : (y : ℕ) → IsPlaced x d y → (frame_of x d y + 1) * d.f ≤ (job_at x y).due
  pub capacity : (r : ℕ) → r < row_count x d → sum_of x d r ≤ d.f
  pub order : (u y z : ℕ) → LinkedBy x u y z → IsPlaced x d y → IsPlaced x d z → frame_of x d y ≤ frame_of x d z

-- The test says so, and nothing else.
abbrev pub SoundTheorem : Type 0
SoundTheorem = (request : List ℕ) (x : Instance) → Within request x → (d : Draft) → (sound_draft x d ≡ true) ↔ Sound x d
