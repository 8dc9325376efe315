-- What a try tests, in a plan's words, in R-7's sentences: "one try is one job tested in one frame of its window, passed over or not", and "It
-- passes over a frame whose row would exceed f or that breaks a pair with a job already placed". Jobs are placed in planning order, so where
-- those already placed stand in the frames p, the job that is tested has the place `length p`. The window is a plan's: `InWindow`.
use Rattle.std.specs.Prelude.{◌≡◌, List, ℕ, ◌+◌, ◌%◌, ◌≤◌, ◌<◌, length}
use Rattle.search.specs.Placing.{row_sum}
use Rattle.model.specs.Plan.{Instance, task_at, pair_at, job_at, rows_at, slot, costs, frame_at}

-- In frame k the job at place y breaks no pair with a job z placed before it: "for a pair a, b the frame of job j of a is at most the frame of
-- job j of b".
pub record BreaksNoPair (x : Instance) (p : List ℕ) (y k : ℕ) : Type 0 where
  -- it is job j of b, and z is job j of a
  pub not_before : (u z : ℕ) → u < length x.pairs → z < y → (job_at x y).task ≡ (pair_at x u).b → (job_at x z).task ≡ (pair_at x u).a
      → (job_at x z).number ≡ (job_at x y).number → frame_at p z ≤ k
  -- it is job j of a, and z is job j of b
  pub not_behind : (u z : ℕ) → u < length x.pairs → z < y → (job_at x y).task ≡ (pair_at x u).a → (job_at x z).task ≡ (pair_at x u).b
      → (job_at x z).number ≡ (job_at x y).number → k ≤ frame_at p z

-- The job after those placed may stand in frame k.
pub record MayStand (x : Instance) (f : ℕ) (p : List ℕ) (k : ℕ) : Type 0 where
  -- its row does not "exceed f": the C + g of the jobs already placed in row k mod F, and its own, add up to at most f
  pub room : row_sum (rows_at x f) (costs x) p (k % rows_at x f) + slot x.g (task_at x (job_at x (length p)).task) ≤ f
  -- nor does it break "a pair with a job already placed"; no other two jobs are held against each other
  pub order : BreaksNoPair x p (length p) k
