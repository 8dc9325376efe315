-- A plan of a request, in the words of 01's "A plan". A plan gives each job of the cycle its frame; jobs are named by their place in
-- planning order, so the frames of a plan are a list of numbers, the frame of the first job first.
use Rattle.std.specs.Prelude.{◌≡◌, List, map, ℕ, ◌+◌, ◌*◌, ◌/◌, ◌≤◌, ◌<◌, length, get_or}
use Rattle.std.specs.Int.{◌∣◌}
use Rattle.request.specs.Request.{no_task, no_pair}
use Rattle.request.specs.declared.Task.{Task}
use Rattle.request.specs.declared.Pair.{Pair}
use Rattle.cycle.specs.Planned.{no_job}
use Rattle.cycle.specs.declared.Job.{Job}
use Rattle.search.specs.Placing.{row_sum}

-- what is planned: the tasks, the pairs and the silent ticks g of a request, the length H of its cycle, and the cycle's jobs in planning order
pub record Instance : Type 0 where
  pub tasks : List Task
  pub pairs : List Pair
  pub g : ℕ
  pub h : ℕ
  pub jobs : List Job

abbrev pub task_at : Instance → ℕ → Task
task_at x i = get_or x.tasks i no_task

abbrev pub pair_at : Instance → ℕ → Pair
pair_at x u = get_or x.pairs u no_pair

abbrev pub job_at : Instance → ℕ → Job
job_at x y = get_or x.jobs y no_job

-- "F = H/f", the number of rows
abbrev pub rows_at : Instance → ℕ → ℕ
rows_at x f = x.h / f

-- "In capacity, and in f ≥ C, each C counts as C + g.": the time that a transfer of the task takes in its row, with the silent ticks after it
unfoldable pub slot : ℕ → Task → ℕ
slot g task = task.c + g

unfoldable pub cost_of : ℕ → List Task → Job → ℕ
cost_of g tasks job = slot g (get_or tasks job.task no_task)

-- that of each job
unfoldable pub costs : Instance → List ℕ
costs x = map (cost_of x.g x.tasks) x.jobs

-- the frame of the job at place y
abbrev pub frame_at : List ℕ → ℕ → ℕ
frame_at frames y = get_or frames y 0

-- "Window: k·f ≥ r and (k+1)·f ≤ r + D.": frame k of length f lies in the window from r to e
pub record InWindow (f r e k : ℕ) : Type 0 where
  pub not_early : r ≤ k * f
  pub not_late : (k + 1) * f ≤ e

-- "Capacity: the C of the jobs in a row, carried ones included, add up to at most f.", each C as C + g. A job stands in row k mod F.
abbrev pub Capacity : Instance → ℕ → List ℕ → Type 0
Capacity x f frames = (r : ℕ) → r < rows_at x f → row_sum (rows_at x f) (costs x) frames r ≤ f

-- "Order: for a pair a, b the frame of job j of a is at most the frame of job j of b.": y is the place of the one, z of the other
abbrev pub PairsKept : Instance → List ℕ → Type 0
PairsKept x frames = (u : ℕ) → u < length x.pairs → (y z : ℕ) → y < length x.jobs → z < length x.jobs
    → (job_at x y).task ≡ (pair_at x u).a → (job_at x z).task ≡ (pair_at x u).b → (job_at x y).number ≡ (job_at x z).number
    → frame_at frames y ≤ frame_at frames z

pub record IsPlan (x : Instance) (f : ℕ) (frames : List ℕ) : Type 0 where
  -- "A plan has a frame length f that divides H, with F = H/f at most 256 rows."
  pub divides : f ∣ x.h
  pub few_rows : rows_at x f ≤ 256
  -- "Each job has one frame k, counted from time 0."
  pub all : length frames ≡ length x.jobs
  -- its window
  pub window : (y : ℕ) → y < length x.jobs → InWindow f (job_at x y).release (job_at x y).due (frame_at frames y)
  pub capacity : Capacity x f frames
  pub order : PairsKept x frames
