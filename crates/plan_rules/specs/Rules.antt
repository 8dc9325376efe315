-- The rules of a plan as tests, in the words of 01's "A plan", of the frames of its jobs.
use Rattle.std.specs.Prelude.{ℕ, ◌+◌, ◌*◌, Bool, true, cond, ◌&&◌, List, length, get_or, leb, eqb}
use Rattle.request.specs.Request.{no_pair}
use Rattle.request.specs.declared.Pair.{Pair}
use Rattle.cycle.specs.Planned.{no_job}
use Rattle.cycle.specs.declared.Job.{Job}
use Rattle.search.specs.Placing.{row_sum}
use Rattle.model.specs.Plan.{Instance, costs}
use Rattle.model.specs.Named.{is_job}
use Rattle.plan_rules.specs.Every.{every}

-- "Window: k·f ≥ r and (k+1)·f ≤ r + D."
unfoldable pub in_window : ℕ → Job → ℕ → Bool
in_window f job k = leb job.release (k * f) && leb ((k + 1) * f) job.due

-- The frames of jobs, by place: n jobs.
module _ (jobs : List Job) (frames : List ℕ) where
  -- the window of the job at place y
  unfoldable pub window_kept : ℕ → ℕ → Bool
  window_kept f y = in_window f (get_or jobs y no_job) (get_or frames y 0)

  -- "Order: for a pair a, b the frame of job j of a is at most the frame of job j of b.": the one has frame k, z is the place of the other
  unfoldable pub other_kept : ℕ → ℕ → ℕ → ℕ → Bool
  other_kept b number k z = cond (is_job b number (get_or jobs z no_job)) (leb k (get_or frames z 0)) true

  module _ (n : ℕ) where
    -- y is the place of the one
    unfoldable pub one_kept : ℕ → ℕ → ℕ → Bool
    one_kept a b y = cond (eqb (get_or jobs y no_job).task a) (every n (other_kept b (get_or jobs y no_job).number (get_or frames y 0))) true

    -- the pair u
    unfoldable pub pair_kept : List Pair → ℕ → Bool
    pair_kept pairs u = every n (one_kept (get_or pairs u no_pair).a (get_or pairs u no_pair).b)

-- "Capacity: the C of the jobs in a row, carried ones included, add up to at most f.": row r
unfoldable pub capacity_kept : ℕ → List ℕ → List ℕ → ℕ → ℕ → Bool
capacity_kept rows cost frames f r = leb (row_sum rows cost frames r) f

-- The rules of a plan, of frames of length f in `rows` rows.

unfoldable pub windows_right : Instance → ℕ → List ℕ → Bool
windows_right x f frames = every (length x.jobs) (window_kept x.jobs frames f)

unfoldable pub capacity_right : Instance → ℕ → ℕ → List ℕ → Bool
capacity_right x rows f frames = every rows (capacity_kept rows (costs x) frames f)

unfoldable pub order_right : Instance → List ℕ → Bool
order_right x frames = every (length x.pairs) (pair_kept x.jobs frames (length x.jobs) x.pairs)

-- "F = H/f at most 256 rows", and there is one
unfoldable pub height_right : ℕ → Bool
height_right rows = leb 1 rows && leb rows 256

unfoldable pub rules_right : Instance → ℕ → ℕ → List ℕ → Bool
rules_right x rows f frames = height_right rows && (windows_right x f frames && (capacity_right x rows f frames && order_right x frames))
