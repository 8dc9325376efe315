-- Rows of a plan: a job's frame lies in the first two cycles, so it is known by its row and whether it is carried; and no row holds a task
-- twice. It is `Disjoint`, said of a plan.
use Rattle.std.specs.Prelude.{◌≡◌, List, ℕ, ◌*◌, ◌/◌, ◌%◌, ◌<◌, length}
use Rattle.request.specs.Readable.{TaskKept}
use Rattle.model.specs.Disjoint.{InJob, one_job_in_row, frame_below}
use Rattle.model.specs.Plan.{Instance, task_at, job_at, rows_at, frame_at, IsPlan}
use Rattle.model.specs.Good.{Good}
use Rattle.model.specs.GoodLaws.{JobFacts, job_facts, same_place}
use Rattle.model.specs.PlanLaws.{in_window}

module _ (x : Instance) (g : Good x) (f : ℕ) (frames : List ℕ) (v : IsPlan x f frames) where
  -- "Never is k ≥ 2F."
  pub frame_small : (y : ℕ) → y < length x.jobs → frame_at frames y < 2 * rows_at x f
  frame_small y h =
      let facts : JobFacts x y = job_facts x g y h in
      let i : ℕ = (job_at x y).task in
      let kept : TaskKept (task_at x i) = g.readable.task i facts.known in
      frame_below x.h f (task_at x i).t (task_at x i).d (task_at x i).p g.some_time v.divides (g.whole_periods i facts.known)
      (job_at x y).number (frame_at frames y) kept.due kept.phase facts.early (in_window x g f frames v y h)

  -- "No row can hold a task twice."
  pub task_once : (y z : ℕ) → y < length x.jobs → z < length x.jobs → (job_at x y).task ≡ (job_at x z).task
      → frame_at frames y % rows_at x f ≡ frame_at frames z % rows_at x f → y ≡ z
  task_once y z hy hz same row =
      let facts : JobFacts x y = job_facts x g y hy in
      let facts' : JobFacts x z = job_facts x g z hz in
      let i : ℕ = (job_at x y).task in
      let early : (job_at x z).number < x.h / (task_at x i).t = rw (← same) at facts'.early in
      let window : InJob f (task_at x i).t (task_at x i).d (task_at x i).p (job_at x z).number (frame_at frames z)
      = rw (← same) at (in_window x g f frames v z hz) in
      let one = one_job_in_row x.h f (task_at x i).t (task_at x i).d (task_at x i).p g.some_time v.divides (g.whole_periods i facts.known)
      (job_at x y).number (job_at x z).number (frame_at frames y) (frame_at frames z) (g.readable.task i facts.known).due facts.early early
      (in_window x g f frames v y hy) window row in
      same_place x g y z hy hz same one.0
