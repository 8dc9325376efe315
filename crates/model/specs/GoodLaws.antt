-- What the facts of Good say of the job at a place of the planning order: when it is released and due, that it has no other place, and that every job has one.
use Rattle.std.specs.Prelude.{◌≡◌, ℕ, ◌+◌, ◌*◌, ◌/◌, ◌<◌, length}
use Rattle.std.proofs.Math.Path.{ap}
use Rattle.arith.specs.Residue.{quotient_pos}
use Rattle.cycle.specs.Cycle.{jobs_in, job_of}
use Rattle.cycle.specs.Planned.{Stands}
use Rattle.model.specs.Plan.{Instance, task_at, job_at}
use Rattle.model.specs.Good.{Good}

-- "Task i has jobs j = 0 to H/T − 1, released at r = P + j·T, due at r + D.": of the job at place y
pub record JobFacts (x : Instance) (y : ℕ) : Type 0 where
  pub known : (job_at x y).task < length x.tasks
  pub early : (job_at x y).number < x.h / (task_at x (job_at x y).task).t
  pub released : (job_at x y).release ≡ (task_at x (job_at x y).task).p + (job_at x y).number * (task_at x (job_at x y).task).t
  pub due : (job_at x y).due ≡ (job_at x y).release + (task_at x (job_at x y).task).d

-- the place of job j of task i
pub record PlaceOf (x : Instance) (i j : ℕ) : Type 0 where
  pub place : ℕ
  pub within : place < length x.jobs
  pub task : (job_at x place).task ≡ i
  pub number : (job_at x place).number ≡ j

module _ (x : Instance) (g : Good x) where
  pub job_facts : (y : ℕ) → y < length x.jobs → JobFacts x y
  unfolding job_of jobs_in
  job_facts y h =
      let (i, j, is, stands) = g.in_order.each y h in
      let e : job_at x y ≡ job_of x.tasks i j = stands.here in
      record { known = rw e is.known; early = rw e is.early; released = rw e; due = rw e }

  stands_there : (y : ℕ) → y < length x.jobs → Stands x.tasks x.h x.jobs y (job_at x y).task (job_at x y).number
  unfolding job_of
  stands_there y h =
      let (i, j, is, stands) = g.in_order.each y h in
      let e : job_at x y ≡ job_of x.tasks i j = stands.here in
      record { within = h; here = rw e }

  -- a job has one place
  pub same_place : (y z : ℕ) → y < length x.jobs → z < length x.jobs
      → (job_at x y).task ≡ (job_at x z).task → (job_at x y).number ≡ (job_at x z).number → y ≡ z
  same_place y z hy hz t n =
      g.in_order.once y z (job_at x y).task (job_at x y).number (stands_there y hy) (rw (t, n) (stands_there z hz))

  -- and every job has one
  pub place_of : (i j : ℕ) → i < length x.tasks → j < x.h / (task_at x i).t → PlaceOf x i j
  unfolding job_of jobs_in
  place_of i j known early =
      let (y, stands) = g.in_order.every i j (record { known = known; early = early }) in
      record { place = y; within = stands.within; task = ap (λ b. b.task) stands.here; number = ap (λ b. b.number) stands.here }

  -- every task has a job
  pub first_job : (i : ℕ) → i < length x.tasks → PlaceOf x i 0
  first_job i known = place_of i 0 known (quotient_pos x.h (task_at x i).t g.some_time (g.whole_periods i known))
