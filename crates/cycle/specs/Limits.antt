-- What a request within the limits keeps, and the numbers of one that is not.
use Rattle.std.specs.Prelude.{ℕ, ◌*◌, ◌≤◌, ◌<◌, ◌≡◌, List, ◌⊎◌, length}
use Rattle.std.specs.Int.{◌∣◌}
use Rattle.request.specs.Request.{period_of}
use Rattle.request.specs.Readable.{Readable}
use Rattle.request.specs.declared.Task.{Task}
use Rattle.request.specs.declared.Pair.{Pair}
use Rattle.cycle.specs.Cycle.{hyperperiod, jobs_in, job_of, planned}
use Rattle.cycle.specs.Planned.{IsJob, InPlanningOrder}
use Rattle.cycle.specs.declared.Job.{Job}

-- What a request within the limits keeps. Crates above go by this.
pub record WithinLimits (tasks : List Task) (pairs : List Pair) (h : ℕ) (jobs : List Job) : Type 0 where
  pub readable : Readable tasks pairs
  pub h_is : h ≡ hyperperiod tasks
  pub h_pos : 1 ≤ h
  pub h_few : h ≤ 10000
  pub jobs_are : jobs ≡ planned tasks h
  pub jobs_few : length jobs ≤ 128
  pub in_order : InPlanningOrder tasks h jobs
  pub period_divides : (i : ℕ) → i < length tasks → period_of tasks i ∣ h
  pub period_le : (i : ℕ) → i < length tasks → period_of tasks i ≤ h
  pub has_job : (i : ℕ) → i < length tasks → 0 < jobs_in tasks h i
  pub release_below : (i j : ℕ) → IsJob tasks h i j → (job_of tasks i j).release < h
  pub due_below : (i j : ℕ) → IsJob tasks h i j → (job_of tasks i j).due < 2 * h

-- the numbers of a refused request
abbrev pub RequestNumber : ℕ → Type 0
RequestNumber number = ((1 ≤ number) × (number ≤ 8)) ⊎ (number ≡ 17)
