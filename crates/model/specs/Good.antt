-- A request within the limits, with its cycle and its jobs, as facts.
use Rattle.std.specs.Prelude.{ℕ, ◌≤◌, ◌<◌, length}
use Rattle.std.specs.Int.{◌∣◌}
use Rattle.request.specs.Request.{period_of}
use Rattle.request.specs.Readable.{Readable}
use Rattle.cycle.specs.Planned.{InPlanningOrder}
use Rattle.model.specs.Plan.{Instance}

pub record Good (x : Instance) : Type 0 where
  pub readable : Readable x.tasks x.pairs
  pub in_order : InPlanningOrder x.tasks x.h x.jobs
  pub some_time : 0 < x.h
  pub whole_periods : (i : ℕ) → i < length x.tasks → period_of x.tasks i ∣ x.h
  pub few_jobs : length x.jobs ≤ 128
