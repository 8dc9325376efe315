-- A job by its task and number.
use Rattle.std.specs.Prelude.{ℕ, Bool, ◌&&◌, eqb}
use Rattle.cycle.specs.declared.Job.{Job}

-- it is job `number` of the task
unfoldable pub is_job : ℕ → ℕ → Job → Bool
is_job task number job = eqb job.task task && eqb job.number number
