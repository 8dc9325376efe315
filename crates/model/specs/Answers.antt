-- The cycle of a request, as a function's answer has it, as what is planned.
use Rattle.std.specs.Prelude.{List, ℕ, min}
use Rattle.cursor.specs.Padded.{firsts}
use Rattle.request.specs.Request.{no_task, no_pair}
use Rattle.request.specs.declared.Task.{Task}
use Rattle.request.specs.declared.Pair.{Pair}
use Rattle.cycle.specs.Planned.{no_job}
use Rattle.cycle.specs.declared.Job.{Job}
use Rattle.cycle.specs.declared.Cycle.{Cycle}
use Rattle.model.specs.Plan.{Instance}

abbrev pub instance_of : Cycle → Instance
instance_of c = record {
  tasks = firsts (min c.n 16) no_task c.tasks;
  pairs = firsts (min c.m 16) no_pair c.pairs;
  g = c.g;
  h = c.h;
  jobs = firsts (min c.count 128) no_job c.jobs;
}

abbrev pub instance : List Task → List Pair → ℕ → ℕ → List Job → Instance
instance tasks pairs g h jobs = record { tasks = tasks; pairs = pairs; g = g; h = h; jobs = jobs }
