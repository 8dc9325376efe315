-- R-1 for every request: in what the silent ticks count, and that they count in nothing else of a plan.
use Rattle.std.specs.Prelude.{◌≡◌, ◌↔◌, List, map, ℕ, ◌+◌}
use Rattle.request.specs.declared.Task.{Task}
use Rattle.model.specs.Plan.{Instance, IsPlan}
use Rattle.model.specs.Plausible.{plausible}
use Rattle.model.specs.Chosen.{choose}

-- "each C counts as C + g"
abbrev pub longer : ℕ → Task → Task
longer g task = record { c = task.c + g; t = task.t; d = task.d; p = task.p }

-- the request with every C as C + g and with no silent ticks; its cycle and its jobs are the same
abbrev pub lengthened : Instance → Instance
lengthened x = record { tasks = map (longer x.g) x.tasks; pairs = x.pairs; g = 0; h = x.h; jobs = x.jobs }

-- A request is planned as the lengthened one is: the same f are plausible, the same frames are a plan, and the same plan is chosen.
pub record SilentCounts (x : Instance) : Type 0 where
  pub plausible_are : (f : ℕ) → plausible x f ≡ plausible (lengthened x) f
  pub plans_are : (f : ℕ) (frames : List ℕ) → IsPlan x f frames ↔ IsPlan (lengthened x) f frames
  pub chosen_are : choose x ≡ choose (lengthened x)
