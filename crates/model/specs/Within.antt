-- A request within the limits, and what is planned for it; and what a cycle keeps that is answered without a refusal.
use Rattle.std.specs.Prelude.{ℕ, ◌≤◌, ◌≡◌, List, ◌↔◌}
use Rattle.request.specs.declared.Task.{Task}
use Rattle.request.specs.declared.Pair.{Pair}
use Rattle.cycle.specs.Cycle.{cycle, cycle_of}
use Rattle.cycle.specs.Planned.{InPlanningOrder}
use Rattle.cycle.specs.Exactly.{HasCycle}
use Rattle.cycle.specs.declared.Cycle as answer
use Rattle.model.specs.Plan.{Instance}
use Rattle.model.specs.Good.{Good}
use Rattle.model.specs.Answers.{instance_of}

-- "A request is within the limits if its bytes have the form under Request file with no bytes behind it, H is at most 10,000 and there are at
-- most 128 jobs.": they give the tasks, the pairs, the silent ticks, H and the jobs of x
abbrev pub Within : List ℕ → Instance → Type 0
Within request x = cycle_of request ≡ cycle x.tasks x.pairs x.g x.h x.jobs

-- some x is within the limits exactly if the request is read, its H is at most 10,000 and it has at most 128 jobs; and which x
pub record WithinExact (request : List ℕ) : Type 0 where
  pub some : ((x : Instance) × Within request x) ↔ ((tasks : List Task) × (pairs : List Pair) × (g : ℕ) × (h : ℕ) × HasCycle request tasks pairs g h)
  pub which : (x : Instance) → Within request x ↔ (HasCycle request x.tasks x.pairs x.g x.h × InPlanningOrder x.tasks x.h x.jobs)

-- What every cycle keeps that is answered without a refusal: to bytes, or to a request that was read already. Functions over a cycle ask for it.
pub record InLimits (c : answer.Cycle) : Type 0 where
  pub good : Good (instance_of c)
  pub few_tasks : c.n ≤ 16
  pub few_pairs : c.m ≤ 16
  pub few_jobs : c.count ≤ 128
