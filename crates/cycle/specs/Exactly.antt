-- Which answer a request's bytes get as a cycle, exactly, for all byte strings: 7, 8, the request's own number, or the cycle.
-- What the bytes say as a request is determined by `request`'s ReadExact.
use Rattle.std.specs.Prelude.{ℕ, ◌+◌, ◌/◌, ◌≤◌, ◌<◌, ◌≡◌, List, [], ◌∷◌, ◌↔◌, length}
use Rattle.std.specs.Int.{◌∣◌}
use Rattle.request.specs.Request.{readable, unreadable, reading, period_of}
use Rattle.request.specs.declared.Task.{Task}
use Rattle.request.specs.declared.Pair.{Pair}
use Rattle.cycle.specs.Cycle.{cycle, no_cycle}
use Rattle.cycle.specs.Planned.{InPlanningOrder}
use Rattle.cycle.specs.Numbered.{cycle_numbered}
use Rattle.cycle.specs.declared.Job.{Job}
use Rattle.cycle.specs.Numbered as answer

-- "H is the least common multiple of all T"
pub record IsH (tasks : List Task) (h : ℕ) : Type 0 where
  pub some : 0 < h
  pub common : (i : ℕ) → i < length tasks → period_of tasks i ∣ h
  pub least : (k : ℕ) → 0 < k → ((i : ℕ) → i < length tasks → period_of tasks i ∣ k) → h ≤ k

-- "Task i has jobs j = 0 to H/T − 1": how many the tasks have in all
unfoldable pub jobs_in_all : List Task → ℕ → ℕ
jobs_in_all [] h = 0
jobs_in_all (x ∷ tasks) h = h / x.t + jobs_in_all tasks h

module _ (s : List ℕ) where
  -- the bytes are a request of these tasks, and h is its H
  pub record HasH (tasks : List Task) (pairs : List Pair) (g h : ℕ) : Type 0 where
    pub reads : reading s ≡ readable tasks pairs g
    pub h_is : IsH tasks h

  -- "A request is within the limits if its bytes have the form under Request file with no bytes behind it, H is at most 10,000 and there are at most 128 jobs."
  pub record HasCycle (tasks : List Task) (pairs : List Pair) (g h : ℕ) : Type 0 where
    pub has_h : HasH tasks pairs g h
    pub h_few : h ≤ 10000
    pub jobs_few : jobs_in_all tasks h ≤ 128

  abbrev pub OfH : (List Task → ℕ → Type 0) → Type 0
  OfH Claim = (tasks : List Task) × (pairs : List Pair) × (g : ℕ) × (h : ℕ) × HasH tasks pairs g h × Claim tasks h

  -- c, the answer of `cycle::read`
  pub record CycleExact (c : answer.Cycle) : Type 0 where
    pub own_number : (number : ℕ) → reading s ≡ unreadable number → c ≡ cycle_numbered (no_cycle number)
    -- 7: "H above 10,000"
    pub seven : (c ≡ cycle_numbered (no_cycle 7)) ↔ OfH (λ tasks h. 10000 < h)
    -- 8: "more than 128 jobs"
    pub eight : (c ≡ cycle_numbered (no_cycle 8)) ↔ OfH (λ tasks h. (h ≤ 10000) × (128 < jobs_in_all tasks h))
    -- "Jobs are ordered by release, then task number."
    pub cycles : (tasks : List Task) (pairs : List Pair) (g h : ℕ) (jobs : List Job)
        → (c ≡ cycle_numbered (cycle tasks pairs g h jobs)) ↔ (HasCycle tasks pairs g h × InPlanningOrder tasks h jobs)
