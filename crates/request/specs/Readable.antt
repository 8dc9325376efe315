-- What a readable request keeps: the form under 01's "Request file", as facts; and which numbers a refusal has.
use Rattle.std.specs.Prelude.{ℕ, ◌≤◌, ◌<◌, ◌≡◌, List, ◌⊎◌, length, get_or}
use Rattle.request.specs.Request.{no_task, no_pair, period_of, Reading, readable, unreadable}
use Rattle.request.specs.declared.Task.{Task}
use Rattle.request.specs.declared.Pair.{Pair}

-- "A task has 1 ≤ C ≤ D ≤ T and P < T."
pub record TaskKept (x : Task) : Type 0 where
  pub some : 1 ≤ x.c
  pub room : x.c ≤ x.d
  pub due : x.d ≤ x.t
  pub phase : x.p < x.t

-- "A pair has a < b < n and equal T"
pub record PairKept (tasks : List Task) (q : Pair) : Type 0 where
  pub rises : q.a < q.b
  pub known : q.b < length tasks
  pub period : period_of tasks q.a ≡ period_of tasks q.b

pub record Readable (tasks : List Task) (pairs : List Pair) : Type 0 where
  pub some_task : 1 ≤ length tasks
  pub few_tasks : length tasks ≤ 16
  pub few_pairs : length pairs ≤ 16
  pub task : (i : ℕ) → i < length tasks → TaskKept (get_or tasks i no_task)
  pub pair : (u : ℕ) → u < length pairs → PairKept tasks (get_or pairs u no_pair)

-- The number of a refusal is from 1 to 6, or 17.
abbrev pub UnreadNumber : ℕ → Type 0
UnreadNumber number = ((1 ≤ number) × (number ≤ 6)) ⊎ (number ≡ 17)

-- What a reading keeps: the form of a request, or the number of a refusal.
abbrev pub KeptReading : Reading → Type 0
KeptReading (readable tasks pairs g) = Readable tasks pairs
KeptReading (unreadable number) = UnreadNumber number
