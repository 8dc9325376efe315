-- The answers of the functions as values of their types, and what the functions that are not called from outside ask of their arguments.
use Rattle.std.specs.Prelude.{ℕ, ◌≤◌, ◌<◌, ◌≡◌, List, map, cond, length, take, get_or, replicate, ltb, Option, Some, None, Result, Ok, Err}
use Rattle.std.specs.Int.{◌∣◌}
use Rattle.cursor.specs.Padded.{padded}
use Rattle.refusal.specs.Refusal.{number_of}
use Rattle.refusal.specs.declared.Refusal.{Refusal}
use Rattle.request.specs.Request.{Reading, readable, no_task, no_pair, period_of}
use Rattle.request.specs.Answers as request
use Rattle.request.specs.Numbered.{request_said}
use Rattle.request.specs.Readable.{TaskKept, Readable}
use Rattle.request.specs.declared.Task.{Task}
use Rattle.request.specs.declared.Pair.{Pair}
use Rattle.request.specs.declared.Request.{Request}
use Rattle.cycle.specs.Cycle.{Cycle, cycle, no_cycle, hyperperiod, all_jobs, after_reading}
use Rattle.cycle.specs.Planned.{no_job}
use Rattle.cycle.specs.declared.Job.{Job}
use Rattle.cycle.specs.declared.Cycle as answer

-- H, where it is not above 10,000
unfoldable pub short_cycle : List Task → Option ℕ
short_cycle tasks = cond {A = Option ℕ} (ltb 10000 (hyperperiod tasks)) None (Some (hyperperiod tasks))

-- there are tasks, at most 16, and they keep their rule
pub record Sized (tasks : List Task) : Type 0 where
  pub some : 1 ≤ length tasks
  pub few : length tasks ≤ 16
  pub kept : (i : ℕ) → i < length tasks → TaskKept (get_or tasks i no_task)

-- and their periods divide a cycle of h ticks, which has `count` jobs
pub record Listable (tasks : List Task) (h count : ℕ) : Type 0 where
  pub sized : Sized tasks
  pub pos : 1 ≤ h
  pub short : h ≤ 10000
  pub divides : (i : ℕ) → i < length tasks → period_of tasks i ∣ h
  pub counted : count ≡ length (all_jobs tasks h)
  pub few : count ≤ 128

-- of the first n numbers, the one at `first` is the least, and the first of the least
pub record First (numbers : List ℕ) (n first : ℕ) : Type 0 where
  pub within : first < n
  pub least : (i : ℕ) → i < n → get_or numbers first 0 ≤ get_or numbers i 0
  pub lowest : (i : ℕ) → i < first → get_or numbers first 0 < get_or numbers i 0

unfoldable pub phases_of : List Task → List ℕ
phases_of tasks = padded 16 0 (map (λ x. x.p) tasks)

unfoldable pub listed : List Job → List Job
listed jobs = padded 128 no_job jobs

-- what stands in the places where there is no cycle
abbrev pub no_places : answer.Cycle
no_places = record { n = 0; tasks = replicate 16 no_task; m = 0; pairs = replicate 16 no_pair; g = 0; h = 0; count = 0; jobs = replicate 128 no_job }

-- the cycle in the places of an answer
abbrev pub cycle_answered : Cycle → answer.Cycle
cycle_answered (cycle tasks pairs g h jobs) =
    record {
      n = length tasks;
      tasks = padded 16 no_task tasks;
      m = length pairs;
      pairs = padded 16 no_pair pairs;
      g = g;
      h = h;
      count = length jobs;
      jobs = listed jobs;
    }
cycle_answered (no_cycle number) = no_places

-- the reading that stands in a request's places
unfoldable pub reading_of : Request → Reading
reading_of r = readable (take r.n r.tasks) (take r.m r.pairs) r.g

-- the cycle of a request that was read already
unfoldable pub cycle_for : Request → Cycle
cycle_for r = after_reading (reading_of r)

-- the cycle of what `request::read` answered: a refusal is handed on
abbrev pub cycle_after : Result Request Refusal → Cycle
cycle_after (Ok r) = cycle_for r
cycle_after (Err e) = no_cycle (number_of e)

-- what is asked of such a request: its places hold a reading that keeps the form, and nothing else, as in the answers of `request::read`
pub record AsRead (r : Request) : Type 0 where
  pub tasks : List Task
  pub pairs : List Pair
  pub g : ℕ
  pub is : request_said (Ok r) ≡ request.request_answered (readable tasks pairs g)
  pub kept : Readable tasks pairs
