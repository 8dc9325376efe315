-- When a served entry starts and ends, which job of which cycle it stands for, and how often a job has run. 01, "Dispatching".
-- Frames are lists of the entries served in them, frame 0 first.
use Rattle.std.specs.Prelude.{◌≡◌, Bool, true, false, ◌&&◌, List, [], ◌∷◌, ℕ, zero, suc, ◌+◌, ◌*◌, ◌/◌, ◌≤◌, ◌<◌, length, get_or, eqb}
use Rattle.cursor.specs.Choice.{bit}
use Rattle.cycle.specs.Cycle.{job_of}
use Rattle.cycle.specs.Planned.{IsJob}
use Rattle.table.specs.Table.{Entry}
use Rattle.model.specs.Plan.{Instance, task_at}

abbrev pub no_entry : Entry
no_entry = record { task = 0; number = 0; carried = false }

-- the entry served in frame m at place p
abbrev pub served_at : List (List Entry) → ℕ → ℕ → Entry
served_at frames m p = get_or (get_or frames m []) p no_entry

-- an entry was served there
pub record Served (frames : List (List Entry)) (m p : ℕ) : Type 0 where
  pub frame_flown : m < length frames
  pub place_filled : p < length (get_or frames m [])

-- Actual times: `actual m p` for the entry at place p of frame m. "an actual time is any whole number from 0 to C"
abbrev pub KeepToC : Instance → List (List Entry) → (ℕ → ℕ → ℕ) → Type 0
KeepToC x frames actual = (m p : ℕ) → Served frames m p → actual m p ≤ (task_at x (served_at frames m p).task).c

-- "In frame m (from 0) the first entry served starts at m·f", and "each later entry of a frame start[s] g ticks after the one before ended"
unfoldable pub start_time : ℕ → ℕ → (ℕ → ℕ → ℕ) → ℕ → ℕ → ℕ
start_time g f actual m zero = m * f
start_time g f actual m (suc p) = start_time g f actual m p + actual m p + g

abbrev pub finish : ℕ → ℕ → (ℕ → ℕ → ℕ) → ℕ → ℕ → ℕ
finish g f actual m p = start_time g f actual m p + actual m p

-- Job j of task i, of cycle q

-- "job j of cycle q is released q·H later than job j of cycle 0"
abbrev pub released_in : Instance → ℕ → ℕ → ℕ → ℕ
released_in x q i j = q * x.h + (job_of x.tasks i j).release

-- "It is due D after its release."
abbrev pub due_in : Instance → ℕ → ℕ → ℕ → ℕ
due_in x q i j = released_in x q i j + (task_at x i).d

-- 1 if carried
abbrev pub late : Entry → ℕ
late e = bit e.carried

-- "An entry of frame m in cycle q = m div F stands for its job of cycle q, or of cycle q − 1 if carried": here `now` is m div F, and the entry
-- stands for job j of task i of cycle q. A carried entry of cycle 0 would stand for none.
abbrev pub stands_for : ℕ → ℕ → ℕ → ℕ → Entry → Bool
stands_for now i j q e = eqb e.task i && (eqb e.number j && eqb (q + late e) now)

-- "A job of a cycle starts with a served entry that stands for it": with that at place p of frame m
pub record Starts (F : ℕ) (frames : List (List Entry)) (i j q m p : ℕ) : Type 0 where
  pub served_there : Served frames m p
  pub stands : stands_for (m / F) i j q (served_at frames m p) ≡ true

-- the entry served there stands for some job of the request, of some cycle
pub record StandsForSome (x : Instance) (F : ℕ) (frames : List (List Entry)) (m p : ℕ) : Type 0 where
  pub i : ℕ
  pub j : ℕ
  pub q : ℕ
  pub is_job : IsJob x.tasks x.h i j
  pub starts : Starts F frames i j q m p

-- the job started, and had ended by tick `then`; `ends` says when an entry ends
pub record EndedBy (F : ℕ) (frames : List (List Entry)) (ends : ℕ → ℕ → ℕ) (i j q then : ℕ) : Type 0 where
  pub m : ℕ
  pub p : ℕ
  pub started : Starts F frames i j q m p
  pub ended : ends m p ≤ then

-- "has run once for each such entry": how many of these entries stand for the job
unfoldable pub runs_in : ℕ → ℕ → ℕ → ℕ → List Entry → ℕ
runs_in now i j q [] = 0
runs_in now i j q (e ∷ es) = bit (stands_for now i j q e) + runs_in now i j q es

-- in frames of which the first is frame m
unfoldable pub runs_from : ℕ → ℕ → ℕ → ℕ → ℕ → List (List Entry) → ℕ
runs_from F i j q m [] = 0
runs_from F i j q m (es ∷ rest) = runs_in (m / F) i j q es + runs_from F i j q (m + 1) rest

abbrev pub times_run : ℕ → List (List Entry) → ℕ → ℕ → ℕ → ℕ
times_run F frames i j q = runs_from F i j q 0 frames
