-- Spacing of sensor readings: 02, R-8. "State and prove for accepted tables: while transfers keep to their C, the starts of two successive jobs of
-- one task are at least T − (D − C) and at most T + (D − C) ticks apart, for every list of calls, the change from the first cycle to the second included."
use Rattle.std.specs.Prelude.{◌≡◌, ◌↔◌, ◌⊎◌, List, ℕ, ◌+◌, ◌≤◌, ◌<◌}
use Rattle.request.specs.declared.Task.{Task}
use Rattle.cycle.specs.Cycle.{jobs_in}
use Rattle.cycle.specs.Planned.{IsJob}
use Rattle.table.specs.Table.{Entry, Table}
use Rattle.table.specs.TableBytes.{SaysTable}
use Rattle.model.specs.Plan.{Instance, task_at}
use Rattle.model.specs.Within.{Within}
use Rattle.flight.specs.Calls.{Call}
use Rattle.flight.specs.Timing.{Served, served_at, KeepToC, released_in}
use Rattle.flight.specs.Flight.{frames_flown, Started, starts}

-- "two successive jobs of one task": job j of cycle q, and job k of cycle r. The second is released T after the first, whatever cycles they are of.
pub record Successive (x : Instance) (i j q k r : ℕ) : Type 0 where
  pub first_is : IsJob x.tasks x.h i j
  pub second_is : IsJob x.tasks x.h i k
  pub one_period : released_in x r i k ≡ released_in x q i j + (task_at x i).t

-- What that comes to: the next number in the same cycle, or the last of a cycle and the first of the next

abbrev pub NextNumber : Instance → ℕ → ℕ → ℕ → ℕ → ℕ → Type 0
NextNumber x i j q k r = (k ≡ j + 1) × (k < jobs_in x.tasks x.h i) × (r ≡ q)

abbrev pub NextCycle : Instance → ℕ → ℕ → ℕ → ℕ → ℕ → Type 0
NextCycle x i j q k r = (j + 1 ≡ jobs_in x.tasks x.h i) × (k ≡ 0) × (r ≡ q + 1)

-- Every job of every cycle has one after it, and just that one.
pub record SuccessiveMeans (x : Instance) (i j q : ℕ) : Type 0 where
  pub exactly : (k r : ℕ) → Successive x i j q k r ↔ (NextNumber x i j q k r ⊎ NextCycle x i j q k r)
  pub some_one : (k : ℕ) × (r : ℕ) × Successive x i j q k r

-- "at least T − (D − C) and at most T + (D − C) ticks apart": `one` and `two` are the starts. What is taken off on one side is added on the other, so that no
-- difference ends at 0: two − one ≥ T − (D − C) is one + T + C ≤ two + D. C alone, not C + g. T − (D − C) is at least C, so the second start is the later one.
pub record Apart (task : Task) (one two : ℕ) : Type 0 where
  pub at_least : one + task.t + task.c ≤ two + task.d
  pub at_most : two + task.c ≤ one + task.t + task.d

-- the request with its cycle, the bytes of the table and what they say, the list of calls, the actual times
module _ (x : Instance) (table_bytes : List ℕ) (t : Table) (calls : List Call) (actual : ℕ → ℕ → ℕ) where
  -- the job has started
  abbrev pub HasStarted : ℕ → ℕ → ℕ → Type 0
  HasStarted i j q = (m : ℕ) × (p : ℕ) × Started x table_bytes t calls actual i j q m p

  -- That a job starts at all is the flight's own claim (due-ran-once).
  pub record Spacing : Type 0 where
    -- the starts of two successive jobs that have both started
    pub apart : (i j q k r : ℕ) → Successive x i j q k r
        → (m p : ℕ) → Started x table_bytes t calls actual i j q m p
        → (n o : ℕ) → Started x table_bytes t calls actual i k r n o
        → Apart (task_at x i) (starts x table_bytes t calls actual m p) (starts x table_bytes t calls actual n o)
    -- no reading is left out before another: where the later one has started, so has the earlier one
    pub none_left_out : (i j q k r : ℕ) → Successive x i j q k r → HasStarted i k r → HasStarted i j q
    -- and none lies between: a start of the task from the one to the other is one of the two
    pub none_between : (i j q k r : ℕ) → Successive x i j q k r
        → (m p : ℕ) → Started x table_bytes t calls actual i j q m p
        → (n o : ℕ) → Started x table_bytes t calls actual i k r n o
        → (l s u v : ℕ) → Started x table_bytes t calls actual i l s u v
        → starts x table_bytes t calls actual m p ≤ starts x table_bytes t calls actual u v
        → starts x table_bytes t calls actual u v ≤ starts x table_bytes t calls actual n o
        → ((u ≡ m) × (v ≡ p)) ⊎ ((u ≡ n) × (v ≡ o))

-- place p of frame m is served before place o of frame n
abbrev pub Before : ℕ → ℕ → ℕ → ℕ → Type 0
Before m p n o = (m < n) ⊎ ((m ≡ n) × (p < o))

-- "while transfers keep to their C": those that were served before the entry at place o of frame n
abbrev pub KeepBefore : Instance → List (List Entry) → (ℕ → ℕ → ℕ) → ℕ → ℕ → Type 0
KeepBefore x frames actual n o =
    (m p : ℕ) → Served frames m p → Before m p n o → actual m p ≤ (task_at x (served_at frames m p).task).c

-- The bounds hold of two starts if all that was served before the later one kept to its C. What is longer later on takes nothing back.
abbrev pub ApartWhile : Instance → List ℕ → Table → List Call → (ℕ → ℕ → ℕ) → Type 0
ApartWhile x table_bytes t calls actual =
    (i j q k r : ℕ) → Successive x i j q k r
    → (m p : ℕ) → Started x table_bytes t calls actual i j q m p
    → (n o : ℕ) → Started x table_bytes t calls actual i k r n o
    → KeepBefore x (frames_flown table_bytes calls) actual n o
    → Apart (task_at x i) (starts x table_bytes t calls actual m p) (starts x table_bytes t calls actual n o)

-- of the public calls' answers: the request is within the limits, the bytes have the form of a table, and the readings are spaced for every list of calls and
-- all actual times from 0 to C; and while they are from 0 to C
pub record Spaced (request_bytes table_bytes : List ℕ) : Type 0 where
  pub x : Instance
  pub within : Within request_bytes x
  pub t : Table
  pub says : SaysTable table_bytes t
  pub spaced : (calls : List Call) (actual : ℕ → ℕ → ℕ) → KeepToC x (frames_flown table_bytes calls) actual → Spacing x table_bytes t calls actual
  pub spaced_while : (calls : List Call) (actual : ℕ → ℕ → ℕ) → ApartWhile x table_bytes t calls actual
