-- Which answer next-frame and a report get, exactly, for all byte strings and states, and the whole state after the call. 01, "Dispatching"; 02, R-2.
-- Nothing here names a definition of Dispatch: to be believed are these records.
use Rattle.std.specs.Prelude.{ℕ, ◌+◌, ◌≤◌, ◌<◌, ◌≡◌, Bool, true, false, ◌↔◌, ◌⊎◌, ◌≢◌, List, [], ◌∷◌, map, length, get_or}
use Rattle.request.specs.Request.{readable, unreadable, reading, no_task}
use Rattle.request.specs.declared.Task.{Task}
use Rattle.request.specs.declared.Pair.{Pair}
use Rattle.table.specs.Table.{Entry, Table, job_byte, row_of}
use Rattle.table.specs.TableBytes.{SaysTable}
use Rattle.dispatcher.specs.declared.State.{State}
use Rattle.dispatcher.specs.Numbered.{Frame}
use Rattle.dispatcher.specs.Numbered.{Reported}

-- an entry is left out: "leaving out carried ones while the mark is set"
abbrev pub LeftOut : Bool → Entry → Type 0
LeftOut mark e = (mark ≡ true) × (e.carried ≡ true)

-- the entries that are served of a row, "in row order"
unfoldable pub Serves : Bool → List Entry → List Entry → Type 0
Serves mark [] es = es ≡ []
Serves mark (e ∷ row) es = (LeftOut mark e × Serves mark row es) ⊎ ((LeftOut mark e → ⊥) × ((rest : List Entry) × (es ≡ e ∷ rest) × Serves mark row rest))

-- "as a number and 16 places filled from the first in row order, each a task byte and a job byte as in the table (unused places are 0)"
pub record Shows (es : List Entry) (r : Frame) : Type 0 where
  pub number : r.count ≡ length es
  pub places : (length r.tasks ≡ 16) × (length r.jobs ≡ 16)
  -- of place k: the byte of entry k, or 0 where there is none
  pub task_bytes : (k : ℕ) → get_or r.tasks k 0 ≡ get_or (map (λ (e : Entry). e.task) es) k 0
  pub job_bytes : (k : ℕ) → get_or r.jobs k 0 ≡ get_or (map job_byte es) k 0

-- the state s is followed by the state s', of a table of so many rows
pub record MovesOn (height : ℕ) (s s' : State) : Type 0 where
  -- "the row moves on by one"
  pub onward : s.row + 1 < height → (s'.row ≡ s.row + 1) × (s'.first ≡ s.first)
  -- "and from the last row to 0 with the mark cleared"
  pub around : s.row + 1 ≡ height → (s'.row ≡ 0) × (s'.first ≡ false)
  pub counts_stay : s'.counts ≡ s.counts

module _ (bytes : List ℕ) (s : State) where
  -- the bytes have the form, and the table that they say has `Claim`
  abbrev pub OfTable : (Table → Type 0) → Type 0
  OfTable Claim = (t : Table) × SaysTable bytes t × Claim t

  -- of what next-frame answers
  pub record NextExact (r : Frame) : Type 0 where
    -- 12: "not the form above"
    pub twelve : (r.refusal ≡ 12) ↔ ((t : Table) → SaysTable bytes t → ⊥)
    -- 15: "row not below F"
    pub fifteen : (r.refusal ≡ 15) ↔ OfTable (λ t. length t.rows ≤ s.row)
    pub served : (r.refusal ≡ 0) ↔ OfTable (λ t. s.row < length t.rows)
    -- "Next-frame answers the row's entries"
    pub entries : (t : Table) → SaysTable bytes t → s.row < length t.rows → (es : List Entry) × Serves s.first (row_of t s.row) es × Shows es r
    pub state_after : (t : Table) → SaysTable bytes t → s.row < length t.rows → MovesOn (length t.rows) s r.state
    -- "A refusal returns its number, .. no entries, the state unchanged"
    pub refused_still : (r.refusal ≡ 0 → ⊥) → Shows [] r × (r.state ≡ s)

-- the count of a task whose transfer used so many ticks, before and after the report
pub record Counts (c ticks before after : ℕ) : Type 0 where
  -- "if these exceed C the count rises by one, stopping at 65,535"
  pub rises : c < ticks → before < 65535 → after ≡ before + 1
  pub stops : c < ticks → 65535 ≤ before → after ≡ before
  pub keeps : ticks ≤ c → after ≡ before

-- the state s is followed by the state s' after a report of that task, which is to use at most c ticks
pub record Counted (task c ticks : ℕ) (s s' : State) : Type 0 where
  pub its_own : Counts c ticks (get_or s.counts task 0) (get_or s'.counts task 0)
  -- "A report raises only its own task's count."
  pub no_other : (i : ℕ) → i ≢ task → get_or s'.counts i 0 ≡ get_or s.counts i 0
  pub as_many : length s'.counts ≡ length s.counts
  -- "Report moves no row."
  pub row_stays : s'.row ≡ s.row
  pub mark_stays : s'.first ≡ s.first

module _ (request : List ℕ) (task ticks : ℕ) (s : State) where
  -- the request is read, and its tasks have `Claim`
  abbrev pub OfTasks : (List Task → Type 0) → Type 0
  OfTasks Claim = (tasks : List Task) × (pairs : List Pair) × (g : ℕ) × (reading request ≡ readable tasks pairs g) × Claim tasks

  -- of what a report answers
  pub record ReportExact (r : Reported) : Type 0 where
    -- "report 1 to 6 then 16"; 17 since R-1
    pub own_number : (number : ℕ) → reading request ≡ unreadable number → r.refusal ≡ number
    -- 16: "task number not below n"
    pub sixteen : (r.refusal ≡ 16) ↔ OfTasks (λ tasks. length tasks ≤ task)
    pub taken : (r.refusal ≡ 0) ↔ OfTasks (λ tasks. task < length tasks)
    pub state_after : r.refusal ≡ 0 → OfTasks (λ tasks. Counted task (get_or tasks task no_task).c ticks s r.state)
    -- the answer tells whether "the ticks exceed that task's C"
    pub above : (r.over ≡ true) ↔ OfTasks (λ tasks. (task < length tasks) × ((get_or tasks task no_task).c < ticks))
    -- "A refusal returns its number, .. the state unchanged"
    pub refused_still : (r.refusal ≡ 0 → ⊥) → r.state ≡ s
