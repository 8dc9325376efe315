-- The answers of the functions as values of their types, and the rows as they stand in a table's bytes.
use Rattle.std.specs.Prelude.{ℕ, zero, suc, ◌+◌, ◌*◌, Bool, true, false, Option, Some, None, List, [], ◌∷◌, get_or}
use Rattle.cursor.specs.Padded.{padded}
use Rattle.cycle.specs.Cycle as read
use Rattle.cycle.specs.declared.Cycle.{Cycle}
use Rattle.table.specs.Table.{Entry, entry_of}
use Rattle.model.specs.Answers.{instance_of}
use Rattle.checker.specs.Checked.{Verdict, accepted, refusal}
use Rattle.checker.specs.Numbered.{Read, unread}

-- the cycle as it was read, the frame length and the frames, in 128 places; zeros for these on a refusal
abbrev pub read_answer : Cycle → Verdict → Read
read_answer c (accepted f frames) = record { refusal = 0; cycle = c; f = f; frames = padded 128 0 frames }
read_answer c (refusal number) = unread c number

-- the cycle that an answer stands for
abbrev pub cycle_in : Cycle → read.Cycle
cycle_in c = let x = instance_of c in read.cycle x.tasks x.pairs x.g x.h x.jobs

-- the frames of all jobs; none where some job has none
abbrev pub frames_answer : Bool → List ℕ → Option (List ℕ)
frames_answer true frames = Some (padded 128 0 frames)
frames_answer false frames = None

-- k entries, the first at `at`
unfoldable pub entries_in : List ℕ → ℕ → ℕ → List Entry
entries_in s zero at = []
entries_in s (suc k) at = entry_of (get_or s at 0) (get_or s (at + 1) 0) ∷ entries_in s k (at + 2)

-- k rows, the first at `at`: a count and its entries
unfoldable pub rows_in : List ℕ → ℕ → ℕ → List (List Entry)
rows_in s zero at = []
rows_in s (suc k) at = entries_in s (get_or s at 0) (at + 1) ∷ rows_in s k (at + 1 + 2 * get_or s at 0)

-- the rows of a table, which stand behind 7 bytes
abbrev pub rows_of : List ℕ → ℕ → List (List Entry)
rows_of s height = rows_in s height 7
