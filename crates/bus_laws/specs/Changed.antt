-- Which bytes of a state a call changes: bus_next_frame none but the row and the mark, bus_report none but the two of its own task's count.
use Rattle.std.specs.Prelude.{ℕ, ◌+◌, ◌*◌, ◌<◌, ◌≡◌, ◌⊎◌, List, length, get_or}
use Rattle.cursor.specs.Fields.{Bytes}
use Rattle.bus.specs.Dispatch.{frame_state, report_state}

-- as many bytes, and no byte changes but those that `Named` tells
abbrev pub ChangesOnly : (ℕ → Type 0) → List ℕ → List ℕ → Type 0
ChangesOnly Named old new = (length new ≡ length old) × ((k : ℕ) → (Named k → ⊥) → get_or new k 0 ≡ get_or old k 0)

-- bytes 0 and 1 are the row, byte 2 the mark
abbrev pub RowOrMark : ℕ → Type 0
RowOrMark k = k < 3

-- bytes 3 + 2i and 4 + 2i are the number of overruns of task i, for i from 0 to 15
abbrev pub OwnCount : ℕ → ℕ → Type 0
OwnCount task k = ((k ≡ 3 + 2 * task) ⊎ (k ≡ 4 + 2 * task)) × (task < 16)

abbrev pub FrameChanges : Type 0
FrameChanges = (table state entries : List ℕ) → Bytes state → ChangesOnly RowOrMark state (frame_state table state entries)

abbrev pub ReportChanges : Type 0
ReportChanges = (request : List ℕ) (task ticks : ℕ) (state : List ℕ) → Bytes state → ChangesOnly (OwnCount task) state (report_state request task ticks state)
