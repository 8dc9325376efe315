-- The pieces in flight. 02, R-9: "A table for the cut request runs both pieces, in order, inside the old window." One theorem, over every list of calls and all
-- actual times, in the words of the old request.
use Rattle.std.specs.Prelude.{ℕ, ◌+◌, ◌*◌, ◌≤◌, ◌<◌, ◌≡◌, List, length}
use Rattle.cursor.specs.Fields.{Bytes}
use Rattle.request.specs.Request.{reading}
use Rattle.request.specs.Written.{request_answer, file_of}
use Rattle.cycle.specs.Planned.{IsJob}
use Rattle.table.specs.Table.{Table}
use Rattle.table.specs.TableBytes.{SaysTable}
use Rattle.model.specs.Plan.{Instance, task_at, pair_at}
use Rattle.model.specs.Within.{Within}
use Rattle.planner.specs.Outcome.{searched_answer}
use Rattle.planner.specs.HandedBytes.{handed_bytes}
use Rattle.checker.specs.Checked.{check_number}
use Rattle.flight.specs.Calls.{Call, height}
use Rattle.flight.specs.Timing.{KeepToC, Served, Starts, released_in, due_in, EndedBy}
use Rattle.flight.specs.Flight.{frames_flown, plain_after, Started, starts, ends, runs, Flight}
use Rattle.cut.specs.Cut.{cut}
use Rattle.cut.specs.Exactly.{FirstOf, SecondOf}

-- `old` is what the old request comes to, x the cut one; task i was cut
module _ (old x : Instance) (i : ℕ) (table_bytes : List ℕ) (t : Table) (calls : List Call) (actual : ℕ → ℕ → ℕ) where
  -- the entry at place p of frame m runs inside the window of the OLD request's job j of task k, of cycle q
  pub record InOldWindow (k j q m p : ℕ) : Type 0 where
    pub is_job : IsJob old.tasks old.h k j
    pub not_before_release : released_in old q k j ≤ starts x table_bytes t calls actual m p
    pub by_deadline : ends x table_bytes t calls actual m p ≤ due_in old q k j

  -- job j of the cut request's task k, of cycle q, starts with that entry
  abbrev pub PieceStarts : ℕ → ℕ → ℕ → ℕ → ℕ → Type 0
  PieceStarts k j q m p = Started x table_bytes t calls actual k j q m p

  -- the entry stands for a job of the old request, of some cycle: of an uncut task, or for one of the two pieces
  pub record RunsForOld (m p : ℕ) : Type 0 where
    pub k : ℕ
    pub j : ℕ
    pub q : ℕ
    pub window : InOldWindow k j q m p
    pub piece : ℕ
    pub stands : Starts (height t) (frames_flown table_bytes calls) piece j q m p
    -- the pieces are i and i + 1, the others move up behind them
    pub uncut_below : k < i → piece ≡ k
    pub cut_itself : k ≡ i → (i ≤ piece) × (piece ≤ i + 1)
    pub uncut_above : i < k → piece ≡ k + 1

  pub record PiecesRun : Type 0 where
    -- "runs both pieces": each exactly once for every old job that is due by the end of the last frame served, and none twice
    pub both_ran : (j : ℕ) → IsJob old.tasks old.h i j → (q : ℕ) → due_in old q i j ≤ (plain_after t calls).m * t.f
        → (runs x table_bytes t calls actual i j q ≡ 1) × (runs x table_bytes t calls actual (i + 1) j q ≡ 1)
    pub none_twice : (j : ℕ) → IsJob old.tasks old.h i j → (q : ℕ)
        → (runs x table_bytes t calls actual i j q ≤ 1) × (runs x table_bytes t calls actual (i + 1) j q ≤ 1)
    -- together they may take the old C
    pub whole : (task_at x i).c + (task_at x (i + 1)).c ≡ (task_at old i).c
    -- "inside the old window"
    pub first_inside : (j q m p : ℕ) → PieceStarts i j q m p → InOldWindow i j q m p
    pub second_inside : (j q m p : ℕ) → PieceStarts (i + 1) j q m p → InOldWindow i j q m p
    -- "in order": when the second piece starts, the first of the same job has started and had ended
    pub in_order : (j q m p : ℕ) → PieceStarts (i + 1) j q m p
        → EndedBy (height t) (frames_flown table_bytes calls) (ends x table_bytes t calls actual) i j q (starts x table_bytes t calls actual m p)
    -- all else is as the old request has it: every entry runs for an old job, inside its old window
    pub nothing_else : (m p : ℕ) → Served (frames_flown table_bytes calls) m p → RunsForOld m p
    -- and the old pairs keep order: before b's first piece starts, a's second piece had ended
    pub old_pairs : (v : ℕ) → v < length old.pairs
        → (a : ℕ) → FirstOf i (pair_at old v).a a → (b : ℕ) → SecondOf i (pair_at old v).b b
        → (j q m p : ℕ) → PieceStarts b j q m p
        → EndedBy (height t) (frames_flown table_bytes calls) (ends x table_bytes t calls actual) a j q (starts x table_bytes t calls actual m p)
    -- and all that is claimed of a flight
    pub flies : Flight x table_bytes t calls actual

-- of the public calls' answers: `file` is what the cut wrote, and the table is one that the check answers 0 to for it
pub record RunsBoth (request file table_bytes : List ℕ) (i : ℕ) : Type 0 where
  -- the old request is within the limits too, since the cut one is: its H is the same and its jobs are fewer
  pub old : Instance
  pub old_within : Within request old
  pub known : i < length old.tasks
  pub x : Instance
  pub within : Within file x
  pub same_cycle : x.h ≡ old.h
  pub same_silence : x.g ≡ old.g
  pub t : Table
  pub says : SaysTable table_bytes t
  pub runs_both : (calls : List Call) (actual : ℕ → ℕ → ℕ) → KeepToC x (frames_flown table_bytes calls) actual → PiecesRun old x i table_bytes t calls actual

-- what the cut of task i at u wrote
abbrev pub cut_file : List ℕ → ℕ → ℕ → List ℕ → List ℕ
cut_file request i u out = file_of (cut i u (reading request)) out

-- for every request that was cut and every table that the check accepts for the cut file
abbrev pub CheckedPieces : Type 0
CheckedPieces = (request : List ℕ) (i u : ℕ) (out : List ℕ) → (request_answer (cut i u (reading request)) out).refusal ≡ 0
    → (table_bytes : List ℕ) → Bytes table_bytes → check_number (cut_file request i u out) table_bytes ≡ 0 → RunsBoth request (cut_file request i u out) table_bytes i

-- and for the table that the planner hands out for it
abbrev pub PlannedPieces : Type 0
PlannedPieces = (request : List ℕ) (i u : ℕ) (out : List ℕ) → (request_answer (cut i u (reading request)) out).refusal ≡ 0
    → (allowance : ℕ) (room : List ℕ) → (searched_answer allowance (cut_file request i u out) room).refusal ≡ 0
    → RunsBoth request (cut_file request i u out) (handed_bytes allowance (cut_file request i u out) room) i
