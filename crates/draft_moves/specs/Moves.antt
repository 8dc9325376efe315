-- The theorem over lists. 02, R-10: "After every list of them on a started draft, all under the request it started with, each stored load equals its row's
-- sum."
use Rattle.std.specs.Prelude.{ℕ, ◌≤◌, ◌<◌, ◌≡◌, ◌↔◌, ◌⊎◌, List, [], ◌∷◌, length, take}
use Rattle.cursor.specs.Fields.{Bytes}
use Rattle.table.specs.Table.{Table}
use Rattle.table.specs.TableBytes.{SaysTable}
use Rattle.model.specs.Plan.{Instance}
use Rattle.model.specs.Within.{Within}
use Rattle.model.specs.Described.{Accepted}
use Rattle.draft.specs.Draft.{frame_of, load_at, row_count, sum_of, start, lift, put}
use Rattle.draft.specs.Kept.{Sized, IsLifted, IsPlaced, Sound}
use Rattle.draft.specs.declared.Draft.{Draft}
use Rattle.draft.specs.Numbered.{Drafted}
use Rattle.draft_moves.specs.Exactly.{AllPlaced, Unknown, InItsWindow, RowOver, OutOfOrder, Touched, Lifted, Put}
use Rattle.draft_moves.specs.Exactly.{write_answer, buffer_after, size_of, WrittenOut}

-- a lift of job y; a put of job y into frame k
pub data Move : Type 0 where
  lifts : ℕ → Move
  puts : ℕ → ℕ → Move

abbrev pub move_answer : List ℕ → Draft → Move → Drafted
move_answer request d (lifts y) = lift request d y
move_answer request d (puts y k) = put request d y k

-- the draft after a list of them, refused ones among them: each takes the draft that the last one gave
unfoldable pub draft_after : List ℕ → Draft → List Move → Draft
draft_after request d [] = d
draft_after request d (m ∷ ms) = draft_after request (move_answer request d m).draft ms

-- What a move answers on a draft that is sound: 26 is given only for an unknown job, a lift of a lifted one or a put of a placed one
pub record LiftSays (x : Instance) (d : Draft) (y : ℕ) (a : Drafted) : Type 0 where
  pub twenty_six : (a.refusal ≡ 26) ↔ (Unknown x y ⊎ IsLifted x d y)
  pub lifted : (a.refusal ≡ 0) ↔ IsPlaced x d y
  pub after : a.refusal ≡ 0 → Lifted x d y a.draft
  pub unchanged : (a.refusal ≡ 0 → ⊥) → a.draft ≡ d

pub record PutSays (x : Instance) (d : Draft) (y k : ℕ) (a : Drafted) : Type 0 where
  pub twenty_six : (a.refusal ≡ 26) ↔ (Unknown x y ⊎ IsPlaced x d y)
  pub twenty_seven : (a.refusal ≡ 27) ↔ (IsLifted x d y × (InItsWindow x d y k → ⊥))
  pub twenty_eight : (a.refusal ≡ 28) ↔ (IsLifted x d y × InItsWindow x d y k × (RowOver x d y k ⊎ OutOfOrder x d y k))
  pub placed : (a.refusal ≡ 0) ↔ (IsLifted x d y × InItsWindow x d y k × (RowOver x d y k → ⊥) × (OutOfOrder x d y k → ⊥))
  pub after : a.refusal ≡ 0 → Put x d y k a.draft
  pub unchanged : (a.refusal ≡ 0 → ⊥) → a.draft ≡ d

-- the draft d after a list of moves on the draft of table t. Every front of a list is a list, so this holds between the moves too.
pub record Holds (request : List ℕ) (x : Instance) (t : Table) (d : Draft) : Type 0 where
  pub same_f : d.f ≡ t.f
  pub sized : Sized d
  -- "each stored load equals its row's sum"
  pub loads_are : (r : ℕ) → r < row_count x d → load_at x d r ≡ sum_of x d r
  -- and the placed jobs keep window, capacity and order, with a plausible frame length: 26 never comes from the draft
  pub sound : Sound x d
  -- "Unused places start as frame 0 and load 0 and are kept."
  pub unused_jobs : (y : ℕ) → length x.jobs ≤ y → frame_of x d y ≡ 0
  pub unused_rows : (r : ℕ) → row_count x d ≤ r → load_at x d r ≡ 0
  -- "either touches one job and one row": the next move, refused or not
  pub next_touches : (m : Move) → (y : ℕ) × (r : ℕ) × Touched x d (move_answer request d m).draft y r
  -- what the next call answers, whichever it is: a lift, a put, or writing
  pub next_lift : (y : ℕ) → LiftSays x d y (lift request d y)
  pub next_put : (y k : ℕ) → PutSays x d y k (put request d y k)
  pub next_write : (out : List ℕ) → size_of x d ≤ length out → ((write_answer request d out).refusal ≡ 0) ↔ AllPlaced x d
  pub short_write : (out : List ℕ) → length out < size_of x d → ((write_answer request d out).refusal ≡ 11) ↔ AllPlaced x d
  pub lifted_write : (out : List ℕ) → ((write_answer request d out).refusal ≡ 26) ↔ ((y : ℕ) × IsLifted x d y)
  pub written : (out : List ℕ) → (write_answer request d out).refusal ≡ 0 → WrittenOut request d out x

pub record Draftable (request bytes : List ℕ) : Type 0 where
  pub x : Instance
  pub within : Within request x
  pub t : Table
  pub says : SaysTable bytes t
  pub table_accepted : Accepted x t
  pub holds : (moves : List Move) → Holds request x t (draft_after request (start request bytes).draft moves)

-- THE THEOREM: of every request, every table that a draft starts from, and every list of lifts and puts
abbrev pub MovesTheorem : Type 0
MovesTheorem = (request bytes : List ℕ) → Bytes bytes → (start request bytes).refusal ≡ 0 → Draftable request bytes

-- A draft that is written as it was started gives the table's own bytes.
abbrev pub SameBytesTheorem : Type 0
SameBytesTheorem = (request bytes : List ℕ) → Bytes bytes → (start request bytes).refusal ≡ 0 → (out : List ℕ) → length bytes ≤ length out
    → let d = (start request bytes).draft in
    ((write_answer request d out).refusal ≡ 0) × (take (write_answer request d out).length (buffer_after request d out) ≡ bytes)
