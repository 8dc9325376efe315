-- The answers of the functions as values of their types, and what they say of the table that the bytes have.
use Rattle.std.specs.Prelude.{ℕ, ◌+◌, ◌*◌, ◌≤◌, ◌<◌, ◌≡◌, Bool, ◌&&◌, List, get_or, leb}
use Rattle.table.specs.Table.{Table, table, decode, row_of}
use Rattle.model.specs.Plan.{Instance}
use Rattle.model.specs.Slots.{slots}
use Rattle.one_off.specs.OneOff.{Offer, in_frame, refusal, frame_fits, earliest}
use Rattle.one_off.specs.Numbered.{FrameFound}

-- "A refusal returns its number", and no frame
abbrev pub offer_answer : Offer → FrameFound
offer_answer (in_frame k) = record { refusal = 0; frame = k }
offer_answer (refusal number) = record { refusal = number; frame = 0 }

-- the used times of the first k rows stand in their places; each is of at most 16 entries
pub record UsedTimes (x : Instance) (bytes : List ℕ) (k : ℕ) (times : List ℕ) : Type 0 where
  pub of : (t : Table) → decode bytes ≡ table t → (i : ℕ) → i < k → get_or times i 0 ≡ slots x (row_of t i)
  pub few : (i : ℕ) → i < k → get_or times i 0 ≤ 16 * 4294967295

-- the three tests of frame k, whose row has so much used time
unfoldable pub fits_by : ℕ → ℕ → ℕ → ℕ → ℕ → ℕ → ℕ → Bool
fits_by L s e f g used k = leb s (k * f) && (leb ((k + 1) * f) e && leb (used + (L + g)) f)

module _ (L s e : ℕ) (x : Instance) (bytes : List ℕ) where
  -- whether frame k fits
  pub record FitsIn (k : ℕ) (r : Bool) : Type 0 where
    pub of : (t : Table) → decode bytes ≡ table t → r ≡ frame_fits L s e x t k

  -- the earliest frame that fits
  pub record EarliestIn (r : FrameFound) : Type 0 where
    pub of : (t : Table) → decode bytes ≡ table t → r ≡ offer_answer (earliest L s e x t)
