-- Time for a one-off transfer: 02, R-6.
use Rattle.std.specs.Prelude.{ℕ, ◌+◌, ◌*◌, ◌%◌, Bool, cond, ◌&&◌, length, leb, ltb, eqb}
use mathlib.Core.List.{List, foldr}
use Rattle.cursor.specs.Range.{range}
use Rattle.cycle.specs.Cycle.{Cycle, cycle, no_cycle, cycle_of}
use Rattle.table.specs.Table.{Table, Decoded, table, malformed, decode, row_of}
use Rattle.model.specs.Plan.{Instance}
use Rattle.model.specs.Slots.{slots}
use Rattle.model.specs.Answers.{instance}
use Rattle.checker.specs.Checked.{check_number}

-- the frame, counted from time 0; or the number of the refusal
pub data Offer : Type 0 where
  in_frame : ℕ → Offer
  refusal : ℕ → Offer

-- "Used time counts every entry, carried ones also in the first cycle, as its C + g.": that of frame k is its row's, in every cycle
abbrev pub used_in : Instance → Table → ℕ → ℕ
used_in x t k = slots x (row_of t (k % length t.rows))

-- "a length L and ticks s ≤ e"
module _ (L s e : ℕ) where
  -- "k·f ≥ s, (k+1)·f ≤ e and enough unused time in its row for L + g"
  unfoldable pub frame_fits : Instance → Table → ℕ → Bool
  frame_fits x t k = leb s (k * t.f) && (leb ((k + 1) * t.f) e && leb (used_in x t k + (L + x.g)) t.f)

  -- not "L is 0, s > e or e > 2H"
  unfoldable pub well_asked : ℕ → Bool
  well_asked h = ltb 0 L && (leb s e && leb e (2 * h))

  -- "the earliest frame" of two cycles, since e is at most 2H; 22 "when no frame fits"
  unfoldable pub earliest : Instance → Table → Offer
  earliest x t = foldr (λ k later. cond (frame_fits x t k) (in_frame k) later) (refusal 22) (range 0 (2 * length t.rows))

  -- "It refuses with 21 if L is 0, s > e or e > 2H, and then with 22"
  unfoldable pub offered : Instance → Table → Offer
  offered x t = cond (well_asked x.h) (earliest x t) (refusal 21)

  -- of what the check accepts; the other cases it has refused
  abbrev pub offered_to : Cycle → Decoded → Offer
  offered_to (cycle tasks pairs g h jobs) (table t) = offered (instance tasks pairs g h jobs) t
  offered_to (cycle tasks pairs g h jobs) malformed = refusal 12
  offered_to (no_cycle number) d = refusal number

  -- "The request and table are checked first."
  unfoldable pub one_off : List ℕ → List ℕ → Offer
  one_off request bytes = cond (eqb (check_number request bytes) 0) (offered_to (cycle_of request) (decode bytes)) (refusal (check_number request bytes))
