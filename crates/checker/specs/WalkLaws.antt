-- The walks over a table's bytes. The rows that stand in the bytes of a decoded table are the table's rows; and one turn of each walk: what is
-- left of the rows at a place gives what the whole gives.
use Prim.Native.Nat.{ℕ, zero, suc, ◌+◌, ◌*◌, ◌-◌, ◌%◌, ◌≤◌, ◌<◌}
use Rattle.std.specs.Prelude.{◌≡◌, Bool, true, false, Some, None, drop, leb}
use Rattle.std.proofs.Math.Path.{refl, sym}
use Rattle.std.proofs.Common.{ap, ◌∙◌, get_or-drop, drop-drop}
use mathlib.Core.List.{List, [], ◌∷◌, ◌++◌, flat_map}
use Rattle.std.proofs.Math.Nat.{sub-zero}
use native.Mathlib.Omega.{arith}
use Rattle.std.proofs.Math.ListN.{length, get_or}
use Rattle.cursor.specs.Fields.{Bytes}
use Rattle.cycle.specs.declared.Job.{Job}
use Rattle.table.specs.Table.{Entry, Table, table, decode, entry_of, entries_bytes, row_bytes, rows_bytes}
use Rattle.table.specs.WellFormed.{RisingFrom, AllRising}
use Rattle.table.specs.Left.{less_one, none_left}
use Rattle.table.specs.EntryLaws.{entry_back}
use Rattle.table.specs.LengthLaws.{rows_behind}
use Rattle.table.specs.Inverse.{decode_wellformed, encode_decode}
use Rattle.model.specs.Named.{is_job}
use Rattle.checker.specs.Checked.{Position, position_in_row, or_else, position_in, entry_kept, row_kept, rows_kept}
use Rattle.checker.specs.PositionLaws.{RightIn, place_right}
use Rattle.checker.specs.Answers.{entries_in, rows_in, rows_of}

-- The bytes of a table's rows are its rows.

module _ (s : List ℕ) where
  -- what stands at a place, from what stands from there on
  byte_at_lem : (at j : ℕ) (bytes : List ℕ) → drop at s ≡ bytes → get_or s (at + j) 0 ≡ get_or bytes j 0
  byte_at_lem at j bytes e = sym (get_or-drop at s j 0) ∙ ap (λ (l : List ℕ). get_or l j 0) e

  further : (at j : ℕ) (bytes : List ℕ) → drop at s ≡ bytes → drop (at + j) s ≡ drop j bytes
  further at j bytes e = sym (drop-drop j at s) ∙ ap (drop j) e

  entries_are : (es : List Entry) (low at : ℕ) (rest : List ℕ) → RisingFrom low es → drop at s ≡ entries_bytes es ++ rest
      → (entries_in s (length es) at ≡ es) × (drop (at + 2 * length es) s ≡ rest)
  unfolding entries_in entries_bytes RisingFrom
  entries_are [] low at rest h e = (refl, let same : at + 2 * 0 ≡ at = omega arith in rw same e)
  entries_are (a ∷ es) low at rest h e =
      let zeroth : at + 0 ≡ at = omega arith in
      let task : get_or s at 0 ≡ a.task = rw zeroth at (byte_at_lem at 0 _ e) in
      let more = entries_are es (a.task + 1) (at + 2) rest h.3 (further at 2 _ e) in
      let end : at + 2 * suc (length es) ≡ at + 2 + 2 * length es = omega arith in
      (rw (task, byte_at_lem at 1 _ e, entry_back a h.2, more.0), rw end more.1)

  rows_are : (rows : List (List Entry)) (at : ℕ) → AllRising rows → drop at s ≡ rows_bytes rows → rows_in s (length rows) at ≡ rows
  unfolding rows_in flat_map row_bytes AllRising
  rows_are [] at h e = refl
  rows_are (es ∷ rows) at h e =
      let zeroth : at + 0 ≡ at = omega arith in
      let count : get_or s at 0 ≡ length es = rw zeroth at (byte_at_lem at 0 _ e) in
      let row = entries_are es 0 (at + 1) (rows_bytes rows) h.0 (further at 1 _ e) in
      rw (count, row.0, rows_are rows (at + 1 + 2 * length es) h.1 row.1)

-- the rows of a decoded table stand in its bytes
pub rows_in_bytes : (s : List ℕ) (t : Table) → Bytes s → decode s ≡ table t → rows_of s (length t.rows) ≡ t.rows
rows_in_bytes s t bytes e =
    rows_are s t.rows 7 (decode_wellformed s t e).rising (ap (drop 7) (sym (encode_decode s t bytes e)) ∙ rows_behind t)

pub rows_count : (s : List ℕ) (k at : ℕ) → length (rows_in s k at) ≡ k
unfolding rows_in
rows_count s zero at = refl
rows_count s (suc k) at = ap suc (rows_count s k (at + 1 + 2 * get_or s at 0))

-- The walk for a job.

-- a job is found in one of the rows
pub found_below : (s : List ℕ) (height : ℕ) (job : Job) (r : ℕ) (carried : Bool) → position_in job 0 (rows_of s height) ≡ Some (r, carried) → r < height
found_below s height job r carried e =
    let right : RightIn job 0 (rows_of s height) (Some (r, carried)) = rw e at (place_right job 0 (rows_of s height)) in
    let (j, is, low, m) = right in
    omega (arith, rows_count s height 7)

-- the rest of the walk inside row `row`, at its entry e of n
unfoldable pub walk_in_row : List ℕ → Job → ℕ → ℕ → ℕ → ℕ → ℕ → Position
walk_in_row s job height row n e at =
    or_else (position_in_row job row (entries_in s (n - e) at)) (position_in job (row + 1) (rows_in s (height - (row + 1)) (at + 2 * (n - e))))

module _ (s : List ℕ) (job : Job) (height : ℕ) where
  module _ (row at : ℕ) where
    pub row_starts : row < height → walk_in_row s job height row (get_or s at 0) 0 (at + 1) ≡ position_in job row (rows_in s (height - row) at)
    unfolding walk_in_row position_in rows_in
    row_starts h = rw (less_one height row h) (simp sub-zero)

    pub walk_ends : height ≤ row → position_in job row (rows_in s (height - row) at) ≡ None
    unfolding position_in rows_in
    walk_ends h = rw (none_left height row h)

    module _ (n e : ℕ) where
      pub row_ends : n ≤ e → walk_in_row s job height row n e at ≡ position_in job (row + 1) (rows_in s (height - (row + 1)) at)
      unfolding walk_in_row position_in_row entries_in
      row_ends h = let same : at + 2 * 0 ≡ at = omega arith in rw (none_left n e h, same)

      pub entry_names : e < n → is_job (get_or s at 0) (get_or s (at + 1) 0 % 128) job ≡ true
          → walk_in_row s job height row n e at ≡ Some (row, (leb 128 (get_or s (at + 1) 0)))
      unfolding walk_in_row position_in_row entries_in entry_of
      entry_names h q = rw (less_one n e h, q)

      pub entry_other : e < n → is_job (get_or s at 0) (get_or s (at + 1) 0 % 128) job ≡ false
          → walk_in_row s job height row n (e + 1) (at + 2) ≡ walk_in_row s job height row n e at
      unfolding walk_in_row position_in_row entries_in entry_of
      entry_other h q =
          let same : at + 2 * suc (n - (e + 1)) ≡ at + 2 + 2 * (n - (e + 1)) = omega arith in
          rw (less_one n e h, q, same)

-- The walk over the entries, to see that each is that of a job in its frame.

module _ (jobs : List Job) (frames : List ℕ) (count height : ℕ) (s : List ℕ) where
  module _ (row n : ℕ) where
    module _ (e at : ℕ) where
      entry_first : e < n → row_kept jobs frames count height row (entries_in s (n - e) at)
          ≡ row_kept jobs frames count height row (entry_of (get_or s at 0) (get_or s (at + 1) 0) ∷ entries_in s (n - (e + 1)) (at + 2))
      unfolding entries_in
      entry_first h = rw (less_one n e h)

      pub entry_kept_lem : e < n → entry_kept jobs frames count height row (entry_of (get_or s at 0) (get_or s (at + 1) 0)) ≡ true
          → row_kept jobs frames count height row (entries_in s (n - (e + 1)) (at + 2)) ≡ row_kept jobs frames count height row (entries_in s (n - e) at)
      unfolding row_kept
      entry_kept_lem h q = sym (entry_first h ∙ rw q)

      pub entry_broken : e < n → entry_kept jobs frames count height row (entry_of (get_or s at 0) (get_or s (at + 1) 0)) ≡ false
          → false ≡ row_kept jobs frames count height row (entries_in s (n - e) at)
      unfolding row_kept
      entry_broken h q = sym (entry_first h ∙ rw q)

      pub entries_done : n ≤ e → true ≡ row_kept jobs frames count height row (entries_in s (n - e) at)
      unfolding row_kept entries_in
      entries_done h = rw (none_left n e h)

  module _ (row at : ℕ) where
    row_first : row < height → rows_kept jobs frames count height row (rows_in s (height - row) at)
        ≡ rows_kept jobs frames count height row (entries_in s (get_or s at 0) (at + 1) ∷ rows_in s (height - (row + 1)) (at + 1 + 2 * get_or s at 0))
    unfolding rows_in
    row_first h = rw (less_one height row h)

    pub row_kept_lem : row < height → row_kept jobs frames count height row (entries_in s (get_or s at 0) (at + 1)) ≡ true
        → rows_kept jobs frames count height (row + 1) (rows_in s (height - (row + 1)) (at + 1 + 2 * get_or s at 0))
        ≡ rows_kept jobs frames count height row (rows_in s (height - row) at)
    unfolding rows_kept
    row_kept_lem h q = sym (row_first h ∙ rw q)

    pub row_broken : row < height → row_kept jobs frames count height row (entries_in s (get_or s at 0) (at + 1)) ≡ false
        → false ≡ rows_kept jobs frames count height row (rows_in s (height - row) at)
    unfolding rows_kept
    row_broken h q = sym (row_first h ∙ rw q)

    pub rows_done : height ≤ row → true ≡ rows_kept jobs frames count height row (rows_in s (height - row) at)
    unfolding rows_kept rows_in
    rows_done h = rw (none_left height row h)
