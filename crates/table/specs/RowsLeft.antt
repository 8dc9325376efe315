-- The rows of a table stand in its bytes one behind the other, so that a reader that goes on from a cursor answers them in turn.
use Rattle.std.specs.Prelude.{ℕ, ◌+◌, ◌*◌, ◌<◌, ◌≡◌}
use Rattle.std.proofs.Math.Path.{sym, subst}
use Rattle.std.proofs.Common.{◌∙◌, arith, drop-cons, drop_at, drop-drop}
use mathlib.Core.List.{List, [], ◌++◌, flat_map}
use Rattle.std.proofs.Math.Numerals.{add-one}
use Rattle.std.proofs.Math.ListN.{length, drop}
use Rattle.cursor.specs.Parsed.{got}
use Rattle.cursor.specs.Fields.{Bytes}
use Rattle.table.specs.Table.{Table, table, decode, row_from, row_bytes, rows_bytes, row_of}
use Rattle.table.specs.RisingLaws.{row_rises}
use Rattle.table.specs.LengthLaws.{entries_length, rows_behind}
use Rattle.table.specs.Inverse.{row_read, decode_wellformed, encode_decode}
use Rattle.table.specs.Answers.{TakenRow, row_answer, row_at}
use Rattle.table.specs.AnswerLaws.{row_answered_lem}

-- where the bytes are a table, its rows from row k on stand at the place `at`, and nothing behind them
pub record RowsLeft (s : List ℕ) (at k : ℕ) : Type 0 where
  pub of : Bytes s → (t : Table) → decode s ≡ table t → drop at s ≡ rows_bytes (drop k t.rows)

-- all, at the first place
pub rows_begin : (s : List ℕ) → RowsLeft s 7 0
rows_begin s = record { of = λ are t is. rw (← encode_decode s t are is) (rows_behind t) }

module _ (s : List ℕ) (at k : ℕ) (so : RowsLeft s at k) (are : Bytes s) (t : Table) (is : decode s ≡ table t) (below : k < length t.rows) where
  split : drop at s ≡ row_bytes (row_of t k) ++ rows_bytes (drop (k + 1) t.rows)
  unfolding flat_map
  split = so.of are t is ∙ rw (drop-cons t.rows k [] below, add-one k)

  read : row_from (drop at s) ≡ got (row_of t k) (rows_bytes (drop (k + 1) t.rows))
  read = rw split (row_read (row_of t k) (rows_bytes (drop (k + 1) t.rows)) (row_rises t k (decode_wellformed s t is)))

  wide : length (row_bytes (row_of t k)) ≡ 1 + 2 * length (row_of t k)
  unfolding row_bytes
  wide = omega (arith, entries_length (row_of t k))

  behind : drop (at + 1 + 2 * length (row_of t k)) s ≡ rows_bytes (drop (k + 1) t.rows)
  behind =
      let sum : at + 1 + 2 * length (row_of t k) ≡ at + (1 + 2 * length (row_of t k)) = omega arith in
      rw (sum, ← drop-drop (1 + 2 * length (row_of t k)) at s, split) (drop_at (row_bytes (row_of t k)) _ _ wide)

  module _ (r : TakenRow) (e : r ≡ row_at s at) where
    -- the row k is answered
    pub row_there : r.row ≡ row_answer k (decode s)
    unfolding row_at
    row_there = rw (e, read) (sym (row_answered_lem s t k is below))

    -- and the cursor stands at the row behind it
    pub rows_go_on : RowsLeft s r.next.at (k + 1)
    unfolding row_at
    rows_go_on = rw (e, read) (record { of = λ bytes u same. subst (λ (v : Table). drop (at + 1 + 2 * length (row_of t k)) s ≡ rows_bytes (drop (k + 1) v.rows)) (one u same) behind })
      where
        one : (u : Table) → decode s ≡ table u → t ≡ u
        one u same = let q : table t ≡ table u = sym is ∙ same in cc
