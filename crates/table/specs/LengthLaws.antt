-- How many bytes a table has: 7, one for each row and two for each entry. Of a layout's entries, those count whose row is one of the table's.
use Prim.Native.Nat.{ℕ, zero, suc, ◌+◌, ◌*◌, ◌≤◌, ◌<◌}
use Rattle.std.specs.Prelude.{◌≡◌, Bool, true, false, ◌&&◌, length, take, drop, count_by, leb, ltb, eqb}
use Rattle.std.proofs.Math.Path.{refl}
use Rattle.std.proofs.Common.{sym, ap, add-one, add-zero, zero-add, length-append, drop_at, drop-cons}
use mathlib.Core.List.{List, [], ◌∷◌, flat_map}
use native.Mathlib.Omega.{arith}
use Rattle.std.proofs.Math.ListN.{get_or, length-map}
use Rattle.std.proofs.lemmas.List.Sums.{sum_by-cons}
use borrow.Author.Tests.{leb-true, leb-false, eqb-true, eqb-false, le-leb, lt-leb, lt-ltb, le-ltb}
use Rattle.cursor.specs.Choice.{bit, keep}
use Rattle.cursor.specs.WordBytesLaws.{word_parts}
use Rattle.table.specs.Table.{Entry, Table, entries_bytes, row_bytes, rows_bytes, head_bytes, encode}
use Rattle.table.specs.Layout.{indices_in, entry_at, row_in, rows_in, entry_total, table_of}
use Rattle.table.specs.Promises.{between}
use Rattle.table.specs.declared.Layout.{Layout}

-- the entries in all rows
unfoldable pub entry_count : List (List Entry) → ℕ
entry_count [] = 0
entry_count (es ∷ rows) = length es + entry_count rows

pub entries_length : (es : List Entry) → length (entries_bytes es) ≡ 2 * length es
unfolding entries_bytes
entries_length [] = refl
entries_length (e ∷ es) = omega (arith, entries_length es)

pub rows_length : (rows : List (List Entry)) → length (rows_bytes rows) ≡ length rows + 2 * entry_count rows
unfolding flat_map row_bytes entry_count
rows_length [] = refl
rows_length (es ∷ rows) = omega (arith, length-append (row_bytes es) (rows_bytes rows), entries_length es, rows_length rows)

pub head_length : (f h height : ℕ) → length (head_bytes f h height) ≡ 7
unfolding head_bytes
head_length f h height = rw (word_parts f, word_parts h, word_parts height)

-- the rows stand behind the sizes and F
pub rows_behind : (t : Table) → drop 7 (encode t) ≡ rows_bytes t.rows
unfolding encode
rows_behind t =
    let height = length t.rows in
    drop_at (head_bytes t.f t.h height) (rows_bytes t.rows) 7 (head_length t.f t.h height)

-- "7 + F + 2·(number of jobs) bytes"
pub encode_length : (t : Table) → length (encode t) ≡ 7 + length t.rows + 2 * entry_count t.rows
unfolding encode
encode_length t =
    let height = length t.rows in
    omega (arith, length-append (head_bytes t.f t.h height) (rows_bytes t.rows), head_length t.f t.h height, rows_length t.rows)

-- an entry's row is `low`, or later
one_row_lem : (r low high : ℕ) → low < high → bit (leb low r && ltb r high) ≡ bit (eqb r low) + bit (leb (low + 1) r && ltb r high)
one_row_lem r low high h = go (eqb r low) refl (leb low r) refl
  where
    go : (t : Bool) → eqb r low ≡ t → (s : Bool) → leb low r ≡ s
        → bit (leb low r && ltb r high) ≡ bit (eqb r low) + bit (leb (low + 1) r && ltb r high)
    go true q s w =
        let same : r ≡ low = eqb-true r low q in
        rw (q, le-leb low r (omega arith), lt-ltb r high (omega arith), lt-leb (low + 1) r (omega arith))
    go false q true w =
        let other = eqb-false r low q in
        let after = leb-true low r w in
        rw (q, w, le-leb (low + 1) r (omega arith)) (omega arith)
    go false q false w = let before = leb-false low r w in rw (q, w, lt-leb (low + 1) r (omega arith))

no_row : (r low : ℕ) → bit (leb low r && ltb r low) ≡ 0
no_row r low = go (leb low r) refl
  where
    go : (t : Bool) → leb low r ≡ t → bit (t && ltb r low) ≡ 0
    go true q = rw (le-ltb r low (leb-true low r q))
    go false q = refl

kept_length : (t : Bool) (i : ℕ) (is : List ℕ) → length (keep t i is) ≡ bit t + length is
kept_length true i is = omega arith
kept_length false i is = omega arith

module _ (rows : List ℕ) where
  -- the entries of row `low`, and those of the rows behind it
  between_first : (low high : ℕ) → low < high → (m i : ℕ) → between rows low high m i ≡ length (indices_in rows low m i) + between rows (low + 1) high m i
  unfolding between indices_in
  between_first low high h zero i = refl
  between_first low high h (suc m) i =
      let r = get_or rows i 0 in
      omega (arith, one_row_lem r low high h, kept_length (eqb r low) i (indices_in rows low m (i + 1)), between_first low high h m (i + 1))

  between_none : (low m i : ℕ) → between rows low low m i ≡ 0
  unfolding between
  between_none low zero i = refl
  between_none low (suc m) i = omega (arith, no_row (get_or rows i 0) low, between_none low m (i + 1))

  rows_hold : (tasks jobs : List ℕ) (n m k : ℕ) → entry_count (rows_in rows tasks jobs n m k) ≡ between rows k (k + m) n 0
  unfolding entry_count rows_in row_in
  rows_hold tasks jobs n zero k = rw (add-zero, between_none k n 0)
  rows_hold tasks jobs n (suc m) k =
      let next : k + 1 + m ≡ k + suc m = omega arith in
      omega (
        arith,
        length-map (indices_in rows k n 0) (entry_at tasks jobs),
        rw next at (rows_hold tasks jobs n m (k + 1)),
        between_first k (k + suc m) (omega arith) n 0,
      )

  pub table_holds : (tasks jobs : List ℕ) (n height : ℕ) → entry_count (rows_in rows tasks jobs n height 0) ≡ between rows 0 height n 0
  table_holds tasks jobs n height = rw zero-add at (rows_hold tasks jobs n height 0)

  -- counted in a list
  rows_below : (height m i : ℕ) → i + m ≤ length rows → between rows 0 height m i ≡ count_by (λ (r : ℕ). ltb r height) (take m (drop i rows))
  unfolding between
  rows_below height zero i h = refl
  rows_below height (suc m) i h =
      let first : drop i rows ≡ get_or rows i 0 ∷ drop (i + 1) rows = rw add-one (drop-cons rows i 0 (omega arith)) in
      rw (first, le-leb 0 (get_or rows i 0) (omega arith), rows_below height m (i + 1) (omega arith))
      (sym (sum_by-cons (λ (r : ℕ). bit (ltb r height)) (get_or rows i 0) (take m (drop (i + 1) rows))))

  pub entries_counted : (height n : ℕ) → n ≤ length rows → count_by (λ (r : ℕ). ltb r height) (take n rows) ≡ between rows 0 height n 0
  entries_counted height n h = sym (rows_below height n 0 (omega arith))

pub rows_count : (rows tasks jobs : List ℕ) (n m k : ℕ) → length (rows_in rows tasks jobs n m k) ≡ m
unfolding rows_in
rows_count rows tasks jobs n zero k = refl
rows_count rows tasks jobs n (suc m) k = ap suc (rows_count rows tasks jobs n m (k + 1))

pub layout_length : (l : Layout) → length (encode (table_of l)) ≡ 7 + l.height + 2 * between l.rows 0 l.height (entry_total l) 0
unfolding table_of
layout_length l =
    let n = entry_total l in
    omega (
      arith,
      encode_length (table_of l),
      rows_count l.rows l.tasks l.jobs n l.height 0,
      table_holds l.rows l.tasks l.jobs n l.height,
    )
